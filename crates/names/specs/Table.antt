-- The table of the names that a text has defined so far, each with its bytes; a name's id is the place at which it was added.
-- Names whose hashes fall into the same bucket form a list, the greatest id first.
use Rattle.std.specs.Prelude.{ℕ, zero, suc, ◌+◌, ◌%◌, ◌≤◌, ◌<◌, ◌≡◌, true, cond, List, [], map, eqb, length, get_or, take, Option, None, Some}
use Rattle.maps.specs.Limits.{size_range}
use Rattle.maps.specs.Lists.{below}
use Rattle.blif.specs.Words.{Word}
use Rattle.blif.specs.Names.{fresh}
use Rattle.blif.specs.Limits.{name_most}
use Rattle.scan.specs.Hash.{hash_of}
use Rattle.names.specs.declared.Entry.{Entry}
use Rattle.names.specs.declared.Names.{Names}

-- how many lists there are
abbrev pub buckets : ℕ
buckets = 512

-- the names in the table
abbrev pub no_entry : Entry
no_entry = record { hash = 0; next = None; size = 0; bytes = [] }

abbrev pub entry_in : (table : Names) → (id : ℕ) → Entry
entry_in table i = get_or table.entries i no_entry

abbrev pub word_of : Entry → Word
word_of e = take e.size e.bytes

abbrev pub name_in : (table : Names) → (id : ℕ) → Word
name_in table i = word_of (entry_in table i)

abbrev pub names_in : (table : Names) → (count : ℕ) → List Word
names_in table n = map (name_in table) (below n)

-- an id, counted from 1; 0 where there is none
abbrev pub slot : Option ℕ → ℕ
slot None = 0
slot (Some i) = i + 1

-- the bucket of a name
abbrev pub bucket_of : Word → ℕ
bucket_of w = hash_of w % buckets

abbrev pub bucket_in : (table : Names) → (id : ℕ) → ℕ
bucket_in table i = bucket_of (name_in table i)

-- the greatest of the first n ids whose bucket is b, counted from 1; 0 where there is none
unfoldable pub last_in : (bucket : ℕ → ℕ) → (b n : ℕ) → ℕ
last_in bucket b zero = 0
last_in bucket b (suc n) = cond (eqb (bucket n) b) (suc n) (last_in bucket b n)

-- a table of the first names, each of which stands in it once
pub record Listed (table : Names) (count : ℕ) : Type 0 where
  pub heads_size : length table.heads ≡ buckets
  pub entries_size : length table.entries ≡ size_range.high
  pub few : count ≤ size_range.high
  pub short : (i : ℕ) → i < count → (entry_in table i).size ≤ name_most
  pub heads : (b : ℕ) → b < buckets → slot (get_or table.heads b None) ≡ last_in (bucket_in table) b count
  pub links : (i : ℕ) → i < count → slot (entry_in table i).next ≡ last_in (bucket_in table) (bucket_in table i) i
  pub hashes : (i : ℕ) → i < count → (entry_in table i).hash ≡ hash_of (name_in table i)
  pub once : fresh [] (names_in table count) ≡ true
