-- The names in a table, and one more name.
use Prim.Native.Nat.{ℕ, zero, suc, ◌+◌, ◌≤◌, ◌<◌}
use mathlib.Core.Path.{◌≡◌, refl, sym, ap, subst, ◌∙◌}
use mathlib.Core.Bool.{Bool, true, false}
use mathlib.Core.List.{List, [], ◌∷◌, ◌++◌}
use mathlib.Core.Logic.{◌⊎◌, inl, inr}
use native.Mathlib.Omega.{arith}
use native.Mathlib.Nat.{not-suc-le-zero}
use lib.Dec.{eqb}
use lib.ListN.{length, get_or, set, replicate, length-replicate, length-set}
use lib.Seq.{get_or-set_same, get_or-set_other}
use borrow.Author.Tests.{eqb-true, eqb-false}
use Rattle.maps.specs.Limits.{size_range}
use Rattle.maps.proofs.Over.{length_over, get_d_over, last_or}
use Rattle.std.specs.Prelude.{Option, None, Some}
use Rattle.blif.specs.Words.{Word}
use Rattle.blif.specs.Names.{has, fresh}
use Rattle.blif.specs.Limits.{name_most}
use Rattle.scan.specs.Hash.{hash_of}
use Rattle.names.specs.declared.Entry.{Entry}
use Rattle.names.specs.declared.Names.{Names}
use Rattle.names.specs.Table.{buckets, no_entry, entry_in, word_of, name_in, names_in, slot, bucket_of, bucket_in, last_in, Listed}
use Rattle.names.proofs.Ids.{fresh-more}
use Rattle.names.proofs.Buckets.{last-new, last-old, last-same}
use Rattle.names.proofs.Entries.{over-same, over-more}

pub length-names : (table : Names) (n : ℕ) → length (names_in table n) ≡ n
length-names table n = length_over (name_in table) [] n

pub name_of : (table : Names) (n i : ℕ) → i < n → get_or (names_in table n) i [] ≡ name_in table i
name_of table n i l = get_d_over (name_in table) [] n i l

pub bucket-inside : (w : Word) → bucket_of w < buckets
bucket-inside w = omega arith

all_none : (n i : ℕ) → get_or {A = Option ℕ} (replicate n None) i None ≡ None
all_none zero i = refl
all_none (suc n) zero = refl
all_none (suc n) (suc i) = all_none n i

pub listed-none : (e : Entry) → Listed (record { heads = replicate 512 None; entries = replicate 256 e }) 0
unfolding last_in
listed-none e = record {
  heads_size = length-replicate {A = Option ℕ} 512 None;
  entries_size = length-replicate {A = Entry} 256 e;
  few = omega arith;
  short = λ i l. absurd (not-suc-le-zero l);
  heads = λ b l. ap slot (all_none 512 b);
  links = λ i l. absurd (not-suc-le-zero l);
  hashes = λ i l. absurd (not-suc-le-zero l);
  once = refl;
}

-- name n is put into the entry of that place, and is the head of its bucket
abbrev pub with_entry : (table : Names) → (n h : ℕ) → Entry → Names
with_entry table n b e = record { heads = set table.heads b (Some n); entries = set table.entries n e }

-- the names of a table with that entry, which is of the name w, and the lists of that table
module _ (table : Names) (n : ℕ) (w : Word) (e : Entry) (k : Listed table n) (few : n < size_range.high) (word : word_of e ≡ w) where
  abbrev bucket : ℕ
  bucket = bucket_of w

  abbrev after : Names
  after = with_entry table n bucket e

  entry-new : entry_in after n ≡ e
  entry-new = get_or-set_same table.entries n e no_entry (omega (arith, k.entries_size))

  entry-kept : (i : ℕ) → i < n → entry_in after i ≡ entry_in table i
  entry-kept i l = get_or-set_other table.entries n i e no_entry (λ q. omega arith)

  name-kept : (i : ℕ) → i < n → name_in after i ≡ name_in table i
  name-kept i l = ap word_of (entry-kept i l)

  name_new : name_in after n ≡ w
  name_new = ap word_of entry-new ∙ word

  last-kept : (b m : ℕ) → m ≤ n → last_in (bucket_in after) b m ≡ last_in (bucket_in table) b m
  last-kept b m l = last-same (bucket_in after) (bucket_in table) b m (λ i h. ap bucket_of (name-kept i (omega arith)))

  -- only entry n is written, so the first n names stay and the new one stands after them
  pub names_more : names_in after (n + 1) ≡ names_in table n ++ (w ∷ [])
  names_more =
      over-more (name_in after) n
      ∙ ap (λ (ns : List Word). ns ++ (name_in after n ∷ [])) (over-same (name_in after) (name_in table) [] n name-kept)
      ∙ ap (λ (v : Word). names_in table n ++ (v ∷ [])) name_new

  head_more : (b : ℕ) → b < buckets → slot (get_or after.heads b None) ≡ last_in (bucket_in after) b (n + 1)
  head_more b l = go (eqb b bucket) refl
    where
      go : (t : Bool) → eqb b bucket ≡ t → slot (get_or after.heads b None) ≡ last_in (bucket_in after) b (n + 1)
      go true q =
          let p = eqb-true b bucket q in
          ap (λ (p : ℕ). slot (get_or after.heads p None)) p ∙ ap slot (get_or-set_same table.heads bucket (Some n) None (omega (arith, k.heads_size, bucket-inside w)))
          ∙ sym (last-new (bucket_in after) b n (ap bucket_of name_new ∙ sym p))
      go false q =
          let d = eqb-false b bucket q in
          ap slot (get_or-set_other table.heads bucket b (Some n) None d) ∙ k.heads b l ∙ sym (last-kept b n (omega arith))
          ∙ sym (last-old (bucket_in after) b n (λ p. d (sym p ∙ ap bucket_of name_new)))

  module _ (short : e.size ≤ name_most) (hash : e.hash ≡ hash_of w) (next : e.next ≡ get_or table.heads (bucket_of w) None) where
    short-more : (i : ℕ) → i < n + 1 → (entry_in after i).size ≤ name_most
    short-more i l = go (last_or i n (omega arith))
      where
        go : (i < n) ⊎ (i ≡ n) → (entry_in after i).size ≤ name_most
        go (inl m) = subst (λ (x : Entry). x.size ≤ name_most) (sym (entry-kept i m)) (k.short i m)
        go (inr q) = subst (λ (x : Entry). x.size ≤ name_most) (sym (ap (entry_in after) q ∙ entry-new)) short

    link-more : (i : ℕ) → i < n + 1 → slot (entry_in after i).next ≡ last_in (bucket_in after) (bucket_in after i) i
    link-more i l = go (last_or i n (omega arith))
      where
        newest : slot (entry_in after n).next ≡ last_in (bucket_in after) (bucket_in after n) n
        newest =
            ap (λ (x : Entry). slot x.next) entry-new ∙ ap slot next ∙ k.heads bucket (bucket-inside w) ∙ sym (last-kept bucket n (omega arith))
            ∙ ap (λ (b : ℕ). last_in (bucket_in after) b n) (sym (ap bucket_of name_new))

        go : (i < n) ⊎ (i ≡ n) → slot (entry_in after i).next ≡ last_in (bucket_in after) (bucket_in after i) i
        go (inl m) =
            ap (λ (x : Entry). slot x.next) (entry-kept i m) ∙ k.links i m ∙ sym (last-kept (bucket_in table i) i (omega arith))
            ∙ ap (λ (v : Word). last_in (bucket_in after) (bucket_of v) i) (sym (name-kept i m))
        go (inr q) = subst (λ (j : ℕ). slot (entry_in after j).next ≡ last_in (bucket_in after) (bucket_in after j) j) (sym q) newest

    hash-more : (i : ℕ) → i < n + 1 → (entry_in after i).hash ≡ hash_of (name_in after i)
    hash-more i l = go (last_or i n (omega arith))
      where
        newest : (entry_in after n).hash ≡ hash_of (name_in after n)
        newest = ap (λ (x : Entry). x.hash) entry-new ∙ hash ∙ ap hash_of (sym name_new)

        go : (i < n) ⊎ (i ≡ n) → (entry_in after i).hash ≡ hash_of (name_in after i)
        go (inl m) = ap (λ (x : Entry). x.hash) (entry-kept i m) ∙ k.hashes i m ∙ ap hash_of (sym (name-kept i m))
        go (inr q) = subst (λ (j : ℕ). (entry_in after j).hash ≡ hash_of (name_in after j)) (sym q) newest

    -- The new name is the greatest id of its bucket, and what was the greatest before is the one after it in the list; in the other buckets the
    -- greatest id stays.
    pub listed_more : has (names_in table n) w ≡ false → Listed after (n + 1)
    listed_more new = record {
      heads_size = length-set table.heads bucket (Some n) ∙ k.heads_size;
      entries_size = length-set table.entries n e ∙ k.entries_size;
      few = omega arith;
      short = short-more;
      heads = head_more;
      links = link-more;
      hashes = hash-more;
      once = ap (fresh []) names_more ∙ fresh-more [] (names_in table n) w k.once refl new;
    }
