-- How a model is kept while its text is read: names in a table, nodes as rows, operands as ids.
use Rattle.std.specs.Prelude.{ℕ, ◌+◌, ◌*◌, ◌≤◌, ◌≡◌, true, false, List, [], ◌∷◌, ◌++◌, map, length, take}
use Rattle.maps.specs.Lists.{all}
use Rattle.maps.specs.Limits.{size_range, operands_most}
use Rattle.blif.specs.Subset.{Statement}
use Rattle.blif.specs.Names.{Definition, names_of, reads_of, has, defined, resolves}
use Rattle.blif.specs.Limits.{within_limits}
use Rattle.blif.specs.Import.{id_of}
use Rattle.records.specs.Rows.{node_place}
use Rattle.names.specs.Table.{names_in, Listed}
use Rattle.names.specs.declared.Names.{Names}
use Rattle.definitions.specs.Rows.{rows_from, row_of, ids_of}
use Rattle.definitions.specs.declared.Circuit.{Circuit}

-- the definitions ds of a text: n names and nodes, none of them marked yet, and u operands
pub record Kept (d : ℕ) (ds : List Definition) (names : Names) (nodes operands : List ℕ) (n u : ℕ) : Type 0 where
  pub listed : Listed names n
  pub named : names_in names n ≡ names_of ds
  pub rows : take (node_place n) nodes ≡ rows_from d (λ w. false) 0 ds
  pub ids : take u operands ≡ ids_of (names_of ds) ds
  pub closed : all (has (names_of ds)) (reads_of ds) ≡ true
  pub few : u ≤ n * operands_most
  pub wide : length nodes ≡ node_place size_range.high
  pub long : length operands ≡ size_range.high * operands_most

-- the same of what the code keeps
abbrev pub KeptIn : (d : ℕ) → List Definition → Circuit → Type 0
KeptIn d ds c = Kept d ds c.names c.nodes c.operands c.size.nodes c.size.operands

-- one definition more: its name, its row and its operands stand behind what stood before
pub record Added (d : ℕ) (x : Definition) (names : Names) (nodes operands : List ℕ) (n u : ℕ) (names' : Names) (nodes' operands' : List ℕ) : Type 0 where
  pub listed : Listed names' (n + 1)
  pub named : names_in names' (n + 1) ≡ names_in names n ++ (x.name ∷ [])
  pub rows : take (node_place (n + 1)) nodes' ≡ take (node_place n) nodes ++ row_of d (λ w. false) (u + length x.reads) x
  pub ids : take (u + length x.reads) operands' ≡ take u operands ++ map (id_of (names_in names n)) x.reads
  pub wide : length nodes' ≡ length nodes
  pub long : length operands' ≡ length operands

-- the same of what the code keeps
abbrev pub AddedTo : (d : ℕ) → Definition → (old new : Circuit) → Type 0
AddedTo d x old new = Added d x old.names old.nodes old.operands old.size.nodes old.size.operands new.names new.nodes new.operands

-- a line that says s has no fault after the definitions ds
pub record Lawful (ds : List Definition) (s : Statement) : Type 0 where
  pub resolved : resolves (names_of ds) (defined s) ≡ true
  pub limited : within_limits (length ds) s ≡ true
