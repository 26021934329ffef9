-- What the cover writes, against document 01's used nodes and chosen cuts.
use Rattle.std.specs.Prelude.{ℕ, ◌≤◌, ◌<◌, ◌≡◌, Bool, false, List, map, length, get_or}
use Rattle.maps.specs.Limits.{leaves_range}
use Rattle.maps.specs.Lists.{All, mem, below}
use Rattle.maps.specs.Label.{Label}
use Rattle.maps.specs.Sheet.{Sheet, size}
use Rattle.maps.specs.Cover.{used}
use Rattle.maps.specs.Plan.{leaves_of}
use Rattle.rows.specs.Table.{count_in, operand_in}
use Rattle.bound.specs.Lookup.{count_of, leaf_of}

-- the operands of v in the table of nodes, and the leaves in its row of a table of cuts
abbrev pub operands_of : (graph : List ℕ) → ℕ → List ℕ
operands_of graph v = map (operand_in graph v) (below (count_in graph v))

abbrev pub row_of : (cuts : List ℕ) → ℕ → List ℕ
row_of cuts v = map (leaf_of cuts v) (below (count_of cuts v))

-- the marks are the used nodes, and the rows their chosen cuts: empty "unless the node is used logic"
pub record Covered (S : Sheet) (L : List Label) (marks : List Bool) (cuts : List ℕ) : Type 0 where
  pub marked : (v : ℕ) → v < size S → get_or marks v false ≡ mem v (used S L)
  pub rows : (v : ℕ) → v < size S → row_of cuts v ≡ leaves_of S L (used S L) v

-- what writing the rows of n nodes rests on
pub record Rows (n : ℕ) (marks : List Bool) (cuts : List ℕ) : Type 0 where
  pub marks-wide : length marks ≡ 256
  pub cuts-wide : length cuts ≡ 2048
  pub few : (v : ℕ) → v < n → count_of cuts v ≤ leaves_range.high
  pub ids : (v : ℕ) → v < n → All (λ u. u < 256) (row_of cuts v)
