-- What the functions on kept cuts answer.
use Rattle.std.specs.Prelude.{ℕ, ◌≤◌, ◌<◌, ◌≡◌, Bool, true, List, [], ◌∷◌, length, get_or}
use Rattle.maps.specs.Sheet.{Sheet, size}
use Rattle.maps.specs.Cut.{logic_node, FittingCut}
use Rattle.maps.specs.WellFormed.{WellFormed}
use Rattle.maps.specs.Outcome.{cutless}
use Rattle.rows.specs.Table.{Tabled}
use Rattle.cut.specs.Question.{AllowedCut}
use Rattle.rows.specs.Cells.{Ends}
use Rattle.bound.specs.Lookup.{count_of, leaf_of, Row, Beside}
use Rattle.bound.specs.Going.{Keeps, AllKept}

-- the first count numbers of cut stand in the row of v, and every other row is as it was
pub record Stored (cut kept more : List ℕ) (v count : ℕ) : Type 0 where
  pub counted : count_of more v ≡ count
  pub leaves : (j : ℕ) → j < count → leaf_of more v j ≡ get_or cut j 0
  pub beside : Beside v kept more

-- an allowed cut with at most k leaves is kept, or there is none
abbrev pub TriedCut : (S : Sheet) (may : ℕ → Bool) (v k : ℕ) (kept : List ℕ) → Bool → Type 0
TriedCut S may v k kept r =
    Ends r ((c : List ℕ) × AllowedCut S may v c × (length c ≤ k) × Row kept v c) ((c : List ℕ) → AllowedCut S may v c → length c ≤ k → ⊥)

-- node v is no logic node or has a fitting cut, which is kept; or it is a logic node that has none
pub record FitTest (S : Sheet) (graph : List ℕ) (v k : ℕ) (kept : List ℕ) (r : Bool) : Type 0 where
  pub test : WellFormed S → Tabled S graph → v < size S → k ≡ S.leaves
      → Ends r (logic_node S v ≡ true → Keeps S kept v) ((logic_node S v ≡ true) × ((c : List ℕ) → FittingCut S v c → ⊥))

-- r is the lowest logic node without a fitting cut; or it is n, and each logic node has one, which is kept
pub record Lowest (S : Sheet) (graph : List ℕ) (n k : ℕ) (kept : List ℕ) (r : ℕ) : Type 0 where
  pub most : r ≤ n
  pub some : WellFormed S → Tabled S graph → n ≡ size S → k ≡ S.leaves → r < n → (vs : List ℕ) × (cutless S ≡ r ∷ vs)
  pub none : WellFormed S → Tabled S graph → n ≡ size S → k ≡ S.leaves → r ≡ n → (cutless S ≡ []) × AllKept S kept
