-- What the walk before the search rests on.
use Rattle.std.specs.Prelude.{ℕ, ◌≤◌, ◌<◌, ◌≡◌, Bool, true, false, List, get_or}
use Rattle.flow.specs.declared.Code.{Code}
use Rattle.flow.specs.declared.Code.TheVariants.{Inner, Either, Outer, Barred}

-- a node of this code must be inside
abbrev pub inside_mark : Code → Bool
inside_mark Inner = true
inside_mark Either = false
inside_mark Outer = false
inside_mark Barred = false

-- marked are the nodes below v that must be inside, and no others
pub record InsideMarked (code : List Code) (marks : List Bool) (v : ℕ) : Type 0 where
  pub below : (u : ℕ) → u < v → get_or marks u false ≡ inside_mark (get_or code u Inner)
  pub past : (u : ℕ) → v ≤ u → get_or marks u false ≡ false

-- none of the first r ids is an input or box that may be no leaf
pub record AllLeaves (code : List Code) (list : List ℕ) (r : ℕ) : Type 0 where
  pub leafy : (j : ℕ) → j < r → get_or code (get_or list j 0) Inner ≡ Barred → ⊥
