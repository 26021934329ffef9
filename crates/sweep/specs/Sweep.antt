-- What the functions on differences between two passes answer.
use Rattle.std.specs.Prelude.{ℕ, ◌≤◌, ◌<◌, ◌≡◌, Bool, cond, List, ◌⊎◌, eqb, length, get_or}
use Rattle.maps.specs.Label.{Label}
use Rattle.maps.specs.Sheet.{Sheet}
use Rattle.rows.specs.Table.{from_in, to_in}
use Rattle.rows.specs.declared.Header as R
use Rattle.rows.specs.Cells.{Ends}
use Rattle.relax.specs.Guard.{NoneFrom, Raised}
use Rattle.relax.specs.Settle.{Pass}
use Rattle.relax.specs.Sweep.{Pushes, Sweeping}
use Rattle.bound.specs.Lookup.{label_in, Heeded, Heeding}
use Rattle.bound.specs.Bound.{HoldsAt}
use Rattle.bound.specs.Going.{Given, Timed}

-- difference i is heeded and does not hold
pub record Fails (differences first steps : List ℕ) (i : ℕ) : Type 0 where
  pub heeded : Heeded first (to_in differences i)
  pub fails : HoldsAt differences steps i → ⊥

-- of m differences no heeded one fails, or one does
abbrev pub AllHold : (differences first steps : List ℕ) (m : ℕ) → Type 0
AllHold differences first steps m = (i : ℕ) → i < m → Fails differences first steps i → ⊥

abbrev pub SomeFails : (differences first steps : List ℕ) (m : ℕ) → Type 0
SomeFails differences first steps m = (i : ℕ) × (i < m) × Fails differences first steps i

-- difference i leads from v to a lower node, is heeded and does not hold
pub record FailsBelow (differences first steps : List ℕ) (v i : ℕ) : Type 0 where
  pub from : from_in differences i ≡ v
  pub lower : to_in differences i < v
  pub fails : Fails differences first steps i

-- of n nodes those whose step is another one than in `since` have the lists of `first`; all other lists are empty
pub record Frozen (first steps since heeded : List ℕ) (n : ℕ) : Type 0 where
  pub wide : length heeded ≡ 256
  pub heads : (v : ℕ) → v < n → get_or heeded v 0 ≡ cond (eqb (get_or steps v 0) (get_or since v 0)) 0 (get_or first v 0)
  pub rest : (v : ℕ) → n ≤ v → get_or heeded v 0 ≡ 0

-- the lists are those of `first` where the heeded differences hold, and stay as they are where one fails
abbrev pub Thawed : (differences first steps heeded heeded' : List ℕ) (m : ℕ) → Type 0
Thawed differences first steps heeded heeded' m =
    (AllHold differences heeded steps m × (heeded' ≡ first)) ⊎ (SomeFails differences heeded steps m × (heeded' ≡ heeded))

-- labels of the sheet of these tables that a sweep can begin with, under lower bounds
pub record Sweepable (S : Sheet) (bound : ℕ → ℕ) (graph differences : List ℕ) (limits : R.Header) (first next steps levels : List ℕ) : Type 0 where
  pub given : Given S graph differences limits
  pub heeding : Heeding differences limits.differences first next
  pub timed : Timed S limits.horizon steps levels
  pub pass : Pass S bound (label_in steps levels) 0

-- v has a label that pushes it, or nothing that heeds the lower bounds is legal within H
abbrev pub PushEnds : (S : Sheet) (bound : ℕ → ℕ) (H : ℕ) (first steps levels steps' levels' : List ℕ) (v : ℕ) → Bool → Type 0
PushEnds S bound H first steps levels steps' levels' v r =
    Ends r (Timed S H steps' levels'
    × (b : Label) × Pushes S (Heeded first) (label_in steps levels) v b × Raised S (label_in steps levels) v b (label_in steps' levels')) (NoneFrom S bound H)

-- every node was pushed in turn, or nothing that heeds the lower bounds is legal within H
abbrev pub SweepEnds : (S : Sheet) (bound : ℕ → ℕ) (H : ℕ) (first steps levels steps' levels' : List ℕ) → Bool → Type 0
SweepEnds S bound H first steps levels steps' levels' r =
    Ends r (Timed S H steps' levels' × Sweeping S bound (Heeded first) (label_in steps levels) 0 (label_in steps' levels')) (NoneFrom S bound H)
