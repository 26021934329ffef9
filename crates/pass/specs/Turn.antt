-- What a node's turn and a pass answer.
use Rattle.std.specs.Prelude.{ℕ, ◌≡◌, Bool, false, List, Result, Ok, Err, set}
use Rattle.maps.specs.Label.{Label}
use Rattle.maps.specs.Sheet.{Sheet, size}
use Rattle.rows.specs.declared.Header as R
use Rattle.rows.specs.Cells.{Ends}
use Rattle.relax.specs.Guard.{NoneFrom}
use Rattle.relax.specs.Settle.{Settles, Pass, Passing}
use Rattle.bound.specs.Lookup.{label_in}
use Rattle.bound.specs.Going.{AllKept, Going}
use Rattle.bound.specs.declared.arrive.Late.{Late}
use Rattle.sweep.specs.Sweep.{SomeFails}
use Rattle.pass.specs.declared.Course.{Course}
use Rattle.pass.specs.declared.Course.TheVariants as Is

-- The tables that a pass works on, in one list: those of the sheet, the differences by their targets, the kept cuts and the labels.
module _ (graph differences : List ℕ) (limits : R.Header) (first next kept steps levels : List ℕ) (v : ℕ) where
  -- a pass over the sheet of these tables, under lower bounds, has come to node v
  abbrev pub Underway : Type 0
  Underway = (S : Sheet) × (bound : ℕ → ℕ) × Going S graph differences limits first next kept steps levels × Pass S bound (label_in steps levels) v

  -- what holds of every sheet of these tables, over which a pass has come to node v
  abbrev pub Onward : (Sheet → (ℕ → ℕ) → Type 0) → Type 0
  Onward P = (S : Sheet) (bound : ℕ → ℕ) → Going S graph differences limits first next kept steps levels → Pass S bound (label_in steps levels) v → P S bound

-- a settles v, and a cut of each logic node is kept
pub record SettledNode (S : Sheet) (kept steps levels : List ℕ) (v : ℕ) (a : Label) : Type 0 where
  pub settles : Settles S (label_in steps levels) v a
  pub all_kept : AllKept S kept

-- v has the label that settles it, or nothing that heeds the lower bounds is legal within the horizon
abbrev pub Turned : (S : Sheet) (bound : ℕ → ℕ) (graph differences : List ℕ) (limits : R.Header) (first next kept steps levels steps' levels' : List ℕ) (v : ℕ) → Bool → Type 0
Turned S bound graph differences limits first next kept steps levels steps' levels' v r =
    Ends r (Going S graph differences limits first next kept steps' levels'
    × (b : Label) × Settles S (label_in steps levels) v b × (steps' ≡ set steps v b.step) × (levels' ≡ set levels v b.level)) (NoneFrom S bound limits.horizon)

-- the nodes below `turns` were settled in turn, and a heeded difference fails
pub record Halted (S : Sheet) (graph differences : List ℕ) (limits : R.Header) (first next kept steps levels steps' levels' : List ℕ) (whole : Bool) : Type 0 where
  pub going : Going S graph differences limits first next kept steps' levels'
  pub turns : ℕ
  pub passing : Passing S (label_in steps levels) turns (label_in steps' levels')
  pub fails : SomeFails differences first steps' limits.differences
  pub partly : whole ≡ false

-- late: nothing that heeds the lower bounds is legal within the horizon. stopped: a part of the nodes was settled. whole: every node was
abbrev pub Passed : (S : Sheet) (bound : ℕ → ℕ) (graph differences : List ℕ) (limits : R.Header) (first next kept steps levels steps' levels' : List ℕ) (whole : Bool) → Result Course Late → Type 0
Passed S bound graph differences limits first next kept steps levels steps' levels' whole (Err late) = NoneFrom S bound limits.horizon
Passed S bound graph differences limits first next kept steps levels steps' levels' whole (Ok Is.Stopped) =
    Halted S graph differences limits first next kept steps levels steps' levels' whole
Passed S bound graph differences limits first next kept steps levels steps' levels' whole (Ok Is.Whole) =
    Going S graph differences limits first next kept steps' levels' × Passing S (label_in steps levels) (size S) (label_in steps' levels')
