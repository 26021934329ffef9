-- What the start, the end of a pass, what is heeded then, and all rounds answer.
use Rattle.std.specs.Prelude.{ℕ, suc, zero, ◌+◌, ◌-◌, ◌*◌, ◌≤◌, ◌<◌, ◌≡◌, Bool, true, false, List, ◌⊎◌, length, get_or}
use Rattle.maps.specs.Limits.{size_range, horizon_range, period_range, weight_most}
use Rattle.maps.specs.Sheet.{Sheet}
use Rattle.relax.specs.Guard.{unbounded, NoneFrom, LeastFrom}
use Rattle.relax.specs.Settle.{Pass}
use Rattle.rows.specs.Table.{delay_in, latency_in}
use Rattle.rows.specs.declared.Header as R
use Rattle.rows.specs.Cells.{Ends}
use Rattle.bound.specs.Lookup.{label_in, Heeding}
use Rattle.bound.specs.Going.{Given, AllKept, Timed}
use Rattle.hold.specs.Mark.{HeldIn}
use Rattle.sweep.specs.Sweep.{AllHold, SomeFails}
use Rattle.pass.specs.declared.Course.{Course}
use Rattle.pass.specs.declared.Course.TheVariants as Ran

-- the first labels, each in time; or a latency that is not
pub record First (graph steps levels : List ℕ) (n horizon : ℕ) : Type 0 where
  pub steps-wide : length steps ≡ 256
  pub levels-wide : length levels ≡ 256
  pub steps-zero : (v : ℕ) → get_or steps v 0 ≡ 0
  pub levels-delay : (v : ℕ) → v < n → get_or levels v 0 ≡ delay_in graph v
  pub ends : (v : ℕ) → v < n → latency_in graph v ≤ horizon

abbrev pub Started : (graph steps levels : List ℕ) (n horizon : ℕ) → Bool → Type 0
Started graph steps levels n horizon r =
    Ends r (First graph steps levels n horizon) ((v : ℕ) × (v < n) × (horizon < latency_in graph v))

-- the sum of the steps of n nodes
unfoldable pub steps_in : (n : ℕ) (steps : List ℕ) → ℕ
steps_in zero steps = 0
steps_in (suc n) steps = steps_in n steps + get_or steps n 0

-- the shift of the floating-set test: the period, or 1 where there are no windows
abbrev pub shift_for : (period count : ℕ) → ℕ
shift_for p zero = 1
shift_for p (suc k) = p

abbrev pub shift_in : R.Header → ℕ
shift_in limits = shift_for limits.period limits.windows

-- the most that one node can be above another that holds it, with any shift
abbrev pub climb_most : ℕ
climb_most = weight_most + period_range.high

-- the most that the sum can be where n nodes are held, whatever the horizon: 0 + 1 + .. + (n - 1) such climbs, each from below the greatest shift
unfoldable pub climbs_in : (n : ℕ) → ℕ
climbs_in zero = 0
climbs_in (suc n) = climbs_in n + (n * climb_most + (period_range.high - 1))

abbrev pub held_most : R.Header → ℕ
held_most limits = climbs_in limits.nodes

-- more rounds than there can be within a sheet's own horizon, where each moves a step of some node: 2^24
abbrev pub no_test : ℕ
no_test = size_range.high * (horizon_range.high + 1)

-- the most rounds that there can be, whatever the horizon: twice the steps that held nodes can have, and the latest first test
abbrev pub rounds_most : R.Header → ℕ
rounds_most limits = held_most limits + held_most limits + no_test

-- The floating-set test is one of labels without lower bounds; under bounds it is not due in any round that there can be.
abbrev pub Testable : (limits : R.Header) (bound : ℕ → ℕ) (due : ℕ) → Type 0
Testable limits bound due = (bound ≡ unbounded) ⊎ ((limits.horizon ≤ horizon_range.high) × (no_test ≤ due))

-- whether a pass was the last: one that stopped was not, and a whole one was where every difference holds
abbrev pub CourseEnds : (differences first steps : List ℕ) (m : ℕ) → Course → (last : Bool) → Type 0
CourseEnds differences first steps m Ran.Stopped last = last ≡ false
CourseEnds differences first steps m Ran.Whole last =
    Ends last (AllHold differences first steps m) (SomeFails differences first steps m)

-- some differences are heeded, of which one fails; where the test was asked for every node is held
pub record Heeds (graph differences : List ℕ) (limits : R.Header) (next steps heeded : List ℕ) (test : Bool) : Type 0 where
  pub heeding : Heeding differences limits.differences heeded next
  pub fails : SomeFails differences heeded steps limits.differences
  pub held : test ≡ true → (v : ℕ) → v < limits.nodes → HeldIn graph differences steps (shift_in limits) limits.nodes limits.differences v

-- the same, or the test was asked for and a node floats
abbrev pub HeedEnds : (graph differences : List ℕ) (limits : R.Header) (next steps heeded : List ℕ) (test : Bool) → Bool → Type 0
HeedEnds graph differences limits next steps heeded test r =
    Ends r (Heeds graph differences limits next steps heeded test)
    ((v : ℕ) × (v < limits.nodes) × (HeldIn graph differences steps (shift_in limits) limits.nodes limits.differences v → ⊥) × (test ≡ true))

-- labels to go on from under lower bounds: guarded, at or after their bounds, in time; and a fitting cut of each logic node is kept
pub record Resumable (S : Sheet) (bound : ℕ → ℕ) (graph differences : List ℕ) (limits : R.Header) (kept steps levels : List ℕ) : Type 0 where
  pub given : Given S graph differences limits
  pub all_kept : AllKept S kept
  pub timed : Timed S limits.horizon steps levels
  pub pass : Pass S bound (label_in steps levels) 0

-- the labels that were sought: the least legal ones within H that heed the bounds, in time, and the cuts still kept
pub record Found (S : Sheet) (bound : ℕ → ℕ) (H : ℕ) (kept steps levels : List ℕ) : Type 0 where
  pub least : LeastFrom S bound H (label_in steps levels)
  pub timed : Timed S H steps levels
  pub all_kept : AllKept S kept

-- they are found, or no labelling that heeds the bounds is legal within H
abbrev pub Relaxed : (S : Sheet) (bound : ℕ → ℕ) (H : ℕ) (kept steps levels : List ℕ) → Bool → Type 0
Relaxed S bound H kept steps levels r = Ends r (Found S bound H kept steps levels) (NoneFrom S bound H)
