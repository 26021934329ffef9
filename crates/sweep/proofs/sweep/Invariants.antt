use Prim.Native.Nat.{ℕ}
use Rattle.maps.specs.Sheet.{Sheet}
use Rattle.relax.specs.Sweep.{Sweeping}
use Rattle.bound.specs.Lookup.{label_in, Heeded}
use Rattle.bound.specs.Going.{Timed}
use Rattle.sweep.specs.Sweep.{Sweepable}
use Rattle.sweep.proofs.sweep.Given as goal

abbrev pub invariant-loop-v : goal.invariant-loop-v
invariant-loop-v l =
    (S : Sheet) (bound : ℕ → ℕ) → Sweepable S bound l.search.tables.now.graph l.search.tables.now.differences l.search.limits l.search.first.now l.search.next.now l.initial.labels.steps l.initial.labels.levels
    → Timed S l.search.limits.horizon l.labels.steps l.labels.levels
    × Sweeping S bound (Heeded l.search.first.now) (label_in l.initial.labels.steps l.initial.labels.levels) l.v (label_in l.labels.steps l.labels.levels)
