use Prim.Native.Nat.{ℕ, ◌-◌, ◌≤◌}
use Rattle.maps.specs.Sheet.{Sheet}
use Rattle.relax.specs.Settle.{Pass}
use Rattle.bound.specs.Lookup.{label_in}
use Rattle.bound.specs.Going.{Going}
use Rattle.schedule.specs.Round.{steps_in, rounds_most}
use Rattle.schedule.proofs.Rounds.{Few}
use Rattle.schedule.proofs.labels.relax.Given as goal

abbrev pub invariant-loop-course : goal.invariant-loop-course
invariant-loop-course l =
    ((S : Sheet) (bound : ℕ → ℕ) → Going S l.search.tables.now.graph l.search.tables.now.differences l.search.limits l.search.first.now l.search.next.now l.initial.kept l.initial.labels.steps l.initial.labels.levels
    → Pass S bound (label_in l.initial.labels.steps l.initial.labels.levels) 0
    → Going S l.search.tables.now.graph l.search.tables.now.differences l.search.limits l.heeded l.search.next.now l.kept l.labels.steps l.labels.levels × Pass S bound (label_in l.labels.steps l.labels.levels) 0)
    × Few l.search.limits (steps_in l.search.limits.nodes l.labels.steps) l.rounds l.due
    × (l.testing ≤ l.due)

abbrev pub decreases-loop-course : goal.decreases-loop-course
decreases-loop-course l =
    rounds_most l.search.limits - l.rounds
