use mathlib.Core.Bool.{not}
use Rattle.std.specs.List.{count_by}
use Rattle.hold.proofs.HoldMarks.{Marks}
use Rattle.hold.proofs.floats.Given as goal

abbrev pub invariant-loop-holding : goal.invariant-loop-holding
invariant-loop-holding l = Marks l.search.tables.now.graph l.search.tables.now.differences l.labels.steps l.held l.shift l.search.limits.nodes l.search.limits.differences

abbrev pub decreases-loop-holding : goal.decreases-loop-holding
decreases-loop-holding l = count_by not l.held
