use Prim.Native.Nat.{◌-◌}
use Rattle.level.proofs.LevelSpan.{Spanned}
use Rattle.level.proofs.level.least_level.Given as goal

abbrev pub invariant-loop-span : goal.invariant-loop-span
invariant-loop-span l =
    Spanned l.graph l.labels.steps l.labels.levels l.v l.limits l.base.step.0 l.initial.kept l.kept l.initial.span.low.0 l.span.low.0 l.span.high.0

abbrev pub decreases-loop-span : goal.decreases-loop-span
decreases-loop-span l = l.span.high.0 - l.span.low.0
