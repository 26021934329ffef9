use Rattle.schedule.specs.Round.{First}
use Rattle.schedule.proofs.labels.start.Given as goal

abbrev pub invariant-loop-v : goal.invariant-loop-v
invariant-loop-v l = First l.graph l.labels.steps l.labels.levels l.v l.horizon
