use Rattle.sweep.specs.Sweep.{Frozen}
use Rattle.sweep.proofs.freeze.Given as goal

abbrev pub invariant-loop-v : goal.invariant-loop-v
invariant-loop-v l = Frozen l.search.first.now l.labels.steps l.since l.heeded l.v
