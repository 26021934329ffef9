use Rattle.flow.specs.Search.{Valued}
use Rattle.flow.proofs.augment.Given as goal

abbrev pub invariant-loop-units : goal.invariant-loop-units
invariant-loop-units l = Valued l.graph l.code l.above l.v l.units
