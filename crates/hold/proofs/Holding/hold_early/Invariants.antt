use Rattle.hold.specs.Mark.{HeldEarly}
use Rattle.hold.proofs.Holding.hold_early.Given as goal

abbrev pub invariant-loop-v : goal.invariant-loop-v
invariant-loop-v l = HeldEarly l.self.labels.now.steps l.held l.self.shift l.v
