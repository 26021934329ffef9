use Prim.Native.Nat.{ℕ, ◌<◌}
use Rattle.hold.specs.Mark.{Near}
use Rattle.hold.proofs.Holding.held_by_operand.Given as goal

abbrev pub invariant-loop-j : goal.invariant-loop-j
invariant-loop-j l = (k : ℕ) → k < l.j → Near l.self.search.now.tables.now.graph l.self.labels.now.steps l.held l.self.shift l.v k → ⊥
