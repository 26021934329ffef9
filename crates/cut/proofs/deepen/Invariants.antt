use Rattle.std.proofs.Common.{ℕ}
use Rattle.flow.specs.Search.{Settled}
use Rattle.cut.proofs.Deepening.{Partly}
use Rattle.cut.proofs.deepen.Given as goal

abbrev pub invariant-loop-x : goal.invariant-loop-x
invariant-loop-x l = (f : ℕ) → Settled l.graph l.code l.initial.seen l.above l.v f → Partly l.graph l.code l.seen l.above l.v f l.x
