use Prim.Native.Nat.{ℕ, ◌<◌}
use Rattle.sweep.specs.Sweep.{FailsBelow}
use Rattle.sweep.proofs.some_fails_below.Given as goal

abbrev pub invariant-loop-i : goal.invariant-loop-i
invariant-loop-i l = (j : ℕ) → j < l.i → FailsBelow l.search.tables.now.differences l.search.first.now l.labels.steps l.v j → ⊥
