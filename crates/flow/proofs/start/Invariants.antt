use Rattle.std.proofs.Common.{◌≡◌, ℕ, ◌<◌}
use Rattle.rows.specs.Cells.{cell}
use Rattle.flow.proofs.start.Given as goal

abbrev pub invariant-loop-i : goal.invariant-loop-i
invariant-loop-i l = (j : ℕ) → j < l.i → cell l.above j ≡ j
