use mathlib.Core.Path.{◌≡◌}
use lib.ListN.{length}
use Rattle.distinct.proofs.Placing.{State}
use Rattle.distinct.proofs.merge.Given as goal

abbrev pub invariant-loop-k : goal.invariant-loop-k
invariant-loop-k l = State l.text l.xs l.ys l.out l.i l.k × (length l.out ≡ length l.initial.out)
