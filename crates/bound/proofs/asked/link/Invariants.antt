use mathlib.Core.Path.{◌≡◌}
use lib.ListN.{length}
use Rattle.bound.specs.Lookup.{Linked}
use Rattle.bound.proofs.asked.link.Given as goal

abbrev pub invariant-loop-i : goal.invariant-loop-i
invariant-loop-i l = Linked l.differences l.i l.first l.next × (length l.first ≡ 256) × (length l.next ≡ 1024)
