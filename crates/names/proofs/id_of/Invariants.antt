use Rattle.blif.specs.Scan.{name_at}
use Rattle.names.specs.Table.{slot}
use Rattle.names.proofs.Searching.{Searched}
use Rattle.names.proofs.id_of.Given as goal

abbrev pub invariant-loop-next : goal.invariant-loop-next
invariant-loop-next l = Searched l.names l.count (name_at l.text l.at) (slot l.next)

abbrev pub decreases-loop-next : goal.decreases-loop-next
decreases-loop-next l = slot l.next
