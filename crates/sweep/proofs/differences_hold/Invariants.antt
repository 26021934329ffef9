use Rattle.sweep.specs.Sweep.{AllHold}
use Rattle.sweep.proofs.differences_hold.Given as goal

abbrev pub invariant-loop-i : goal.invariant-loop-i
invariant-loop-i l = AllHold l.search.tables.now.differences l.search.first.now l.labels.steps l.i
