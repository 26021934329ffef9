use Prim.Native.Nat.{◌-◌}
use lib.ListN.{length}
use Rattle.model.proofs.Turning.{Reached}
use Rattle.model.proofs.reading.read_lines.Given as goal

abbrev pub invariant-loop-at : goal.invariant-loop-at
invariant-loop-at l = Reached l.text l.delay l.at l.circuit l.stage

abbrev pub decreases-loop-at : goal.decreases-loop-at
decreases-loop-at l = length l.text - l.at
