-- `visit` and `visit_operands` end: the measure falls with the id, from a node to its operands.
use Rattle.std.proofs.Common.{◌≡◌, ◌+◌, ◌*◌, ◌-◌, ◌≤◌, ◌<◌, length}
use Rattle.maps.specs.Limits.{operands_most}
use Rattle.cone.specs.Room.{in_end}
use Rattle.cone.proofs.Visits.{OperandsMet}
use Rattle.cone.proofs.+visit_visit_operands.Given as goal

abbrev pub decreases-visit : goal.decreases-visit
decreases-visit g l = l.u * 8 + 7

abbrev pub decreases-visit_operands : goal.decreases-visit_operands
decreases-visit_operands g l = l.u * 8

abbrev pub invariant-visit_operands-loop-j : goal.invariant-visit_operands-loop-j
invariant-visit_operands-loop-j g l = record {
  wide : length l.part ≡ 256;
  spares : (0 < l.left) × (l.left ≤ l.spare);
  room : in_end (g.T.Tally.most l.tally) l.part + (operands_most - l.j) ≤ in_end (g.T.Tally.most l.initial.tally) l.initial.part + operands_most;
  met : OperandsMet l.graph l.marks l.initial.part l.part (g.T.Tally.counts l.initial.tally) (g.T.Tally.counts l.tally) l.spare l.left l.u l.j;
}
