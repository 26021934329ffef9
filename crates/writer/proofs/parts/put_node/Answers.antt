-- `parts::put_node` meets its contract: the head, then the operand ids.
use native.Mathlib.Omega.{arith}
use mathlib.Core.List.{map}
use lib.ListN.{take, drop}
use Rattle.maps.specs.Form.{under}
use Rattle.maps.specs.Write.{entry}
use Rattle.fields.proofs.WroteLaws.{stopped, more, room-left}
use Rattle.writer.proofs.NodeRows.{head-room, within-array, node-numbers}
use Rattle.writer.proofs.parts.put_node.Goals as goal

pub returns-in_err-position : goal.returns-in_err-position
returns-in_err-position c =
    let a = c.args in
    let ids = map (entry (under a.v)) (take c.saturating_sub-count.result (drop a.first a.operands.now)) in
    rw (node-numbers a.nodes.now a.operands.now a.v a.first c.end_of.result c.saturating_sub-count.result c.requires.v_in_bounds.2 c.end_of.ensures c.saturating_sub-count.ensures a.top c.node_at.result c.node_at.ensures)
    (stopped ids c.from_residual.ensures.1 c.in_err-position.ensures)

pub put_operands-requires : goal.put_operands-requires
put_operands-requires c =
    let a = c.args in
    let w = c.in_ok-position.ensures in (
      within-array a.nodes.now a.operands.now a.v a.first c.end_of.result c.saturating_sub-count.result c.requires.v_in_bounds.2 c.end_of.ensures c.saturating_sub-count.ensures,
      omega (arith, c.requires.v_in_bounds.1),
      room-left w (omega (arith, head-room a.top c.saturating_sub-count.result c.node_at.result c.requires.top_le_high.0 w)) c.requires.top_le_high.1,
    )

pub returns : goal.returns
returns c =
    let a = c.args in
    rw (node-numbers a.nodes.now a.operands.now a.v a.first c.end_of.result c.saturating_sub-count.result c.requires.v_in_bounds.2 c.end_of.ensures c.saturating_sub-count.ensures a.top c.node_at.result c.node_at.ensures)
    (more c.in_ok-position.ensures c.put_operands.ensures)
