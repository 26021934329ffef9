-- `parts::put_nodes` meets its contract: one node after the other.
use mathlib.Core.Path.{refl}
use Rattle.records.specs.Rows.{node_entries}
use Rattle.fields.proofs.WroteLaws.{rows-room, wrote_none, rows_next, rows-stop}
use Rattle.writer.proofs.NodeRows.{node-bytes}
use Rattle.writer.proofs.parts.put_nodes.Goals as goal

pub loop-v-init : goal.loop-v-init
loop-v-init c = record { begins = refl; wrote = wrote_none _ _ }

pub put_node-requires-clause-top_le_high : goal.put_node-requires-clause-top_le_high
put_node-requires-clause-top_le_high c =
    let l = c.loop-v in
    let p = c.requires in
    let small = node-bytes c.args.top c.args.nodes.now c.args.operands.now p.2 in
    (p.2, rows-room (node_entries c.args.top c.args.nodes.now c.args.operands.now) small l.v c.args.n c.loop-v-test.true l.invariant.wrote p.3)

pub returns-in_err-to : goal.returns-in_err-to
returns-in_err-to c =
    let l = c.loop-v in
    rows-stop (node_entries c.args.top c.args.nodes.now c.args.operands.now) l.v c.args.n c.loop-v-test.true c.from_residual.ensures.1 l.invariant.wrote c.in_err-to.ensures

pub loop-v-preserved : goal.loop-v-preserved
loop-v-preserved c =
    let l = c.loop-v in record {
      begins = c.end_of-first.ensures;
      wrote = rows_next (node_entries c.args.top c.args.nodes.now c.args.operands.now) l.v l.invariant.wrote c.in_ok-to.ensures;
    }
