-- `hold::Holding::hold_in_order` meets its contract. The invariant: i of the nodes have had their turn.
use native.Mathlib.Omega.{arith}
use Rattle.hold.proofs.HoldMarks.{turned_none, turned_more, turned_all}
use Rattle.hold.proofs.Holding.hold_in_order.Goals as goal

pub loop-i-init : goal.loop-i-init
loop-i-init c = turned_none c.args.order

pub loop-i-preserved : goal.loop-i-preserved
loop-i-preserved c =
    let q = c.requires.n_bound.0 in
    turned_more c.args.order _ c.loop-i.invariant c.loop-i-test.true (omega arith) c.turn.ensures c.hold_node-grew.ensures

pub returns : goal.returns
returns c = turned_all c.args.order c.loop-i-test.false c.loop-i.auto.i-end c.loop-i.invariant
