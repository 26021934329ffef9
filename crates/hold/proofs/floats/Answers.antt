-- `hold::floats` meets its contract. The invariant: the nodes of a step below the shift are marked, and only what is held is. The measure: how many nodes
-- are not marked.
use native.Mathlib.Omega.{arith}
use Rattle.hold.proofs.HoldMarks.{marks-first, marks-again, marks-exact}
use Rattle.hold.proofs.floats.Goals.{then-loop-holding-test+else-hold_in_order, else-loop-holding-test}
use Rattle.hold.proofs.floats.Goals as goal

pub loop-holding-init : goal.loop-holding-init
loop-holding-init c = marks-first c.hold_early.ensures

pub loop-holding-smaller : goal.loop-holding-smaller
loop-holding-smaller c =
    let first = marks-again c.loop-holding.invariant (rw c.loop-holding-test.true at c.hold_in_order.ensures) in
    let second = marks-again first.0 (rw c.if-hold_in_order.true at c.hold_in_order-in-loop-holding.ensures) in
    omega (arith, first.1, second.1)

pub loop-holding-preserved : goal.loop-holding-preserved
loop-holding-preserved c =
    let first = marks-again c.loop-holding.invariant (rw c.loop-holding-test.true at c.hold_in_order.ensures) in
    (marks-again first.0 (rw c.if-hold_in_order.true at c.hold_in_order-in-loop-holding.ensures)).0

pub returns : goal.returns
returns c =
    let a = c.all_held in
    let f = c.hold_in_order in
    let i = c.loop-holding.invariant in
    elim c.loop-holding-test.branch [
      | else-loop-holding-test w ↦ marks-exact i (rw w.loop-holding-test.false at f.ensures) a.result (rw w.held-is at a.ensures)
      | then-loop-holding-test+else-hold_in_order w ↦
          marks-exact (marks-again i (rw w.loop-holding-test.true at f.ensures)).0 (rw w.if-hold_in_order.false at w.hold_in_order-in-loop-holding.ensures) a.result (rw w.held-is at a.ensures)
    ]
