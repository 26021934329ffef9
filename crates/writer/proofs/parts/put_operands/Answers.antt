-- `parts::put_operands` meets its contract: one id after the other.
use Prim.Native.Nat.{ℕ, ◌+◌, ◌-◌, ◌≤◌}
use native.Mathlib.Omega.{arith}
use mathlib.Core.Path.{◌≡◌}
use mathlib.Core.List.{List}
use lib.ListN.{length, take, drop, length-drop}
use lib.Seq.{length-take-le}
use Rattle.fields.proofs.WroteLaws.{rows-room, wrote_none, rows_next, rows-stop, rows_all}
use Rattle.writer.proofs.NodeRows.{operand_in, operands-below}
use Rattle.writer.proofs.parts.put_operands.Goals as goal

-- the ids that the loop goes over
module _ (operands : List ℕ) (first count : ℕ) where
  abbrev ids : List ℕ
  ids = take (first + count - first) (drop first operands)

  ids-are : ids ≡ take count (drop first operands)
  ids-are = let own : first + count - first ≡ count = omega arith in rw own

  ids-count : first + count ≤ length operands → length ids ≡ count
  ids-count l = rw ids-are (length-take-le count (drop first operands) (omega (arith, length-drop first operands)))

pub loop-id-init : goal.loop-id-init
loop-id-init c = wrote_none _ _

pub put_operand-requires : goal.put_operand-requires
put_operand-requires c =
    let a = c.args in
    let l = c.loop-id in
    let count = ids-count a.operands.now a.first a.count c.requires.0 in
    (c.requires.1, rows-room (operand_in a.own (ids a.operands.now a.first a.count)) (λ j p. omega arith) l.id-index a.count (omega (arith, c.loop-id-test.true, count)) l.invariant c.requires.2)

pub returns-in_err-to : goal.returns-in_err-to
returns-in_err-to c =
    let a = c.args in
    let l = c.loop-id in
    rw (← ids-are a.operands.now a.first a.count, operands-below)
    (rows-stop (operand_in a.own (ids a.operands.now a.first a.count)) l.id-index _ c.loop-id-test.true c.from_residual.ensures.1 l.invariant c.in_err-to.ensures)

pub loop-id-preserved : goal.loop-id-preserved
loop-id-preserved c =
    let a = c.args in
    let l = c.loop-id in
    rows_next (operand_in a.own (ids a.operands.now a.first a.count)) l.id-index l.invariant c.in_ok-to.ensures

pub returns : goal.returns
returns c =
    let a = c.args in
    let l = c.loop-id in
    rw (← ids-are a.operands.now a.first a.count, operands-below)
    (rows_all (operand_in a.own (ids a.operands.now a.first a.count)) l.id-index (length (ids a.operands.now a.first a.count)) (omega arith) (omega (arith, c.loop-id-test.false)) l.invariant)
