use Prim.Native.Nat.{◌-◌}
use mathlib.Core.Path.{◌≡◌}
use Rattle.rows.specs.Table.{operand_place}
use Rattle.sheet.specs.Fill.{repeat_into, operand_into}
use Rattle.sheet.proofs.fill.read_operands.Given as goal

abbrev pub invariant-loop-i : goal.invariant-loop-i
invariant-loop-i l = repeat_into (operand_into l.sheet l.own (operand_place l.own)) (l.count - l.i) l.i l.at.at l.graph ≡ repeat_into (operand_into l.sheet l.own (operand_place l.own)) l.count 0 l.initial.at.at l.initial.graph
