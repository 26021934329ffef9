use mathlib.Core.List.{map}
use Rattle.maps.specs.Lists.{below}
use Rattle.rows.specs.Table.{operand_in}
use Rattle.cover.specs.Covering.{MarkedAll}
use Rattle.cover.proofs.mark_operands.Given as goal

abbrev pub invariant-loop-j : goal.invariant-loop-j
invariant-loop-j l = MarkedAll (map (operand_in l.graph l.v) (below l.j)) l.initial.used l.used
