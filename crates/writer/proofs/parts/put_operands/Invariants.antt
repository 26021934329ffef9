-- The operands before the place of the next are written.
use mathlib.Core.List.{map}
use Rattle.std.specs.Prelude.{Ok}
use Rattle.maps.specs.Lists.{below, concat}
use Rattle.fields.specs.Wrote.{Wrote}
use Rattle.writer.proofs.NodeRows.{operand_in}
use Rattle.writer.proofs.parts.put_operands.Given as goal

abbrev pub invariant-loop-id : goal.invariant-loop-id
invariant-loop-id l = Wrote (concat (map (operand_in l.own l.id-items) (below l.id-index))) l.initial.bytes l.bytes l.initial.to (Ok l.to)
