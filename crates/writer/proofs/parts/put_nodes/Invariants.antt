-- The nodes before v are written, and the operands of node v begin at `first`.
use mathlib.Core.Path.{◌≡◌}
use mathlib.Core.List.{map}
use Rattle.std.specs.Prelude.{Ok}
use Rattle.maps.specs.Lists.{below, concat}
use Rattle.records.specs.Rows.{end_of, node_entries}
use Rattle.fields.specs.Wrote.{Wrote}
use Rattle.writer.proofs.parts.put_nodes.Given as goal

abbrev pub invariant-loop-v : goal.invariant-loop-v
invariant-loop-v l = record {
  begins : l.first ≡ end_of l.nodes l.operands l.v;
  wrote : Wrote (concat (map (node_entries l.top l.nodes l.operands) (below l.v))) l.initial.bytes l.bytes l.initial.to (Ok l.to);
}
