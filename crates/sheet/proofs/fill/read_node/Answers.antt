-- `fill::read_node` meets its contract: a node has no more operands than its row has room for.
use mathlib.Core.Path.{sym}
use native.Mathlib.Omega.{arith}
use Rattle.maps.proofs.Parse.{head_few}
use Rattle.sheet.proofs.fill.read_node.Goals as goal

pub read_operands-requires : goal.read_operands-requires
read_operands-requires c = omega (arith, head_few _ _ _ _ _ (sym c.in_ok-node.ensures), c.store_head.auto.graph, c.requires)
