use Prim.Native.Nat.{◌-◌}
use mathlib.Core.Path.{◌≡◌}
use Rattle.sheet.specs.Fill.{repeat_into, node_into}
use Rattle.sheet.proofs.fill.read_nodes.Given as goal

abbrev pub invariant-loop-own : goal.invariant-loop-own
invariant-loop-own l = repeat_into (node_into l.sheet l.top) (l.n - l.own) l.own l.at.at l.graph ≡ repeat_into (node_into l.sheet l.top) l.n 0 l.initial.at.at l.initial.graph
