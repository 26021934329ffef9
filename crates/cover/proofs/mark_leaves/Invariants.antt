use mathlib.Core.List.{map}
use Rattle.maps.specs.Lists.{below}
use Rattle.bound.specs.Lookup.{leaf_of}
use Rattle.cover.specs.Covering.{MarkedAll}
use Rattle.cover.proofs.mark_leaves.Given as goal

abbrev pub invariant-loop-j : goal.invariant-loop-j
invariant-loop-j l = MarkedAll (map (leaf_of l.cuts l.v) (below l.j)) l.initial.used l.used
