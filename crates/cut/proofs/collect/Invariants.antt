use Rattle.std.proofs.Common.{◌≡◌, length, take}
use Rattle.flow.specs.Search.{leaf_mark, rising}
use Rattle.cut.proofs.collect.Given as goal

abbrev pub invariant-loop-x : goal.invariant-loop-x
invariant-loop-x l = (l.n ≡ length (rising (leaf_mark l.seen) l.x)) × (take l.n l.cut ≡ rising (leaf_mark l.seen) l.x)
