-- `cut::mark_inside` meets its contract: the marks below u are set, and those from u on are still false.
use mathlib.Core.Path.{refl}
use borrow.Author.Count.{below_none}
use Rattle.cut.proofs.WalkFirst.{none_marked}
use Rattle.cut.proofs.quick.mark_inside.Goals as goal

pub loop-u-init : goal.loop-u-init
loop-u-init c = (refl, below_none _, λ i l. none_marked 256 i)
