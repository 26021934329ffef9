use Rattle.std.proofs.Common.{◌≡◌, ◌<◌, length, take}
use Rattle.cone.specs.Part.{leaves_below}
use Rattle.cone.proofs.leaves.Given as goal

abbrev pub invariant-loop-i : goal.invariant-loop-i
invariant-loop-i l = (take l.n l.cut ≡ leaves_below l.part l.i) × (length l.cut ≡ 8) × (l.n < 8)
