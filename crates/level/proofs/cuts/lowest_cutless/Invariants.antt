use Rattle.std.proofs.Common.{◌≡◌, length}
use Rattle.maps.specs.Sheet.{Sheet}
use Rattle.level.proofs.CutTests.{KeptTo}
use Rattle.level.proofs.cuts.lowest_cutless.Given as goal

abbrev pub invariant-loop-v : goal.invariant-loop-v
invariant-loop-v l = (length l.kept ≡ 2048) × ((S : Sheet) → KeptTo S l.graph l.n l.k l.kept l.v)
