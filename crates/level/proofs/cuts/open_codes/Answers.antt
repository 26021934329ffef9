-- `cuts::open_codes` meets its contract. The invariant: the codes below u are written.
use Rattle.level.proofs.CutTests.{open_none}
use Rattle.level.proofs.cuts.open_codes.Goals as goal

pub loop-u-init : goal.loop-u-init
loop-u-init c = open_none c.args.graph.now c.args.v c.requires
