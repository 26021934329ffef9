-- `Cuts::leaf_count_in` meets its contract.
use Rattle.std.proofs.Common.{arith}
use Rattle.level.proofs.Numbers.{count-at}
use Rattle.level.proofs.cuts.Cuts.leaf_count_in.Goals as goal

pub returns : goal.returns
returns c = rw (← c.self.view_is) (count-at _ _ (omega arith))
