-- `Cuts::leaf_in` meets its contract.
use Rattle.std.proofs.Common.{arith}
use Rattle.level.proofs.Numbers.{leaf-at}
use Rattle.level.proofs.cuts.Cuts.leaf_in.Goals as goal

pub returns : goal.returns
returns c = rw (← c.self.view_is) (leaf-at _ _ _ (omega arith) c.requires.1)
