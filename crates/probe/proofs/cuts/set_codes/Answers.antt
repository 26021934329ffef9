-- `probe::set_codes` meets its contract: the codes below u are set, and v must be inside still.
use mathlib.Core.Path.{refl}
use native.Mathlib.Omega.{arith}
use borrow.Author.Count.{below_none}
use lib.ListN.{get_or-replicate}
use Rattle.flow.specs.declared.Code.{Code}
use Rattle.flow.specs.declared.Code.TheVariants.{Inner}
use Rattle.probe.proofs.cuts.set_codes.Goals as goal

pub loop-u-init : goal.loop-u-init
loop-u-init c = (refl, below_none _, get_or-replicate {A = Code} 256 c.args.v Inner Inner (omega arith))
