-- `Cuts::check_rows` meets its contract.
use Rattle.level.proofs.Numbers.{wide-numbers}
use Rattle.level.proofs.cuts.Cuts.check_rows.Goals as goal

pub returns : goal.returns
returns c = rw (← c.self.view_is) (wide-numbers _ c.self.invariant.0)
