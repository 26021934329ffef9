-- `Names::new` meets its contract.
use Rattle.names.proofs.Tables.{listed-none}
use Rattle.names.proofs.Names.new.Goals as goal

pub returns : goal.returns
returns c = listed-none _
