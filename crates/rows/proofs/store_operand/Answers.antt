-- `rows::store_operand` meets its contract: one store.
use mathlib.Core.Path.{refl}
use Rattle.rows.specs.Table.{store_from}
use Rattle.rows.proofs.store_operand.Goals as goal

pub returns : goal.returns
returns c = unfold store_from in refl
