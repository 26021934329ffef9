-- `rows::store_window` meets its contract: two stores, one after the other.
use Rattle.rows.proofs.Stores.{store_two}
use Rattle.rows.proofs.store_window.Goals as goal

pub returns : goal.returns
returns c = store_two _ _ _ _
