-- `rows::store_difference` meets its contract: four stores, one after the other.
use Rattle.rows.proofs.Stores.{store-four}
use Rattle.rows.proofs.store_difference.Goals as goal

pub returns : goal.returns
returns c = store-four _ _ _ _ _ _
