-- `rows::store_head` meets its contract: six stores, one after the other.
use Rattle.rows.proofs.Stores.{store-six}
use Rattle.rows.proofs.store_head.Goals as goal

pub returns : goal.returns
returns c =
    rw (c.code_of.ensures, c.mark_of.ensures, c.latency_of.ensures, c.clock_to_q_of.ensures)
    (store-six _ _ _ _ _ _ _ _)
