-- `storing::store_sheet` meets its contract.
use Rattle.records.specs.Rows.{records_in}
use Rattle.demands.proofs.Stores.{stores, store-bounded}
use Rattle.customer.proofs.storing.store_sheet.Goals as goal

pub returns : goal.returns
returns c =
    let a = c.args in
    let R = records_in a.leaves a.top a.horizon a.nodes.now a.operands.now a.differences.now a.period a.windows.now in
    let w = c.maps_write_rows in
    let after = w.new.buffer in record { stores = stores R a.buffer.now w.result.number w.result.place after w.ensures; bounds = store-bounded R a.buffer.now w.result.number w.result.place after w.ensures }
