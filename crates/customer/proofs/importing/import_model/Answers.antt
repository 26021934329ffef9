-- `importing::import_model` meets its contract.
use Rattle.blif.specs.Limits.{caller}
use Rattle.demands.proofs.Imports.{imports, import-bounded}
use Rattle.customer.proofs.importing.import_model.Goals as goal

pub returns : goal.returns
returns c =
    let a = c.args in
    let by = caller a.leaves a.top a.horizon a.table a.level in
    let is = c.maps_import.ensures in record { imports = imports a.text.now by a.sheet.now c.maps_import.result.number c.maps_import.result.place c.maps_import.new.sheet is; bounds = import-bounded a.text.now by a.sheet.now c.maps_import.result.number c.maps_import.result.place c.maps_import.new.sheet is }
