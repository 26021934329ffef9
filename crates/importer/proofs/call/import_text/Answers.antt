-- `call::import_text` meets its contract.
use mathlib.Core.Path.{refl}
use lib.ListN.{length}
use Rattle.std.proofs.lemmas.Result.{err_from_is_err_and}
use Rattle.importer.specs.Meant.{caller_meant}
use Rattle.importer.proofs.Calls.{answered-as, refused-model}
use Rattle.importer.proofs.call.import_text.Goals as goal

pub read_model-requires : goal.read_model-requires
read_model-requires c = (c.requires, c.new-circuit.ensures c.args.delay)

pub returns-in_err-read_model : goal.returns-in_err-read_model
returns-in_err-read_model c callable e =
    let p = err_from_is_err_and c.from_residual.result c.from_residual.ensures.1 in
    rw (p.1, p.2)
    (answered-as c.args.buffer.now (refused-model c.args.text.now (caller_meant c.args.caller) c.args.delay c.read_model.new.circuit _ c.in_err-read_model.ensures callable c.requires (length c.args.buffer.now)) (refl, refl, refl))
