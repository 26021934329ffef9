-- `call::write_model` meets its contract.
use mathlib.Core.Path.{refl}
use lib.ListN.{length}
use Rattle.std.proofs.lemmas.Result.{err_from_is_err_and}
use Rattle.blif.specs.Limits.{delay}
use Rattle.importer.specs.Meant.{caller_meant}
use Rattle.importer.proofs.Calls.{answered-as, all-marked, one-undefined}
use Rattle.importer.proofs.call.write_model.Goals as goal

pub returns-in_err-mark_outputs : goal.returns-in_err-mark_outputs
returns-in_err-mark_outputs c M callable k found =
    let C = caller_meant c.args.caller in
    let p = err_from_is_err_and c.from_residual.result c.from_residual.ensures.1 in
    rw (p.1, p.2)
    (answered-as c.args.buffer.now (one-undefined c.args.text.now C M found callable c.requires.0 c.mark_outputs.new.nodes c.in_err-mark_outputs.field-0.0 (c.in_err-mark_outputs.ensures.by_index (delay C) M found k.named k.rows) (length c.args.buffer.now)) (refl, refl, refl))

pub returns : goal.returns
returns c M callable k found =
    let C = caller_meant c.args.caller in
    answered-as c.args.buffer.now (all-marked c.args.text.now C M found callable c.requires.0 c.mark_outputs.new.nodes k (c.in_ok-mark_outputs.ensures.by_index (delay C) M found k.named k.rows) (length c.args.buffer.now)) c.write.ensures
