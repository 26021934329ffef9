-- `sheet::write` meets its contract: a sheet that was made is handed over where there is room.
use mathlib.Core.Path.{refl}
use lib.ListN.{length}
use Rattle.std.proofs.lemmas.Result.{err_from_is_err_and}
use Rattle.records.specs.Rows.{records_of}
use Rattle.writer.proofs.Sheets.{made, made-within, not_made}
use Rattle.writer.proofs.sheet.write.Goals as goal

pub returns-in_err-position : goal.returns-in_err-position
returns-in_err-position c =
    let R = records_of c.args.records.now in
    let p = err_from_is_err_and c.from_residual.result c.from_residual.ensures.1 in
    rw (p.1, p.2, not_made R c.in_err-position.ensures (length c.args.buffer.now)) (refl, refl, refl)

pub hand_over-requires : goal.hand_over-requires
hand_over-requires c = made-within (records_of c.args.records.now) _ c.in_ok-position.ensures

pub returns : goal.returns
returns c =
    rw (made (records_of c.args.records.now) c.in_ok-position.ensures (length c.args.buffer.now)) c.hand_over.ensures
