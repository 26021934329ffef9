-- `call::import_blif` meets its contract: the caller's numbers and the text's length first.
use mathlib.Core.Path.{refl, sym, ◌∙◌}
use native.Mathlib.Omega.{arith}
use lib.ListN.{length}
use Rattle.blif.specs.Limits.{caller}
use Rattle.importer.proofs.Calls.{answered-as, barred-caller, barred-text}
use Rattle.importer.proofs.call.import_blif.Goals as goal
use Rattle.importer.proofs.call.import_blif.Goals.{then-not-is_callable-via-then-not-is_callable, then-not-is_callable-via-else-not-is_callable+then-text-gt-TEXT_MOST}

pub returns-then-not-is_callable : goal.returns-then-not-is_callable
returns-then-not-is_callable c =
    let a = c.args in
    let C = caller a.leaves a.top a.horizon a.table a.level in
    elim c.then-not-is_callable.branch [
      | then-not-is_callable-via-then-not-is_callable w ↦
          answered-as a.buffer.now (barred-caller a.text.now C (sym c.is_callable.ensures ∙ w.if-not-is_callable.true) (length a.buffer.now)) (refl, refl, refl)
      | then-not-is_callable-via-else-not-is_callable+then-text-gt-TEXT_MOST w ↦
          answered-as a.buffer.now (barred-text a.text.now C (sym c.is_callable.ensures ∙ w.if-not-is_callable.false) (omega (arith, w.if-text-gt-TEXT_MOST.true)) (length a.buffer.now)) (refl, refl, refl)
    ]
