-- `probe::prepare` meets its contract: each way out says why nothing is asked, and the last that all is set.
use native.Mathlib.Omega.{arith}
use mathlib.Core.Path.{sym, ap, ◌∙◌}
use mathlib.Core.Logic.{⊎_elim}
use Rattle.maps.specs.Sheet.{is_logic}
use Rattle.types.specs.Code.{kind_meant}
use Rattle.types.specs.declared.Kind as K
use Rattle.sheet.proofs.After.{was_read, was-refused}
use Rattle.probe.proofs.Answers.{not-a-sheet, no_node, no-logic, small, prepared}
use Rattle.probe.proofs.cuts.prepare.Goals.{then-k-gt6-via-then-k-gt6, then-k-gt6-via-else-k-gt6+then-header-v}
use Rattle.probe.proofs.cuts.prepare.Goals as goal

pub returns-in_default : goal.returns-in_default
returns-in_default c = not-a-sheet _ _ _ _ _ (was-refused _ _ _ _ _ c.in_default.ensures)

pub returns-then-k-gt6 : goal.returns-then-k-gt6
returns-then-k-gt6 c =
    elim c.then-k-gt6.branch [
      | then-k-gt6-via-then-k-gt6 w ↦ λ S asks. omega (arith, asks.small, w.if-k-gt6.true)
      | then-k-gt6-via-else-k-gt6+then-header-v w ↦ no_node _ _ _ _ _ _ (was_read _ _ _ _ _ _ c.in-Ok.ensures) w.if-header-v.true
    ]

pub kind_in-requires : goal.kind_in-requires
kind_in-requires c = small (was_read _ _ _ _ _ _ c.in-Ok.ensures) _ c.if-header-v.false

pub set_codes-requires : goal.set_codes-requires
set_codes-requires c = small (was_read _ _ _ _ _ _ c.in-Ok.ensures) _ c.if-header-v.false

pub returns-in-Input : goal.returns-in-Input
returns-in-Input c =
    let held = was_read _ _ _ _ _ _ c.in-Ok.ensures in
    no-logic _ _ _ _ _ _ held c.if-header-v.false (sym (ap is_logic c.kind_in.ensures) ∙ ⊎_elim (λ e. ap (λ (x : K.Kind). is_logic (kind_meant x)) e) (λ e. ap (λ (x : K.Kind). is_logic (kind_meant x)) e.2) c.in-Input.is)

pub returns-in-Logic : goal.returns-in-Logic
returns-in-Logic c =
    let held = was_read _ _ _ _ _ _ c.in-Ok.ensures in
    prepared _ _ _ _ _ _ held _ _ c.if-header-v.false (sym (ap is_logic c.kind_in.ensures) ∙ ap (λ (x : K.Kind). is_logic (kind_meant x)) c.in-Logic.is) c.set_codes.ensures
    (omega (arith, c.if-k-gt6.false))
