-- `subset::row_line` meets its contract.
use mathlib.Core.Path.{sym, ap, ◌∙◌}
use native.Mathlib.Omega.{arith}
use Rattle.blif.specs.Scan.{name_at, words_at}
use Rattle.blif.specs.Subset.{bit}
use Rattle.blif.proofs.Walking.{first_word}
use Rattle.subset.proofs.LineLaws.{row-yes, row-no-cover, row-no-bit, row_other}
use Rattle.subset.proofs.row_line.Goals as goal
use Rattle.subset.proofs.row_line.Goals.{else-count-eq1-via-then-count-eq1+then-is_cover+else-is_bit, else-count-eq1-via-then-count-eq1+else-is_cover, else-count-eq1-via-else-count-eq1}

pub returns-then-is_bit : goal.returns-then-is_bit
returns-then-is_bit c =
    let a = c.args in
    let one = sym c.requires ∙ c.if-count-eq1.true in
    let second = (first_word a.text.now a.rest c.after_blanks.result c.after_blanks.ensures.0 (omega (arith, one))).0 in (
      row-yes a.inputs (name_at a.text.now a.first) (words_at a.text.now a.rest) c.if-inputs-eq0.false one (sym c.is_cover.ensures ∙ c.if-is_cover.true)
          (sym (ap bit second) ∙ sym c.is_bit.ensures ∙ c.if-is_bit.true),
      tt,
    )

pub returns-else-count-eq1 : goal.returns-else-count-eq1
returns-else-count-eq1 c =
    let a = c.args in
    let first = name_at a.text.now a.first in
    let ws = words_at a.text.now a.rest in
    let some = c.if-inputs-eq0.false in
    elim c.else-count-eq1.branch [
      | else-count-eq1-via-then-count-eq1+then-is_cover+else-is_bit w ↦
          let one = sym c.requires ∙ w.if-count-eq1.true in
          let second = (first_word a.text.now a.rest w.after_blanks.result w.after_blanks.ensures.0 (omega (arith, one))).0 in
          (row-no-bit a.inputs first ws some one (sym w.is_cover.ensures ∙ w.if-is_cover.true) (sym (ap bit second) ∙ sym w.is_bit.ensures ∙ w.if-is_bit.false), tt)
      | else-count-eq1-via-then-count-eq1+else-is_cover w ↦
          (row-no-cover a.inputs first ws some (sym c.requires ∙ w.if-count-eq1.true) (sym w.is_cover.ensures ∙ w.if-is_cover.false), tt)
      | else-count-eq1-via-else-count-eq1 w ↦ (row_other a.inputs first ws some (λ e. w.if-count-eq1.false (c.requires ∙ e)), tt)
    ]
