-- `lines::line_count` meets its contract: as many lines as bytes 10, and one more where the last byte is none.
use native.Mathlib.Omega.{arith}
use mathlib.Core.Path.{sym, ◌∙◌}
use Rattle.scan.proofs.Newlines.{lines_none, lines-ended, lines-open}
use Rattle.scan.proofs.lines.line_count.Goals as goal

pub returns-in-Some : goal.returns-in-Some
returns-in-Some c =
    let k = c.in-Some.ensures.item.3 in
    omega (arith, c.newline_count-ended.ensures.0, lines-open c.args.text.now k.0 (λ e. c.if-b-ne-NEWLINE.true (k.1 0 ∙ e)))

pub returns-in_default : goal.returns-in_default
returns-in_default c =
    let k = c.in-Some.ensures.item.3 in
    c.newline_count-ended.ensures.0 ∙ sym (lines-ended c.args.text.now k.0 (sym (k.1 0) ∙ c.if-b-ne-NEWLINE.false))

pub returns-in_default-2 : goal.returns-in_default-2
returns-in_default-2 c =
    let k = rw c.in_default.is at c.last.ensures.item in
    omega (arith, k.3, c.newline_count-ended.ensures.1, lines_none c.args.text.now (omega (arith, k.3)))
