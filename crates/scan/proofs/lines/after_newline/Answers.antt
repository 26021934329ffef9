-- `lines::after_newline` meets its contract: what is after the next byte 10 from the position is so from the start.
use Prim.Native.Nat.{◌≤◌, ◌<◌}
use mathlib.Core.Path.{sym, ◌∙◌}
use native.Mathlib.Omega.{arith}
use lib.ListN.{length, drop_of_length-le}
use Rattle.scan.proofs.Newlines.{past-here, past-on, past_end}
use Rattle.scan.proofs.lines.after_newline.Goals as goal

pub returns-then-text-at-eq-NEWLINE : goal.returns-then-text-at-eq-NEWLINE
returns-then-text-at-eq-NEWLINE c =
    let l : c.loop-at.at < length c.args.text.now = omega arith in
    (sym (c.loop-at.invariant ∙ past-here c.args.text.now c.loop-at.at l c.if-text-at-eq-NEWLINE.true), omega arith, λ h. omega arith)

pub loop-at-preserved : goal.loop-at-preserved
loop-at-preserved c =
    let l : c.loop-at.at < length c.args.text.now = omega arith in
    c.loop-at.invariant ∙ past-on c.args.text.now c.loop-at.at l c.if-text-at-eq-NEWLINE.false

pub returns : goal.returns
returns c =
    let l : length c.args.text.now ≤ c.loop-at.at = omega arith in
    let m : length c.args.text.now ≤ c.max.result = omega (arith, c.max.ensures) in
    (drop_of_length-le c.args.text.now m ∙ sym (c.loop-at.invariant ∙ past_end c.args.text.now c.loop-at.at l), omega (arith, c.max.ensures), λ h. omega (arith, c.max.ensures))
