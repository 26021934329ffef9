-- `distinct::unjoin` meets its contract: the copy so far and the line from the position on are the line.
use Prim.Native.Nat.{◌<◌}
use native.Mathlib.Omega.{arith}
use mathlib.Core.Path.{sym, ◌∙◌}
use lib.ListN.{length, length-set, get_or}
use Rattle.blif.specs.Lines.{comment}
use Rattle.scan.proofs.Counting.{inside}
use Rattle.distinct.proofs.Unjoining.{copied-stop, copied_byte}
use Rattle.distinct.proofs.unjoin.Goals as goal

pub returns-then-line_ends : goal.returns-then-line_ends
returns-then-line_ends c =
    let l = c.loop-place in
    let p = c.after_joins-at in
    let q : l.place-index < length l.line = omega arith in (
      length-set l.line l.place-index comment ∙ l.invariant.1,
      λ e. copied-stop c.args.text.now c.args.start l.line l.at l.place-index p.result l.invariant.0 p.ensures.0 q (sym c.if-line_ends.ensures),
    )

pub bounds-text-at : goal.bounds-text-at
bounds-text-at c = inside c.args.text.now c.after_joins-at.result (sym c.if-line_ends.ensures)

pub overflow_add-at : goal.overflow_add-at
overflow_add-at c = omega (arith, inside c.args.text.now c.after_joins-at.result (sym c.if-line_ends.ensures))

pub loop-place-preserved : goal.loop-place-preserved
loop-place-preserved c =
    let l = c.loop-place in
    let p = c.after_joins-at in
    let q : l.place-index < length l.line = omega arith in (
      copied_byte c.args.text.now c.args.start l.line l.at l.place-index p.result l.invariant.0 p.ensures.0 q (sym c.if-line_ends.ensures),
      length-set l.line l.place-index (get_or c.args.text.now p.result 0) ∙ l.invariant.1,
    )
