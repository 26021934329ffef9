-- `is_leaf` meets its contract.
use mathlib.Core.Path.{sym}
use Rattle.flow.proofs.Marks.{mark-entered, mark-inside}
use Rattle.cut.proofs.is_leaf.Goals as goal

pub returns-then-not-seen-i : goal.returns-then-not-seen-i
returns-then-not-seen-i c = mark-entered c.args.seen.now c.args.x c.if-not-seen-i.true

pub returns-else-not-seen-i : goal.returns-else-not-seen-i
returns-else-not-seen-i c = let e = c.if-not-seen-i.false in rw e (sym (mark-inside c.args.seen.now c.args.x c.requires e))
