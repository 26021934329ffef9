-- `fill::read_operands` meets its contract: one operand a turn.
use mathlib.Core.Path.{refl, sym, ◌∙◌}
use borrow.Author.Rules.{rules}
use native.Mathlib.Omega.{arith}
use Rattle.std.proofs.lemmas.Result.{err_from_is_err_and}
use Rattle.sheet.proofs.Turns.{turn, stop, done}
use Rattle.sheet.proofs.fill.read_operands.Goals as goal

pub returns-in_err-at : goal.returns-in_err-at
returns-in_err-at c =
    let p = err_from_is_err_and c.from_residual.result c.from_residual.ensures.1 in
    rw (p.1, p.2) (sym (stop _ _ _ _ _ _ c.in_err-at.ensures _ (search rules) _ _ refl) ∙ c.loop-i.invariant)

pub loop-i-preserved : goal.loop-i-preserved
loop-i-preserved c = sym (turn _ _ _ _ _ _ c.in_ok-at.ensures _ (search rules) _ refl) ∙ c.loop-i.invariant

pub returns : goal.returns
returns c = sym (done _ _ _ _ _ (omega arith)) ∙ c.loop-i.invariant
