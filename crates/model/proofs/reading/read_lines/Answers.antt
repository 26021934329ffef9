-- `reading::read_lines` meets its contract: what reading the lines from the position on comes to is what reading all comes to.
use mathlib.Core.Path.{refl}
use native.Mathlib.Omega.{arith}
use Rattle.std.proofs.lemmas.Result.{err_from_is_err_and}
use Rattle.model.proofs.Turning.{reach-first, reach-next, reach-fault, reach-last}
use Rattle.model.proofs.reading.read_lines.Goals as goal

pub loop-at-init : goal.loop-at-init
loop-at-init c = reach-first c.args.text.now c.args.delay c.args.circuit.now _ refl c.requires.1

pub returns-in_err-stage : goal.returns-in_err-stage
returns-in_err-stage c =
    let l = c.loop-at in
    let r = c.read_line in
    let p = err_from_is_err_and c.from_residual.result c.from_residual.ensures.1 in
    rw (p.1, p.2)
    (reach-fault c.args.text.now c.args.delay l.at c.after_line-next.result c.loop-at-test.true c.after_line-next.ensures.0 l.circuit l.stage l.invariant r.new.circuit _
    (c.in_err-stage.ensures l.invariant.model l.invariant.kept))

pub loop-at-preserved : goal.loop-at-preserved
loop-at-preserved c =
    let l = c.loop-at in
    reach-next c.args.text.now c.args.delay l.at c.after_line-next.result c.loop-at-test.true c.after_line-next.ensures.0 l.circuit l.stage l.invariant c.read_line.new.circuit c.in_ok-stage.stage
    (c.in_ok-stage.ensures l.invariant.model l.invariant.kept)

pub returns : goal.returns
returns c =
    reach-last c.args.text.now c.args.delay c.loop-at.at c.loop-at.circuit c.loop-at.stage (omega (arith, c.loop-at-test.false)) c.loop-at.invariant
