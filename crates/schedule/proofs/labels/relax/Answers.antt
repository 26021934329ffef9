-- `labels::relax` meets its contract. The loop's invariant: the labels can go on from, and the rounds are few. The measure is how many rounds
-- there can still be, whatever the horizon.
use borrow.Author.Tests.{eqb-true, eqb-false}
use native.Mathlib.Omega.{arith}
use mathlib.Core.Bool.{true, false}
use mathlib.Core.Path.{sym, ◌∙◌}
use Rattle.std.proofs.lemmas.Result.{err_from_is_err_and}
use Rattle.bound.proofs.Safety.{summed-all}
use Rattle.schedule.proofs.Rounds.{round-ends, round-floats, round-sweepable, round-going, round-more, round-fits, round-tested}
use Rattle.schedule.proofs.labels.relax.Goals as goal

pub is_last-requires-clause-summed : goal.is_last-requires-clause-summed
is_last-requires-clause-summed c w =
    let p = c.requires.underway in
    let i = c.loop-course.invariant.0 p.0 p.1 p.2 p.3 in
    let q = rw w at (c.in_ok-course.ensures p.0 p.1 i.0 i.1) in
    summed-all q.0.given q.0.timed

pub returns-then-is_last : goal.returns-then-is_last
returns-then-is_last c S bound going p tests =
    let i = c.loop-course.invariant.0 S bound going p in
    round-ends i.0.given c.requires.linked _ _ _ _ _ _ _ i.1 _ true c.if-is_last.ensures (c.in_ok-course.ensures S bound i.0 i.1)

pub heed-requires-clause-some_fails : goal.heed-requires-clause-some_fails
heed-requires-clause-some_fails c =
    let p = c.requires.underway in
    let i = c.loop-course.invariant.0 p.0 p.1 p.2 p.3 in
    let x = round-ends i.0.given c.requires.linked _ _ _ _ _ _ _ i.1 _ false c.if-is_last.ensures (c.in_ok-course.ensures p.0 p.1 i.0 i.1) in
    x.fails

pub returns-in_err-heed : goal.returns-in_err-heed
returns-in_err-heed c S bound going p tests =
    let i = c.loop-course.invariant.0 S bound going p in
    let x = round-ends i.0.given c.requires.linked _ _ _ _ _ _ _ i.1 _ false c.if-is_last.ensures (c.in_ok-course.ensures S bound i.0 i.1) in
    let y = c.in_err-heed.ensures in
    let q = err_from_is_err_and c.from_residual-in_err-heed.result c.from_residual-in_err-heed.ensures.1 in
    rw q.1
    (round-floats x c.args.testing c.loop-course.rounds c.loop-course.due tests c.loop-course.invariant.2 (eqb-true _ _ (sym c.mode_of-mode.ensures.test_value ∙ y.3)) c.loop-course.invariant.1
    (c.mode_of-mode.ensures.whole_value y.3) y.0 y.1 y.2)

pub sweep-requires : goal.sweep-requires
sweep-requires c =
    let p = c.requires.underway in
    let i = c.loop-course.invariant.0 p.0 p.1 p.2 p.3 in
    let x = round-ends i.0.given c.requires.linked _ _ _ _ _ _ _ i.1 _ false c.if-is_last.ensures (c.in_ok-course.ensures p.0 p.1 i.0 i.1) in
    (p.0, p.1, round-sweepable x c.in_ok-heed.ensures)

pub returns-in_err-sweep : goal.returns-in_err-sweep
returns-in_err-sweep c S bound going p tests =
    let i = c.loop-course.invariant.0 S bound going p in
    let x = round-ends i.0.given c.requires.linked _ _ _ _ _ _ _ i.1 _ false c.if-is_last.ensures (c.in_ok-course.ensures S bound i.0 i.1) in
    let q = err_from_is_err_and c.from_residual-in_err-sweep.result c.from_residual-in_err-sweep.ensures.1 in
    rw q.1 (c.in_err-sweep.ensures S bound (round-sweepable x c.in_ok-heed.ensures))

pub next_due-due-requires : goal.next_due-due-requires
next_due-due-requires c =
    let p = c.requires.underway in
    let i = c.loop-course.invariant.0 p.0 p.1 p.2 p.3 in
    let x = round-ends i.0.given c.requires.linked _ _ _ _ _ _ _ i.1 _ false c.if-is_last.ensures (c.in_ok-course.ensures p.0 p.1 i.0 i.1) in
    let y = c.in_ok-heed.ensures in
    let v = c.in_ok-sweep.ensures p.0 p.1 (round-sweepable x y) in
    (omega (arith, c.loop-course.invariant.1.early), round-fits x y _ _ v c.loop-course.rounds c.loop-course.due c.loop-course.invariant.1 (eqb-true _ _ (sym c.mode_of-mode.ensures.test_value ∙ c.if-mode.true)) c.if-mode.true)

pub loop-course-preserved-then-mode : goal.loop-course-preserved-then-mode
loop-course-preserved-then-mode c =
    let p = c.requires.underway in
    let i = c.loop-course.invariant.0 p.0 p.1 p.2 p.3 in
    let x = round-ends i.0.given c.requires.linked _ _ _ _ _ _ _ i.1 _ false c.if-is_last.ensures (c.in_ok-course.ensures p.0 p.1 i.0 i.1) in
    let y = c.in_ok-heed.ensures in
    let v = c.in_ok-sweep.ensures p.0 p.1 (round-sweepable x y) in (
      λ S bound going r.
          let j = c.loop-course.invariant.0 S bound going r in
          let a = round-ends j.0.given c.requires.linked _ _ _ _ _ _ _ j.1 _ false c.if-is_last.ensures (c.in_ok-course.ensures S bound j.0 j.1) in
          round-going a y _ _ (c.in_ok-sweep.ensures S bound (round-sweepable a y)),
      round-tested x y _ _ v c.loop-course.rounds c.loop-course.due c.loop-course.invariant.1 (eqb-true _ _ (sym c.mode_of-mode.ensures.test_value ∙ c.if-mode.true)) c.if-mode.true c.next_due-due.result c.next_due-due.ensures.0 c.next_due-due.ensures.1,
      omega (arith, c.loop-course.invariant.2, c.next_due-due.ensures.0),
    )

pub loop-course-preserved : goal.loop-course-preserved
loop-course-preserved c =
    let p = c.requires.underway in
    let i = c.loop-course.invariant.0 p.0 p.1 p.2 p.3 in
    let x = round-ends i.0.given c.requires.linked _ _ _ _ _ _ _ i.1 _ false c.if-is_last.ensures (c.in_ok-course.ensures p.0 p.1 i.0 i.1) in
    let y = c.in_ok-heed.ensures in
    let v = c.in_ok-sweep.ensures p.0 p.1 (round-sweepable x y) in (
      λ S bound going r.
          let j = c.loop-course.invariant.0 S bound going r in
          let a = round-ends j.0.given c.requires.linked _ _ _ _ _ _ _ j.1 _ false c.if-is_last.ensures (c.in_ok-course.ensures S bound j.0 j.1) in
          round-going a y _ _ (c.in_ok-sweep.ensures S bound (round-sweepable a y)),
      round-more x y _ _ v c.loop-course.rounds c.loop-course.due c.loop-course.invariant.1 (eqb-false _ _ (sym c.mode_of-mode.ensures.test_value ∙ c.if-mode.false)),
      c.loop-course.invariant.2,
    )
