-- `distinct::sort` meets its contract.
use native.Mathlib.Omega.{arith}
use Prim.Native.Nat.{ℕ, ◌≤◌, ◌/◌}
use mathlib.Core.Path.{refl, ◌∙◌}
use lib.ListN.{length}
use lib.Seq.{length_front}
use Rattle.std.proofs.lemmas.Result.{err_from_is_err_and}
use Rattle.distinct.specs.Sorting.{names}
use Rattle.distinct.proofs.Halving.{sorted-short, first-twice, second-twice, parts-long, halves-sorted}
use Rattle.distinct.proofs.+sort.Goals as goal

half_le : (n : ℕ) → n / 2 ≤ n
half_le n = omega arith

pub returns-then-words-lt2 : goal.returns-then-words-lt2
returns-then-words-lt2 t c = (refl, refl, sorted-short c.args.text.now c.args.words.now c.if-words-lt2.true)

pub returns-in_err-sort : goal.returns-in_err-sort
returns-in_err-sort t c =
    let s = c.args.text.now in
    let l = c.args.words.now in
    let h = length l / 2 in
    let r = err_from_is_err_and c.from_residual.result c.from_residual.ensures.1 in
    (length_front l c.sort.new.words h c.in_err-sort.ensures.0, c.in_err-sort.ensures.1, rw r.1 (first-twice s l h c.in_err-sort.ensures.2))

pub returns-in_err-sort-2 : goal.returns-in_err-sort-2
returns-in_err-sort-2 t c =
    let s = c.args.text.now in
    let l = c.args.words.now in
    let h = length l / 2 in
    let a = c.sort.new.words in
    let e = c.in_ok-sort.ensures in
    let g = c.in_err-sort-2.ensures in
    let r = err_from_is_err_and c.from_residual-in_err-sort-2.result c.from_residual-in_err-sort-2.ensures.1 in (
      parts-long s l h a e.0 (half_le (length l)) c.sort-2.new.words g.0,
      g.1 ∙ e.1,
      rw r.1 (second-twice s l h a e.0 (half_le (length l)) g.2),
    )

pub returns : goal.returns
returns t c =
    let s = c.args.text.now in
    let l = c.args.words.now in
    let h = length l / 2 in
    let a = c.sort.new.words in
    let b = c.sort-2.new.words in
    let e = c.in_ok-sort.ensures in
    let g = c.in_ok-sort-2.ensures in
    let m = c.merge_within in (
      m.ensures.0 ∙ parts-long s l h a e.0 (half_le (length l)) b g.0,
      m.ensures.1 ∙ g.1 ∙ e.1,
      halves-sorted s l h a e.0 (half_le (length l)) b (names s m.new.words) m.result e.2 g.2 m.ensures.2,
    )
