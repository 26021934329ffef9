-- `next` of the words of a line meets its contract.
use mathlib.Core.Path.{refl, sym, ap}
use native.Mathlib.Omega.{arith}
use lib.ListN.{length}
use Rattle.blif.proofs.Walking.{words-none, words-some}
use Rattle.scan.proofs.Counting.{inside}
use Rattle.scan.proofs.words.LineWordsIterator.next.Goals as goal

pub returns-then-line_ends-clause-steps : goal.returns-then-line_ends-clause-steps
returns-then-line_ends-clause-steps c =
    let it = c.args.self.now in
    let n = words-none it.text.now it.at c.after_blanks-first.result c.after_blanks-first.ensures.0 (sym c.if-line_ends.ensures) in
    (refl, (n, n))

pub returns-clause-steps : goal.returns-clause-steps
returns-clause-steps c =
    let it = c.args.self.now in
    let e = sym c.if-line_ends.ensures in
    let first = c.after_blanks-first in
    (refl, (inside it.text.now first.result e, words-some it.text.now it.at first.result c.after_word-self.result first.ensures.0 e c.after_word-self.ensures.0))

pub returns-clause-goes : goal.returns-clause-goes
returns-clause-goes c =
    let it = c.args.self.now in
    let first = c.after_blanks-first in
    let n = words-some it.text.now it.at first.result c.after_word-self.result first.ensures.0 (sym c.if-line_ends.ensures) c.after_word-self.ensures.0 in
    record { on = λ _. (tt, tt, omega (arith, ap length n)); keeps = tt; rests = λ _. tt }
