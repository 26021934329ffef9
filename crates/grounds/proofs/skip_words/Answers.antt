-- `grounds::skip_words` meets its contract: the words from the position on are those after the first ones from the start.
use native.Mathlib.Omega.{arith}
use Rattle.blif.proofs.Walking.{words-after}
use Rattle.grounds.proofs.skip_words.Goals as goal

pub loop-preserved : goal.loop-preserved
loop-preserved c =
    let l = c.loop in
    words-after c.args.text.now c.args.start l.at c.after_blanks.result c.after_word-at.result l.counter l.invariant (omega (arith, c.loop-test.true, c.requires)) c.after_blanks.ensures.0 c.after_word-at.ensures.0
