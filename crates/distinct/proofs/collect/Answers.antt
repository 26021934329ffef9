-- `distinct::collect` meets its contract: the positions of the first i words are in the list, and the other words are left.
use mathlib.Core.Path.{◌∙◌}
use lib.ListN.{length-set}
use Rattle.std.specs.Iterator.Adapters.{enumerate_source, enumerate_count}
use Rattle.distinct.proofs.Collecting.{collected-turn}
use Rattle.distinct.proofs.collect.Goals as goal

pub loop-i-preserved : goal.loop-i-preserved
loop-i-preserved c =
    let a = c.args in
    let l = c.loop-i in
    let s = c.in-Some.ensures.steps in
    let before = enumerate_source l.i-iterator in
    let after = enumerate_source c.next.new.self in (
      collected-turn a.text.now before.text.now after.text.now a.start l.words before.at after.at (enumerate_count l.i-iterator) c.in-Some.i (enumerate_count c.next.new.self) c.in-Some.first
          l.invariant.0 (l.invariant.1 ∙ c.requires.words_len) l.invariant.2 s.0.0 s.0.1.1 s.1 s.2,
      length-set l.words c.in-Some.i c.in-Some.first ∙ l.invariant.1,
      s.0.0 ∙ l.invariant.2,
    )
