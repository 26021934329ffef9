-- `grounds::all_short` meets its contract: the words that are left decide.
use mathlib.Core.Path.{sym, ap, ◌∙◌}
use borrow.Author.Tests.{le-leb, lt-leb}
use native.Mathlib.Omega.{arith}
use lib.ListN.{length}
use Rattle.std.specs.Iterator.Adapters.{take_source, take_count}
use Rattle.maps.specs.Lists.{all}
use Rattle.blif.specs.Words.{Word}
use Rattle.blif.specs.Scan.{name_at}
use Rattle.scan.specs.WordByWord.{words_left}
use Rattle.grounds.proofs.KeepLaws.{all_next, all-stops, taken_none}
use Rattle.grounds.proofs.WordLaws.{next_word}
use Rattle.grounds.proofs.all_short.Invariants.{short}
use Rattle.grounds.proofs.all_short.Goals as goal

pub returns-then-name_length-gt-NAME_MOST : goal.returns-then-name_length-gt-NAME_MOST
returns-then-name_length-gt-NAME_MOST c =
    let l = c.loop-first in
    let t = c.args.text.now in
    let first = c.in-Some.first in
    let s = c.in-Some.ensures.steps in
    let before = take_source l.first-iterator in
    let after = take_source c.next.new.self in
    let e = next_word before.text.now t first (words_left before) (words_left after) s.0.1.1 l.invariant.0 in
    sym (l.invariant.2 ∙ all-stops short (take_count l.first-iterator) (take_count c.next.new.self) (words_left before) (words_left after) (name_at t first) e s.1
    (lt-leb _ 31 (omega (arith, c.if-name_length-gt-NAME_MOST.true, c.name_length.ensures))))

pub loop-first-preserved : goal.loop-first-preserved
loop-first-preserved c =
    let l = c.loop-first in
    let t = c.args.text.now in
    let first = c.in-Some.first in
    let s = c.in-Some.ensures.steps in
    let before = take_source l.first-iterator in
    let after = take_source c.next.new.self in
    let e = next_word before.text.now t first (words_left before) (words_left after) s.0.1.1 l.invariant.0 in (
      s.0.0 ∙ l.invariant.0,
      omega (arith, l.invariant.1, ap (length {A = Word}) e, s.1),
      l.invariant.2 ∙ all_next short (take_count l.first-iterator) (take_count c.next.new.self) (words_left before) (words_left after) (name_at t first) e s.1
          (le-leb _ 31 (omega (arith, c.if-name_length-gt-NAME_MOST.false, c.name_length.ensures))),
    )

pub returns : goal.returns
returns c =
    let l = c.loop-first in
    let it = take_source l.first-iterator in
    sym (l.invariant.2 ∙ ap (all short) (taken_none (take_count l.first-iterator) (words_left it) l.invariant.1 (λ h. (c.in-None.ensures.steps h).1.0)))
