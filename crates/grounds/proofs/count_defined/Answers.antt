-- `grounds::count_defined` meets its contract: as many as were counted, and those of the words that are left.
use mathlib.Core.Path.{sym, ap, ◌∙◌}
use native.Mathlib.Omega.{arith}
use Rattle.std.specs.Iterator.Adapters.{take_source, take_count}
use lib.ListN.{length}
use Rattle.maps.specs.Lists.{keep}
use Rattle.blif.specs.Words.{Word}
use Rattle.blif.specs.Scan.{name_at}
use Rattle.blif.specs.Names.{has}
use Rattle.scan.specs.WordByWord.{words_left}
use Rattle.names.specs.Table.{names_in}
use Rattle.grounds.proofs.KeepLaws.{kept_next, kept_same, taken_none}
use Rattle.grounds.proofs.TableLaws.{in_table}
use Rattle.grounds.proofs.WordLaws.{next_word}
use Rattle.grounds.proofs.count_defined.Goals as goal

pub overflow_add-defined : goal.overflow_add-defined
overflow_add-defined c = omega (arith, c.loop-first.invariant.2, c.in-Some.ensures.steps.1)

pub loop-first-preserved-then-is_some : goal.loop-first-preserved-then-is_some
loop-first-preserved-then-is_some c =
    let a = c.args in
    let l = c.loop-first in
    let first = c.in-Some.first in
    let s = c.in-Some.ensures.steps in
    let before = take_source l.first-iterator in
    let after = take_source c.next.new.self in
    let id = c.id_of in
    let e = next_word before.text.now a.text.now first (words_left before) (words_left after) s.0.1.1 l.invariant.0 in
    let known = in_table a.names.now a.count (name_at a.text.now first) id.result id.ensures.id id.ensures.known in
    let counted = kept_next (has (names_in a.names.now a.count)) (take_count l.first-iterator) (take_count c.next.new.self) (words_left before) (words_left after) (name_at a.text.now first) e s.1 (known ∙ sym c.is_some.ensures ∙ c.if-is_some.true) in
    (s.0.0 ∙ l.invariant.0, omega (arith, l.invariant.1, ap (length {A = Word}) e, s.1), omega (arith, l.invariant.2, s.1), omega (arith, l.invariant.3, counted))

pub loop-first-preserved : goal.loop-first-preserved
loop-first-preserved c =
    let a = c.args in
    let l = c.loop-first in
    let first = c.in-Some.first in
    let s = c.in-Some.ensures.steps in
    let before = take_source l.first-iterator in
    let after = take_source c.next.new.self in
    let id = c.id_of in
    let e = next_word before.text.now a.text.now first (words_left before) (words_left after) s.0.1.1 l.invariant.0 in
    let known = in_table a.names.now a.count (name_at a.text.now first) id.result id.ensures.id id.ensures.known in
    let counted = kept_same (has (names_in a.names.now a.count)) (take_count l.first-iterator) (take_count c.next.new.self) (words_left before) (words_left after) (name_at a.text.now first) e s.1 (known ∙ sym c.is_some.ensures ∙ c.if-is_some.false) in
    (s.0.0 ∙ l.invariant.0, omega (arith, l.invariant.1, ap (length {A = Word}) e, s.1), omega (arith, l.invariant.2, s.1), omega (arith, l.invariant.3, counted))

pub returns : goal.returns
returns c =
    let l = c.loop-first in
    let it = take_source l.first-iterator in
    let p = has (names_in c.args.names.now c.args.count) in
    omega (arith, l.invariant.3, ap (λ ws. length (keep p ws)) (taken_none (take_count l.first-iterator) (words_left it) l.invariant.1 (λ h. (c.in-None.ensures.steps h).1.0)))
