-- `outputs::mark_words` meets its contract: what marking the words that are left comes to is what marking them all comes to.
use mathlib.Core.Path.{◌≡◌, ap, ◌∙◌}
use mathlib.Core.Bool.{true, false}
use mathlib.Core.List.{List, [], ◌∷◌}
use Prim.Native.Nat.{ℕ}
use native.Mathlib.Omega.{arith}
use lib.ListN.{length, length-set}
use Rattle.blif.specs.Words.{Word}
use Rattle.blif.specs.Scan.{name_at}
use Rattle.blif.proofs.Ordering.{once-none, once_more}
use Rattle.scan.specs.WordByWord.{words_left}
use Rattle.names.specs.Table.{names_in}
use Rattle.names.proofs.Tables.{length-names}
use Rattle.outputs.proofs.Marking.{words-end, word-marked, word-missing}
use Rattle.outputs.proofs.mark_words.Goals as goal

-- the word that is next, in the text
next_word : (s t : List ℕ) (first : ℕ) (ws rest : List Word) → ws ≡ name_at s first ∷ rest → s ≡ t → ws ≡ name_at t first ∷ rest
next_word s t first ws rest e q = e ∙ ap (λ (u : List ℕ). name_at u first ∷ rest) q

pub returns-in_default-clause-words_marked : goal.returns-in_default-clause-words_marked
returns-in_default-clause-words_marked c =
    let l = c.loop-first in
    let a = c.args in
    let ns = names_in a.names.now a.count in
    let first = c.in-Some.first in
    let ws = words_left l.first-iterator in
    let rest = words_left c.next.new.self in
    let e = next_word l.first-iterator.text.now a.text.now first ws rest c.in-Some.ensures.steps.1.1 l.invariant.1 in
    l.invariant.2 l.nodes false (word-missing ns (name_at a.text.now first) ws rest l.nodes l.nodes a.count e c.in_default.ensures.id (omega (arith, length-names a.names.now a.count)))

pub loop-first-preserved : goal.loop-first-preserved
loop-first-preserved c =
    let l = c.loop-first in
    let a = c.args in
    let ns = names_in a.names.now a.count in
    let first = c.in-Some.first in
    let ws = words_left l.first-iterator in
    let rest = words_left c.next.new.self in
    let id = c.in-Some-id_of in
    let e = next_word l.first-iterator.text.now a.text.now first ws rest c.in-Some.ensures.steps.1.1 l.invariant.1 in
    let m = c.mark_output.ensures in (
      ap length m ∙ length-set l.nodes _ 1 ∙ l.invariant.0,
      c.in-Some.ensures.steps.0 ∙ l.invariant.1,
      λ after r p.
          l.invariant.2 after r
          (word-marked ns (name_at a.text.now first) ws rest l.nodes c.mark_output.new.nodes after r id.id e (once_more [] ns once-none c.requires.0.once) id.ensures.id
          (omega (arith, length-names a.names.now a.count, id.ensures.known)) m p),
    )

pub returns-clause-words_marked : goal.returns-clause-words_marked
returns-clause-words_marked c =
    let l = c.loop-first in
    let a = c.args in
    l.invariant.2 l.nodes true (words-end (names_in a.names.now a.count) (words_left l.first-iterator) l.nodes c.in-None.ensures.steps.1.0)
