-- `outputs::mark_line` meets its contract.
use mathlib.Core.Path.{◌≡◌, sym, subst, ◌∙◌}
use mathlib.Core.List.{List, []}
use Rattle.blif.specs.Words.{Word}
use Rattle.blif.specs.Scan.{words_at}
use Rattle.names.specs.Table.{names_in}
use Rattle.outputs.specs.ByWord.{output_words}
use Rattle.outputs.specs.Marks.{WordsMarked}
use Rattle.outputs.proofs.Marking.{words-end, line-empty, line_other, line-own}
use Rattle.outputs.proofs.mark_line.Goals as goal
use Rattle.outputs.proofs.mark_line.Goals.{then-line_ends-via-then-line_ends, then-line_ends-via-else-line_ends+then-not-spells}

pub returns-then-line_ends-clause-words_marked : goal.returns-then-line_ends-clause-words_marked
returns-then-line_ends-clause-words_marked c =
    let a = c.args in
    let first = c.after_blanks-first in
    let none : output_words (words_at a.text.now a.at) ≡ [] = elim c.then-line_ends.branch [
      | then-line_ends-via-then-line_ends w ↦ line-empty a.text.now a.at first.result first.ensures.0 (sym c.line_ends.ensures ∙ w.if-line_ends.true)
      | then-line_ends-via-else-line_ends+then-not-spells w ↦
          line_other a.text.now a.at first.result first.ensures.0 (sym c.line_ends.ensures ∙ w.if-line_ends.false) (sym w.spells.ensures ∙ w.if-not-spells.true)
    ] in
    words-end (names_in a.names.now a.count) (output_words (words_at a.text.now a.at)) a.nodes.now none

pub returns-clause-words_marked : goal.returns-clause-words_marked
returns-clause-words_marked c =
    let a = c.args in
    let e = line-own a.text.now a.at c.after_blanks-first.result c.after_blanks-first.ensures.0 c.after_word.result (sym c.line_ends.ensures ∙ c.if-line_ends.false)
    (sym c.spells.ensures ∙ c.if-not-spells.false) c.after_word.ensures.0 in
    subst (λ (ws : List Word). WordsMarked (names_in a.names.now a.count) ws a.nodes.now c.mark_words.new.nodes c.mark_words.result) (sym e) c.mark_words.ensures.words_marked
