-- `grounds::resolves` meets its contract: the counts say whether all names read are defined and no name defined is; the rest is whether those
-- defined are different.
use mathlib.Core.Path.{sym, ap, ◌∙◌}
use mathlib.Core.List.{[]}
use native.Mathlib.Omega.{arith}
use borrow.Author.Tests.{eqb-true, eqb-false, lt-ltb}
use lib.Seq.{take_all}
use Rattle.blif.specs.Scan.{words_at}
use Rattle.blif.specs.Names.{fresh}
use Rattle.names.specs.Table.{names_in}
use Rattle.grounds.proofs.LineTests.{fresh-few, defines-length, reads-fail, defines-fail, own-names}
use Rattle.grounds.proofs.resolves.Goals as goal
use Rattle.grounds.proofs.resolves.Goals.{then-count_defined-parts, else-count_defined-parts}

pub returns-then-parts-lt2 : goal.returns-then-parts-lt2
returns-then-parts-lt2 c = λ s P.
    let a = c.args in
    let after = words_at a.text.now c.skip_words-after_reads.result in
    elim c.if-count_defined-parts.branch [
      | then-count_defined-parts w ↦
          let none = eqb-true w.count_defined-then-count_defined-parts.result 0 (sym w.value-is ∙ c.if-count_defined-eq0.true) in
          own-names (names_in a.names.now a.count) (words_at a.text.now a.rest) after s a.parts P c.skip_words-after_reads.ensures _
          (omega (arith, w.if-count_defined-parts.true, c.count_defined.ensures)) (omega (arith, none, w.count_defined-then-count_defined-parts.ensures))
          (lt-ltb _ _ c.if-parts-lt2.true ∙ fresh-few a.parts.defines after c.if-parts-lt2.true)
      | else-count_defined-parts w ↦ absurd (w.if-count_defined-parts.false (eqb-true _ _ (sym w.value-is ∙ c.if-count_defined-eq0.true)))
    ]

pub returns-else-parts-lt2 : goal.returns-else-parts-lt2
returns-else-parts-lt2 c = λ s P.
    let a = c.args in
    let after = words_at a.text.now c.skip_words-after_reads.result in
    let n = defines-length a.parts.reads a.parts.defines (words_at a.text.now a.rest) after c.skip_words-after_reads.ensures c.if-parts-lt2.false c.requires.defines_in_bounds.1 in
    elim c.if-count_defined-parts.branch [
      | then-count_defined-parts w ↦
          let none = eqb-true w.count_defined-then-count_defined-parts.result 0 (sym w.value-is ∙ c.if-count_defined-eq0.true) in
          own-names (names_in a.names.now a.count) (words_at a.text.now a.rest) after s a.parts P c.skip_words-after_reads.ensures _
          (omega (arith, w.if-count_defined-parts.true, c.count_defined.ensures)) (omega (arith, none, w.count_defined-then-count_defined-parts.ensures))
          (c.distinct_words.ensures ∙ ap (fresh []) (sym (take_all a.parts.defines after (omega (arith, n)))))
      | else-count_defined-parts w ↦ absurd (w.if-count_defined-parts.false (eqb-true _ _ (sym w.value-is ∙ c.if-count_defined-eq0.true)))
    ]

pub returns-else-count_defined-eq0 : goal.returns-else-count_defined-eq0
returns-else-count_defined-eq0 c = λ s P.
    let a = c.args in
    let after = words_at a.text.now c.skip_words-after_reads.result in
    elim c.if-count_defined-parts.branch [
      | then-count_defined-parts w ↦
          let some = eqb-false w.count_defined-then-count_defined-parts.result 0 (sym w.value-is ∙ c.if-count_defined-eq0.false) in
          c.if-count_defined-eq0.false ∙ defines-fail (names_in a.names.now a.count) (words_at a.text.now a.rest) after s a.parts P c.skip_words-after_reads.ensures
          (omega (arith, some, w.count_defined-then-count_defined-parts.ensures))
      | else-count_defined-parts w ↦
          c.if-count_defined-eq0.false ∙ reads-fail (names_in a.names.now a.count) (words_at a.text.now a.rest) after s a.parts P c.skip_words-after_reads.ensures
          (λ e. w.if-count_defined-parts.false (c.count_defined.ensures ∙ e))
    ]
