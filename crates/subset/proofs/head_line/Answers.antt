-- `subset::head_line` meets its contract.
use mathlib.Core.Path.{sym, ◌∙◌}
use Rattle.blif.specs.Scan.{name_at, words_at}
use Rattle.subset.specs.Meant.{statement_meant}
use Rattle.subset.proofs.LineLaws.{head-inputs, head-outputs, head-other}
use Rattle.subset.proofs.head_line.Goals as goal

pub returns-then-spells : goal.returns-then-spells
returns-then-spells c =
    (head-inputs (name_at c.args.text.now c.args.first) (words_at c.args.text.now c.args.rest) (sym c.spells.ensures ∙ c.if-spells.true), tt)

pub returns-then-spells-2 : goal.returns-then-spells-2
returns-then-spells-2 c =
    (head-outputs (name_at c.args.text.now c.args.first) (words_at c.args.text.now c.args.rest) (sym c.spells.ensures ∙ c.if-spells.false) (sym c.spells-else-spells.ensures ∙ c.if-spells-2.true), tt)

pub returns-else-spells-2 : goal.returns-else-spells-2
returns-else-spells-2 c =
    (head-other (name_at c.args.text.now c.args.first) (words_at c.args.text.now c.args.rest) (statement_meant c.body_line.result (words_at c.args.text.now c.args.rest)) (sym c.spells.ensures ∙ c.if-spells.false) (sym c.spells-else-spells.ensures ∙ c.if-spells-2.false) c.body_line.ensures.0, c.body_line.ensures.1)
