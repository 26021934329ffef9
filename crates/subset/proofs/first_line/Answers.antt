-- `subset::first_line` meets its contract.
use mathlib.Core.Path.{sym, ◌∙◌}
use Rattle.blif.specs.Scan.{name_at, words_at}
use Rattle.subset.specs.Meant.{statement_meant}
use Rattle.subset.proofs.LineLaws.{first-model, first-other}
use Rattle.subset.proofs.first_line.Goals as goal

pub returns-then-spells : goal.returns-then-spells
returns-then-spells c =
    (first-model (name_at c.args.text.now c.args.first) (words_at c.args.text.now c.args.rest) (statement_meant c.model_line.result (words_at c.args.text.now c.args.rest)) (sym c.spells.ensures ∙ c.if-spells.true) (c.model_line.ensures.0 (words_at c.args.text.now c.args.rest) (sym c.requires)), c.model_line.ensures.1)

pub returns-else-spells : goal.returns-else-spells
returns-else-spells c =
    (first-other (name_at c.args.text.now c.args.first) (words_at c.args.text.now c.args.rest) (sym c.spells.ensures ∙ c.if-spells.false), tt)
