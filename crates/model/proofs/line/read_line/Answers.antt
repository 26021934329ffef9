-- `line::read_line` meets its contract.
use mathlib.Core.Path.{sym, ◌∙◌}
use Rattle.blif.proofs.Walking.{words-none}
use Rattle.model.proofs.Turning.{turn-empty}
use Rattle.model.proofs.line.read_line.Goals as goal

pub returns-then-line_ends : goal.returns-then-line_ends
returns-then-line_ends c =
    let first = c.after_blanks-first in
    λ M k. turn-empty c.args.text.now c.args.delay c.args.at c.args.stage M c.args.circuit.now
    (words-none c.args.text.now c.args.at first.result first.ensures.0 (sym c.line_ends.ensures ∙ c.if-line_ends.true)) k
