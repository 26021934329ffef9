-- `lines::after_line` meets its contract.
use mathlib.Core.Path.{ap, ◌∙◌}
use Rattle.blif.specs.Scan.{past, past_line}
use Rattle.scan.proofs.Newlines.{later}
use Rattle.scan.proofs.lines.after_line.Goals as goal

pub returns : goal.returns
unfolding past_line
returns c = (c.after_newline.ensures.0 ∙ ap past c.line_end-end.ensures.0, λ h. later c.line_end-end.ensures.1 c.after_newline.ensures.1 h c.after_newline.ensures.2)
