use mathlib.Core.Path.{◌≡◌}
use lib.ListN.{drop}
use Rattle.blif.specs.Scan.{past}
use Rattle.scan.proofs.lines.after_newline.Given as goal

abbrev pub invariant-loop-at : goal.invariant-loop-at
invariant-loop-at l = past (drop l.start l.text) ≡ past (drop l.at l.text)
