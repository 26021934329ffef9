use mathlib.Core.Path.{◌≡◌}
use lib.ListN.{length}
use Rattle.distinct.proofs.Unjoining.{Copied}
use Rattle.distinct.proofs.unjoin.Given as goal

abbrev pub invariant-loop-place : goal.invariant-loop-place
invariant-loop-place l = Copied l.text l.start l.line l.at l.place-index × (length l.line ≡ length l.initial.line)
