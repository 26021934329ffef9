use Prim.Native.Nat.{ℕ, ◌-◌}
use mathlib.Core.Path.{◌≡◌}
use mathlib.Core.List.{List}
use lib.ListN.{length}
use Rattle.names.specs.Table.{names_in}
use Rattle.std.specs.Prelude.{Result}
use Rattle.types.specs.declared.Refusal.{Refusal}
use Rattle.outputs.proofs.Marking.{ListMarked, outputs_from}
use Rattle.outputs.proofs.mark_outputs.Given as goal

abbrev pub invariant-loop-at : goal.invariant-loop-at
invariant-loop-at l =
    (length l.nodes ≡ length l.initial.nodes)
    × ((after : List ℕ) (r : Result (Unit {0}) Refusal) → ListMarked (names_in l.names l.count) (outputs_from l.text l.at) l.nodes after r
    → ListMarked (names_in l.names l.count) (outputs_from l.text 0) l.initial.nodes after r)

abbrev pub decreases-loop-at : goal.decreases-loop-at
decreases-loop-at l = length l.text - l.at
