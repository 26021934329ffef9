use Prim.Native.Nat.{◌<◌}
use mathlib.Core.Path.{◌≡◌}
use Rattle.rows.specs.Table.{count_in}
use Rattle.bound.specs.Bound.{Greatest, ready_step}
use Rattle.bound.proofs.asked.after_operands.Given as goal

abbrev pub invariant-loop-j : goal.invariant-loop-j
invariant-loop-j l =
    (l.j-end ≡ count_in l.graph l.v) × Greatest l.initial.most.0 (λ i. i < l.j) (ready_step l.graph l.labels.steps l.v) l.most.0
