use Prim.Native.Nat.{ℕ, ◌+◌, ◌≤◌}
use mathlib.Core.Path.{◌≡◌}
use Rattle.rows.specs.Table.{to_in}
use Rattle.hold.specs.Mark.{Tied}
use Rattle.hold.proofs.Holding.held_by_difference.Given as goal

abbrev pub invariant-loop-e : goal.invariant-loop-e
invariant-loop-e l =
    (l.e ≤ l.self.search.now.limits.differences) × ((j : ℕ) → l.e ≡ j + 1 → to_in l.self.search.now.tables.now.differences j ≡ l.v) × ((i : ℕ) → l.e ≤ i → Tied l.self.search.now.tables.now.differences l.self.labels.now.steps l.held l.self.shift l.self.search.now.limits.differences l.v i → ⊥)

abbrev pub decreases-loop-e : goal.decreases-loop-e
decreases-loop-e l = l.e
