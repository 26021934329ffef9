use Prim.Native.Nat.{ℕ, ◌+◌, ◌≤◌, ◌<◌}
use mathlib.Core.Path.{◌≡◌}
use Rattle.rows.specs.Table.{to_in}
use Rattle.bound.specs.Lookup.{Heeded}
use Rattle.bound.specs.Bound.{Greatest, Into, push_of}
use Rattle.bound.proofs.asked.Search.after_differences.Given as goal

abbrev pub invariant-loop-e : goal.invariant-loop-e
invariant-loop-e l =
    (l.e ≤ l.self.limits.differences) × ((j : ℕ) → l.e ≡ j + 1 → to_in l.self.tables.now.differences j ≡ l.v) × (0 < l.e → Heeded l.self.first.now l.v)
    × Greatest l.initial.most.0 (λ i. (l.e ≤ i) × Into l.self.tables.now.differences l.self.first.now l.self.limits.differences l.v i) (push_of l.self.tables.now.differences l.labels.steps) l.most.0

abbrev pub decreases-loop-e : goal.decreases-loop-e
decreases-loop-e l = l.e
