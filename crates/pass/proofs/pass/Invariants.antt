use Prim.Native.Nat.{ℕ}
use Rattle.maps.specs.Sheet.{Sheet}
use Rattle.relax.specs.Settle.{Pass, Passing}
use Rattle.bound.specs.Lookup.{label_in}
use Rattle.bound.specs.Going.{Going}
use Rattle.pass.proofs.pass.Given as goal

abbrev pub invariant-loop-v : goal.invariant-loop-v
invariant-loop-v l =
    (S : Sheet) (bound : ℕ → ℕ) → Going S l.search.tables.now.graph l.search.tables.now.differences l.search.limits l.search.first.now l.search.next.now l.initial.kept l.initial.labels.steps l.initial.labels.levels
    → Pass S bound (label_in l.initial.labels.steps l.initial.labels.levels) 0
    → Going S l.search.tables.now.graph l.search.tables.now.differences l.search.limits l.search.first.now l.search.next.now l.kept l.labels.steps l.labels.levels
    × Passing S (label_in l.initial.labels.steps l.initial.labels.levels) l.v (label_in l.labels.steps l.labels.levels)
