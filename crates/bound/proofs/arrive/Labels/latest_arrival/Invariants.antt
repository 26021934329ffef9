use mathlib.Core.Path.{◌≡◌}
use Rattle.types.specs.Code.{label_of}
use Rattle.rows.specs.Table.{count_in}
use Rattle.bound.specs.Bound.{Latest}
use Rattle.bound.proofs.arrive.Labels.latest_arrival.Given as goal

abbrev pub invariant-loop-j : goal.invariant-loop-j
invariant-loop-j l =
    (l.j-end ≡ count_in l.graph l.v)
    × Latest l.graph l.self.steps l.self.levels l.v l.top.0 l.j (label_of l.initial.latest) (label_of l.latest)
