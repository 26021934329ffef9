use mathlib.Core.Path.{◌≡◌}
use Rattle.maps.specs.Lists.{below, greatest}
use Rattle.timing.specs.Timing.{output_step}
use Rattle.timing.proofs.latency.Given as goal

abbrev pub invariant-loop-u : goal.invariant-loop-u
invariant-loop-u l = l.most.0 ≡ greatest (output_step l.graph l.labels.steps) (below l.u)
