-- The differences before j are written.
use mathlib.Core.List.{map}
use Rattle.std.specs.Prelude.{Ok}
use Rattle.maps.specs.Lists.{below, concat}
use Rattle.records.specs.Rows.{difference_entries}
use Rattle.fields.specs.Wrote.{Wrote}
use Rattle.writer.proofs.parts.put_differences.Given as goal

abbrev pub invariant-loop-j : goal.invariant-loop-j
invariant-loop-j l = Wrote (concat (map (difference_entries l.n l.differences) (below l.j))) l.initial.bytes l.bytes l.initial.to (Ok l.to)
