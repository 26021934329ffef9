-- The windows before j are written, and the next one's id is at least `low`.
use mathlib.Core.Path.{◌≡◌}
use mathlib.Core.List.{map}
use Rattle.std.specs.Prelude.{Ok}
use Rattle.maps.specs.Lists.{below, concat}
use Rattle.records.specs.Rows.{low_in, window_entries, box_at}
use Rattle.fields.specs.Wrote.{Wrote}
use Rattle.writer.proofs.parts.put_windows.Given as goal

abbrev pub invariant-loop-j : goal.invariant-loop-j
invariant-loop-j l = record {
  least : l.low ≡ low_in l.windows l.j;
  wrote : Wrote (concat (map (window_entries l.n (box_at l.nodes) l.period l.windows) (below l.j))) l.initial.bytes l.bytes l.initial.to (Ok l.to);
}
