use Prim.Native.Nat.{◌*◌}
use mathlib.Core.List.{map}
use Rattle.maps.specs.Lists.{below, concat}
use Rattle.writing.specs.Bytes.{flat_row}
use Rattle.maps.specs.Sizes.{row_bytes_most}
use Rattle.out_bytes.specs.Put.{Put}
use Rattle.writing.proofs.put_rows.Given as goal

abbrev pub invariant-loop-v : goal.invariant-loop-v
invariant-loop-v l = Put (l.v * row_bytes_most) l.initial.plan.bytes l.plan.bytes l.initial.plan.len l.plan.len (concat (map (flat_row l.labels.steps l.labels.levels l.used l.cuts) (below l.v)))
