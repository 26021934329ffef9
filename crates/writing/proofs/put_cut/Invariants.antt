use Prim.Native.Nat.{◌*◌}
use mathlib.Core.List.{map}
use Rattle.maps.specs.Lists.{concat}
use Rattle.maps.specs.Number.{encoded}
use Rattle.maps.specs.Sizes.{id_bytes_most}
use Rattle.out_bytes.specs.Put.{Put}
use Rattle.writing.proofs.Putting.{leaves_to}
use Rattle.writing.proofs.put_cut.Given as goal

abbrev pub invariant-loop-j : goal.invariant-loop-j
invariant-loop-j l = Put (l.j * id_bytes_most) l.initial.plan.bytes l.plan.bytes l.initial.plan.len l.plan.len (concat (map encoded (leaves_to l.cuts l.v l.j)))
