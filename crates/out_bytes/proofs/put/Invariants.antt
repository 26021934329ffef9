-- The low groups are written, one in each turn, and the rest is still to be.
use Prim.Native.Nat.{◌+◌, ◌-◌}
use mathlib.Core.Path.{◌≡◌}
use Rattle.maps.specs.Number.{width}
use Rattle.out_bytes.proofs.Putting.{Begun}
use Rattle.out_bytes.proofs.put.Given as goal

abbrev pub invariant-loop : goal.invariant-loop
invariant-loop l = Begun (width - 1) l.x l.initial.bytes l.bytes l.initial.at l.at l.rest × (l.at ≡ l.initial.at + l.counter)
