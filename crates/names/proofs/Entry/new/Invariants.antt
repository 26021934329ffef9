use Prim.Native.Nat.{◌≤◌}
use mathlib.Core.Path.{◌≡◌}
use mathlib.Core.List.{◌++◌}
use lib.ListN.{length, take}
use Rattle.blif.specs.Scan.{name_at}
use Rattle.blif.specs.Limits.{name_most}
use Rattle.scan.specs.Name.{bytes_left}
use Rattle.names.proofs.Entry.new.Given as goal

abbrev pub invariant-loop-b : goal.invariant-loop-b
invariant-loop-b l = (take l.size l.bytes ++ bytes_left l.b-iterator ≡ name_at l.text l.at) × (l.size ≤ length l.bytes) × (length l.bytes ≡ name_most)
