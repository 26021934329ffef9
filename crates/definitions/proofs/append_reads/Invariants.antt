use Prim.Native.Nat.{◌+◌}
use mathlib.Core.Path.{◌≡◌}
use mathlib.Core.List.{◌++◌, map}
use lib.ListN.{length, take, drop}
use Rattle.blif.specs.Scan.{words_at}
use Rattle.blif.specs.Import.{id_of}
use Rattle.names.specs.Table.{names_in}
use Rattle.definitions.proofs.append_reads.Given as goal

abbrev pub invariant-loop-i : goal.invariant-loop-i
invariant-loop-i l =
    (words_at l.text l.at ≡ drop l.i (words_at l.text l.start))
    × (take (l.used + l.i) l.operands ≡ take l.used l.initial.operands ++ map (id_of (names_in l.names l.count)) (take l.i (words_at l.text l.start)))
    × (length l.operands ≡ length l.initial.operands)
