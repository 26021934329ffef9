use Prim.Native.Nat.{◌≤◌}
use mathlib.Core.Path.{◌≡◌}
use mathlib.Core.Bool.{Bool}
use lib.Dec.{leb}
use lib.ListN.{length, take}
use Rattle.std.specs.Iterator.Adapters.{take_source, take_count}
use Rattle.maps.specs.Lists.{all}
use Rattle.blif.specs.Words.{Word}
use Rattle.blif.specs.Scan.{words_at}
use Rattle.blif.specs.Limits.{name_most}
use Rattle.scan.specs.WordByWord.{words_left}
use Rattle.grounds.proofs.all_short.Given as goal

-- a name of at most 31 bytes
abbrev pub short : Word → Bool
short w = leb (length w) name_most

abbrev pub invariant-loop-first : goal.invariant-loop-first
invariant-loop-first l =
    ((take_source l.first-iterator).text.now ≡ l.text) × (take_count l.first-iterator ≤ length (words_left (take_source l.first-iterator)))
    × (all short (take l.k (words_at l.text l.start)) ≡ all short (take (take_count l.first-iterator) (words_left (take_source l.first-iterator))))
