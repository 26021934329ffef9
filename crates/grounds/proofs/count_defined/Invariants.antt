use Prim.Native.Nat.{◌+◌, ◌≤◌}
use mathlib.Core.Path.{◌≡◌}
use lib.ListN.{length, take}
use Rattle.std.specs.Iterator.Adapters.{take_source, take_count}
use Rattle.maps.specs.Lists.{keep}
use Rattle.blif.specs.Scan.{words_at}
use Rattle.blif.specs.Names.{has}
use Rattle.scan.specs.WordByWord.{words_left}
use Rattle.names.specs.Table.{names_in}
use Rattle.grounds.proofs.count_defined.Given as goal

abbrev pub invariant-loop-first : goal.invariant-loop-first
invariant-loop-first l =
    ((take_source l.first-iterator).text.now ≡ l.text) × (take_count l.first-iterator ≤ length (words_left (take_source l.first-iterator))) × (l.defined + take_count l.first-iterator ≤ l.k)
    × (length (keep (has (names_in l.names l.count)) (take l.k (words_at l.text l.start)))
    ≡ l.defined + length (keep (has (names_in l.names l.count)) (take (take_count l.first-iterator) (words_left (take_source l.first-iterator)))))
