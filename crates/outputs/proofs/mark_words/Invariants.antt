use Prim.Native.Nat.{ℕ}
use mathlib.Core.Path.{◌≡◌}
use mathlib.Core.Bool.{Bool}
use mathlib.Core.List.{List}
use lib.ListN.{length}
use Rattle.blif.specs.Scan.{words_at}
use Rattle.scan.specs.WordByWord.{words_left}
use Rattle.names.specs.Table.{names_in}
use Rattle.outputs.specs.Marks.{WordsMarked}
use Rattle.outputs.proofs.mark_words.Given as goal

abbrev pub invariant-loop-first : goal.invariant-loop-first
invariant-loop-first l =
    (length l.nodes ≡ length l.initial.nodes)
    × (l.first-iterator.text.now ≡ l.text)
    × ((after : List ℕ) (r : Bool) → WordsMarked (names_in l.names l.count) (words_left l.first-iterator) l.nodes after r
    → WordsMarked (names_in l.names l.count) (words_at l.text l.start) l.initial.nodes after r)
