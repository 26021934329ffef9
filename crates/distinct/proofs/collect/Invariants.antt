use mathlib.Core.Path.{◌≡◌}
use lib.ListN.{length}
use Rattle.std.specs.Iterator.Adapters.{enumerate_source, enumerate_count}
use Rattle.distinct.proofs.Collecting.{Collected}
use Rattle.distinct.proofs.collect.Given as goal

abbrev pub invariant-loop-i : goal.invariant-loop-i
invariant-loop-i l =
    Collected l.text l.start l.words (enumerate_source l.i-iterator).at (enumerate_count l.i-iterator)
    × (length l.words ≡ length l.initial.words) × ((enumerate_source l.i-iterator).text.now ≡ l.text)
