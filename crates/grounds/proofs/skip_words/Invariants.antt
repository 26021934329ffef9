use mathlib.Core.Path.{◌≡◌}
use lib.ListN.{drop}
use Rattle.blif.specs.Scan.{words_at}
use Rattle.grounds.proofs.skip_words.Given as goal

abbrev pub invariant-loop : goal.invariant-loop
invariant-loop l = (words_at l.text l.at ≡ drop l.counter (words_at l.text l.start))
