-- `distinct::distinct_words` meets its contract.
use native.Mathlib.Omega.{arith}
use Rattle.blif.proofs.Walking.{words-count-most}
use Rattle.distinct.proofs.distinct_words.Goals as goal

pub distinct_many-requires : goal.distinct_many-requires
distinct_many-requires c =
    record { text_len_bound = c.requires; count_bound = omega (arith, c.requires.1, words-count-most c.args.text.now c.args.at, c.requires.0) }
