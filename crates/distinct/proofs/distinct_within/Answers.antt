-- `distinct::distinct_within` meets its contract.
use native.Mathlib.Omega.{arith}
use mathlib.Core.Path.{◌∙◌}
use lib.Seq.{length-take-le}
use Rattle.distinct.proofs.distinct_within.Goals as goal

pub distinct_in-requires : goal.distinct_in-requires
distinct_in-requires c =
    let e = length-take-le c.args.count c.args.words.now c.requires.count_in_bounds.0 in
    record { text_len_bound = c.requires.text_len_bound.0; words_len = (e ∙ c.requires.text_len_bound.1, omega (arith, e, c.requires.count_in_bounds.1)) }
