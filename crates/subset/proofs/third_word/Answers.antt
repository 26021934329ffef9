-- `subset::third_word` meets its contract.
use Rattle.subset.proofs.WordLaws.{third-place}
use Rattle.subset.proofs.third_word.Goals as goal

pub returns : goal.returns
returns c =
    third-place c.args.text.now c.args.at c.after_blanks-first.result c.after_word.result c.after_blanks-second.result c.after_word-2.result c.after_blanks.result c.requires c.after_blanks-first.ensures.0 c.after_word.ensures.0 c.after_blanks-second.ensures.0 c.after_word-2.ensures.0 c.after_blanks.ensures.0
