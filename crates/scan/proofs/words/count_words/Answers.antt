-- `words::count_words` meets its contract: a line has no more words than its text has bytes.
use mathlib.Core.Path.{ap, ◌∙◌}
use mathlib.Core.Logic.{inl}
use native.Mathlib.Omega.{arith}
use lib.ListN.{length, length-map}
use Rattle.std.proofs.lemmas.Iterator.Consumers.{count_from_yields_List}
use Rattle.blif.proofs.Walking.{words-count-most}
use Rattle.scan.specs.WordByWord.{words_left}
use Rattle.scan.proofs.Counting.{places-given}
use Rattle.scan.proofs.words.count_words.Goals as goal

pub count-requires-clause-fits : goal.count-requires-clause-fits
count-requires-clause-fits c = inl (omega (arith, ap length c.line_words.ensures.left, words-count-most c.args.text.now c.args.start))

pub returns : goal.returns
returns c = count_from_yields_List c.line_words.result c.count.result c.count.ensures.ran (places-given c.line_words.result) ∙ length-map (words_left c.line_words.result) _ ∙ ap length c.line_words.ensures.left
