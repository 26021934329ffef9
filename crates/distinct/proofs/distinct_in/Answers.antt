-- `distinct::distinct_in` meets its contract.
use mathlib.Core.Path.{ap, ◌∙◌}
use mathlib.Core.List.{[]}
use Rattle.blif.specs.Names.{fresh}
use Rattle.distinct.specs.Sorting.{names}
use Rattle.distinct.proofs.Repeating.{sorted-fresh}
use Rattle.distinct.proofs.distinct_in.Goals as goal

pub returns : goal.returns
returns c =
    let t = c.args.text.now in
    c.is_ok.ensures.value ∙ sorted-fresh (names t c.collect.new.words) (names t c.sort.new.words) c.sort.result c.sort.ensures.2 ∙ ap (fresh []) c.collect.ensures
