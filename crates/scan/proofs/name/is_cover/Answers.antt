-- `name::is_cover` meets its contract.
use mathlib.Core.Path.{sym, ◌∙◌}
use borrow.Author.Tests.{tests}
use Rattle.std.proofs.Common.{rules}
use Rattle.std.proofs.lemmas.Iterator.Consumers.{YieldsList-from_first}
use Rattle.std.proofs.lemmas.Iterator.Search.{all_from_yields_List}
use Rattle.blif.specs.Scan.{name_at}
use Rattle.scan.specs.Name.{bytes_left}
use Rattle.scan.proofs.Measuring.{literal, all-literals}
use Rattle.scan.proofs.name.is_cover.Goals as goal

pub returns-then-name_length-inputs : goal.returns-then-name_length-inputs
returns-then-name_length-inputs c =
    let w = name_at c.args.text.now c.args.at in
    all_from_yields_List literal c.all.new.self _ c.all.result c.all.ensures.ran (YieldsList-from_first (λ x. x) bytes_left w (cc)) (λ x b q k. search (rules, tests))
    ∙ all-literals c.args.inputs w (sym c.name_length.ensures ∙ c.if-name_length-inputs.true)
