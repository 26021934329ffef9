-- `lines::newline_count` meets its contract: the bytes 10 before the position are counted.
use Rattle.std.proofs.Common.{rules, ◌≡◌, ◌∙◌, sym, length, take, eqb}
use borrow.Author.Tests.{tests}
use native.Mathlib.Omega.{arith}
use Rattle.std.specs.List.{filter}
use Rattle.std.proofs.lemmas.Iterator.{YieldsList-from_slice}
use Rattle.std.proofs.lemmas.Iterator.Consumers.{YieldsList-from_filter, count_from_yields_List}
use Rattle.scan.proofs.Newlines.{newlines-filtered, newlines-most}
use Rattle.scan.proofs.lines.newline_count.Goals as goal

pub returns : goal.returns
returns c =
    let before = take c.args.end c.args.text.now in
    let e : c.count.result ≡ length (filter (λ b. eqb b 10) before) =
    count_from_yields_List c.filter.result _ c.count.ensures.ran
    (YieldsList-from_filter _ (λ b. eqb b 10) (YieldsList-from_slice before cc) c.filter.ensures.closure (λ x b q k. search (rules, tests))) in
    (e ∙ sym (newlines-filtered before), omega (arith, e, newlines-filtered before, newlines-most c.args.text.now c.args.end))
