-- `distinct::compare` meets its contract.
use mathlib.Core.Path.{◌≡◌, refl, ◌∙◌}
use Rattle.std.specs.Ordering.{nat_cmp}
use Rattle.std.proofs.lemmas.Iterator.Consumers.{YieldsList-from_first}
use Rattle.std.proofs.lemmas.Iterator.Search.{cmp_from_yields_List}
use Rattle.blif.specs.Scan.{name_at}
use Rattle.scan.specs.Name.{bytes_left}
use Rattle.distinct.proofs.Comparing.{order_by-bytes}
use Rattle.distinct.proofs.compare.Goals as goal

pub returns : goal.returns
returns c =
    let v = name_at c.args.text.now c.args.a in
    let w = name_at c.args.text.now c.args.b in
    cmp_from_yields_List (λ x y. y ≡ x) c.name_bytes-2.result nat_cmp c.cmp.result c.cmp.ensures.ran (YieldsList-from_first (λ x. x) bytes_left v (cc))
    (λ it e. YieldsList-from_first (λ x. x) bytes_left w (cc)) (λ x y. refl)
    ∙ order_by-bytes v w
