-- `name::name_hash` meets its contract.
use mathlib.Core.Path.{◌∙◌}
use Rattle.std.proofs.Common.{rules}
use Rattle.std.proofs.lemmas.Iterator.Consumers.{YieldsList-from_first, fold_from_yields_List}
use Rattle.blif.specs.Scan.{name_at}
use Rattle.scan.specs.Name.{bytes_left}
use Rattle.scan.specs.Hash.{hash_with}
use Rattle.scan.proofs.Measuring.{hash-folded}
use Rattle.scan.proofs.name.name_hash.Goals as goal

pub returns : goal.returns
returns c =
    let w = name_at c.args.text.now c.args.at in
    fold_from_yields_List _ hash_with 2166136261 c.fold.result c.fold.ensures.ran (YieldsList-from_first (λ x. x) bytes_left w (cc)) (λ a x b q k. search rules)
    ∙ hash-folded 2166136261 w
