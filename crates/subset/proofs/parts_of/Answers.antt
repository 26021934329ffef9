-- `subset::parts_of` meets its contract.
use mathlib.Core.Path.{sym, subst}
use native.Mathlib.Omega.{arith}
use Rattle.subset.specs.declared.Statement as Code
use Rattle.subset.specs.Meant.{Shaped}
use Rattle.subset.proofs.PartsLaws.{parts-inputs, parts-names}
use Rattle.subset.proofs.parts_of.Goals as goal

pub returns-in-Inputs : goal.returns-in-Inputs
returns-in-Inputs c = λ ws l. rw (c.in-Inputs.is, sym l) (parts-inputs ws)

pub returns-in-Names : goal.returns-in-Names
returns-in-Names c = λ ws l.
    let n = subst (λ (s : Code.Statement). Shaped s c.args.count) c.in-Names.is c.requires in
    rw (c.in-Names.is, sym l) (parts-names ws (omega (arith, n, l)))
