-- `subset::stage_after` meets its contract.
use mathlib.Core.Path.{sym, subst}
use native.Mathlib.Omega.{arith}
use Rattle.subset.specs.declared.Statement as Code
use Rattle.subset.specs.Meant.{Shaped}
use Rattle.subset.proofs.PartsLaws.{stage-names}
use Rattle.subset.proofs.stage_after.Goals as goal

pub returns-in-Names : goal.returns-in-Names
returns-in-Names c = λ ws l.
    let n = subst (λ (s : Code.Statement). Shaped s c.args.count) c.in-Names.is c.requires in
    rw (c.in-Names.is, sym l) (stage-names _ ws (omega (arith, n, l)))
