-- `Cuts::keep_cut` meets its contract.
use Rattle.std.proofs.Common.{arith, ap, ◌∙◌, length, length-set, length-take-le}
use Rattle.std.proofs.lemmas.List.Elements.{All-set}
use Rattle.level.specs.declared.cuts.Cut.{Cut}
use Rattle.level.specs.Numbers.{Seven}
use Rattle.level.proofs.Numbers.{seven, stored-set, wide-numbers}
use Rattle.level.proofs.cuts.Cuts.keep_cut.Goals as goal

pub returns-clause-stored : goal.returns-clause-stored
returns-clause-stored c =
    rw (← c.self.view_is) (stored-set _ _ _ _ _ (omega arith) c.requires.v_bound.1 c.new.ensures.0 c.new.ensures.1)

pub returns-clause-cut_len : goal.returns-clause-cut_len
returns-clause-cut_len c = (omega arith, wide-numbers _ (omega (arith, length-set c.self.inside.rows c.args.v c.new.result)))

pub invariant_of-self : goal.invariant_of-self
invariant_of-self c =
    let a = c.args in (
      omega (arith, length-set c.self.inside.rows a.v c.new.result),
      All-set (λ (d : Cut). Seven d.leaves) c.self.inside.rows a.v c.new.result (seven c.new.result.leaves (ap length c.new.ensures.1 ∙ length-take-le 7 a.cut.now (omega arith))) c.self.invariant.1,
    )
