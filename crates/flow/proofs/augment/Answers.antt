-- `augment` meets its contract. The invariant: the flow has the value `units`.
use Rattle.std.proofs.Common.{◌≡◌, ℕ, ◌+◌, subst, arith}
use Rattle.flow.specs.Search.{Valued}
use mathlib.Core.Bool.{Bool, false}
use lib.ListN.{get_or-replicate}
use Rattle.flow.proofs.Laws as Laws
use Rattle.flow.proofs.Duality.{valued-none, valued-more}
use Rattle.flow.proofs.Failed.{settle-first}
use Rattle.flow.proofs.augment.Goals as goal

pub loop-units-init : goal.loop-units-init
loop-units-init c =
    let a = c.args in
    valued-none a.graph.now a.code.now c.start.new.above a.v (omega arith) c.start.ensures

pub expand-requires-clause-under : goal.expand-requires-clause-under
expand-requires-clause-under c = Laws.under-self c.args.graph.now c.args.code.now c.args.v

pub loop-units-preserved : goal.loop-units-preserved
loop-units-preserved c = valued-more c.loop-units.invariant c.if-not-expand.ensures

pub returns-then-not-expand-clause-augmented : goal.returns-then-not-expand-clause-augmented
returns-then-not-expand-clause-augmented c =
    let f = c.if-not-expand.ensures in
    let settled = settle-first (λ i l. get_or-replicate {A = Bool} 512 i false false l) f.0 c.loop-units.invariant f.1 in
    record { most = omega arith; value = settled.value; settled = λ _. settled }

pub returns-clause-augmented : goal.returns-clause-augmented
returns-clause-augmented c =
    let a = c.args in
    let l = c.loop-units in
    let all : l.units ≡ a.k + 1 = omega arith in
    record {
      most = omega arith;
      value = subst (λ (n : ℕ). Valued a.graph.now a.code.now l.above a.v n) all l.invariant;
      settled = λ le. absurd (omega arith);
    }
