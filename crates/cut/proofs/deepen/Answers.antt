-- `deepen` meets its contract. The invariant: no leaf from `x` on can be inside.
use native.Mathlib.Omega.{arith}
use Prim.Native.Nat.{ℕ, ◌+◌, ◌-◌}
use mathlib.Core.Path.{◌≡◌, subst}
use Rattle.cut.proofs.Deepening.{Partly, partly-first, partly-turn, partly-last}
use Rattle.cut.proofs.deepen.Goals as goal

pub loop-x-init : goal.loop-x-init
loop-x-init c = λ f t. partly-first c.requires.falling c.requires.v_bound t

pub loop-x-preserved : goal.loop-x-preserved
loop-x-preserved c =
    let a = c.args in
    let l = c.loop-x in
    let low = c.requires.v_bound in
    let back : l.x ≡ (l.x - 1) + 1 = omega arith in
    λ f h. partly-turn c.requires.falling low (omega arith) c.turn.ensures
    (subst (λ (n : ℕ). Partly a.graph.now a.code.now l.seen a.above.now a.v f n) back (l.invariant f h))

pub returns : goal.returns
returns c =
    let a = c.args in
    let l = c.loop-x in
    let zero : l.x ≡ 0 = omega arith in
    λ f h. partly-last (subst (λ (n : ℕ). Partly a.graph.now a.code.now l.seen a.above.now a.v f n) zero (l.invariant f h))
