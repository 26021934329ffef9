-- `sweep` meets its contract. The loop's invariant: the nodes from v on are pushed in turn.
use native.Mathlib.Omega.{arith}
use Prim.Native.Nat.{ℕ, ◌-◌}
use mathlib.Core.Path.{sym, subst}
use Rattle.relax.specs.Sweep.{Sweeping}
use Rattle.relax.proofs.Closed.{well-closed}
use Rattle.relax.proofs.Sweeps.{sweep-none}
use Rattle.bound.specs.Lookup.{label_in, Heeded}
use Rattle.sweep.proofs.Pushing.{swept-sweepable, sweep-turn}
use Rattle.sweep.proofs.sweep.Goals as goal

pub loop-v-init : goal.loop-v-init
loop-v-init c S bound on =
    let a = c.args in
    let L = label_in a.labels.now.steps a.labels.now.levels in (
      on.timed,
      subst (λ (k : ℕ). Sweeping S bound (Heeded a.search.now.first.now) L k L) (sym on.given.nodes) (sweep-none S (well-closed S on.given.well) (Heeded a.search.now.first.now) L on.pass),
    )

pub loop-v-preserved : goal.loop-v-preserved
loop-v-preserved c S bound on =
    let l = c.loop-v in
    let t = c.loop-v-test.true in
    let n = l.auto.v in
    let w = l.invariant S bound on in
    sweep-turn on l.v w.0 w.1 (l.v - 1) (omega arith) (omega arith) _ _ (c.in_ok-push.ensures S bound (swept-sweepable on l.v w.0 w.1) (omega arith))
