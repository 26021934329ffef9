-- `timing::in_time` meets its contract. The invariant: the nodes below v are ready within the horizon.
use Prim.Native.Nat.{ℕ, ◌<◌}
use mathlib.Core.Path.{subst}
use native.Mathlib.Omega.{arith}
use Rattle.timing.proofs.Ready.{all-in-time, one-late}
use Rattle.timing.proofs.in_time.Goals as goal

pub returns-then-ready_step-horizon : goal.returns-then-ready_step-horizon
returns-then-ready_step-horizon c S levels tabled e =
    let l = c.loop-v in
    one-late S c.args.graph.now c.args.labels.now.steps levels c.args.n c.requires.n_bound tabled e c.args.horizon l.v c.loop-v-test.true
    (subst (λ (k : ℕ). c.args.horizon < k) c.ready_step.ensures c.if-ready_step-horizon.true)

pub returns : goal.returns
returns c S levels tabled e =
    all-in-time S c.args.graph.now c.args.labels.now.steps levels c.args.n c.requires.n_bound tabled e c.args.horizon
    (λ u k. c.loop-v.invariant u (omega arith))
