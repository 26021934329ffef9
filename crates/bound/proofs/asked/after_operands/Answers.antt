-- `asked::after_operands` meets its contract. The invariant: `most` is the latest over the first j operands.
use Prim.Native.Nat.{ℕ, ◌<◌, max}
use mathlib.Core.Path.{subst, ap, ◌∙◌}
use native.Mathlib.Omega.{arith}
use Rattle.bound.specs.Bound.{Greatest, ready_step}
use Rattle.bound.proofs.Asking.{greatest-next, operand-ready}
use Rattle.bound.proofs.asked.after_operands.Goals as goal

pub loop-j-preserved : goal.loop-j-preserved
loop-j-preserved c =
    let a = c.args in
    let l = c.loop-j in
    let ready = c.ready_step in
    let u = c.operand_in-u in (
      l.invariant.0,
      greatest-next a.s.0 (ready_step a.graph.now a.labels.now.steps a.v) l.most.0 l.j c.later-most.result.0 l.invariant.1
          (c.later-most.ensures ∙ ap (max l.most.0) (operand-ready a.graph.now a.labels.now.steps a.v l.j u.result ready.result.0 u.ensures ready.ensures)),
    )

pub returns : goal.returns
returns c =
    let a = c.args in
    let l = c.loop-j in
    subst (λ (k : ℕ). Greatest a.s.0 (λ i. i < k) (ready_step a.graph.now a.labels.now.steps a.v) l.most.0) (omega arith) l.invariant.1
