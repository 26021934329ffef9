-- `timing::latency` meets its contract. The loop's invariant: `most` is the greatest ready step of the outputs below u.
use Prim.Native.Nat.{ℕ, max}
use mathlib.Core.Path.{◌≡◌, sym, ap, ◌∙◌}
use native.Mathlib.Omega.{arith}
use Rattle.maps.specs.Lists.{below, greatest}
use Rattle.timing.specs.Timing.{output_step}
use Rattle.timing.proofs.Ready.{greatest-more, latency-is-greatest}
use Rattle.timing.proofs.latency.Goals as goal

pub loop-u-preserved : goal.loop-u-preserved
loop-u-preserved c =
    let l = c.loop-u in
    let x = output_step c.args.graph.now c.args.labels.now.steps in
    c.later-most.ensures ∙ ap (λ (m : ℕ). max m c.output_step.result.0) l.invariant ∙ ap (max (greatest x (below l.u))) c.output_step.ensures ∙ sym (greatest-more x l.u)

pub returns : goal.returns
returns c S levels tabled e =
    let l = c.loop-u in
    let done : l.u ≡ c.args.n = omega arith in
    l.invariant ∙ ap (λ (k : ℕ). greatest (output_step c.args.graph.now c.args.labels.now.steps) (below k)) done
    ∙ latency-is-greatest S c.args.graph.now c.args.labels.now.steps levels c.args.n c.requires.n_bound tabled e
