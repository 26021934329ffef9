-- `push` meets its contract.
use Prim.Native.Nat.{ℕ}
use mathlib.Core.Path.{subst, ap, ◌∙◌}
use native.Mathlib.Omega.{arith}
use Rattle.std.specs.Prelude.{is_ok}
use Rattle.maps.specs.Label.{label}
use Rattle.types.specs.Code.{label_of}
use Rattle.bound.specs.Bound.{Greatest, Into, push_of}
use Rattle.sweep.proofs.Pushing.{push-none, push-placed}
use Rattle.sweep.proofs.push.Goals as goal

pub returns-then-asked-own : goal.returns-then-asked-own
returns-then-asked-own c S bound on l =
    let a = c.args in
    let g = subst (λ (n : ℕ). Greatest n (Into a.search.now.tables.now.differences a.search.now.first.now a.search.now.limits.differences a.v) (push_of a.search.now.tables.now.differences a.labels.now.steps) c.after_differences-asked.result.0) c.step_of-own.ensures c.after_differences-asked.ensures in
    push-none on a.v l c.after_differences-asked.result.0 g (omega (arith, c.if-asked-own.true, c.step_of-own.ensures))

pub returns : goal.returns
returns c S bound on l =
    let a = c.args in
    let g = subst (λ (n : ℕ). Greatest n (Into a.search.now.tables.now.differences a.search.now.first.now a.search.now.limits.differences a.v) (push_of a.search.now.tables.now.differences a.labels.now.steps) c.after_differences-asked.result.0) c.step_of-own.ensures c.after_differences-asked.ensures in
    let q = c.place_label in
    push-placed on a.v l c.after_differences-asked.result.0 g (omega (arith, c.if-asked-own.false, c.step_of-own.ensures)) (label_of c.at-label.result)
    (c.at-label.ensures ∙ ap (label c.after_differences-asked.result.0) c.delay_in.ensures) q.new.self.steps q.new.self.levels (is_ok q.result) q.ensures
