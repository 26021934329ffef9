-- `choose` meets its contract.
use native.Mathlib.Omega.{arith}
use Prim.Native.Nat.{ℕ}
use mathlib.Core.Path.{sym, subst, ◌∙◌}
use mathlib.Core.List.{List}
use Rattle.cut.specs.Question.{Fewest, Best}
use Rattle.flow.proofs.Failed.{marks-size}
use Rattle.cut.proofs.Bridge.{fewest-units, best-marks}
use Rattle.cut.proofs.choose.Goals as goal

pub returns-in_err-augment-clause-chosen : goal.returns-in_err-augment-clause-chosen
returns-in_err-augment-clause-chosen c = rw c.from_residual.ensures (λ S may asked. (tt, fewest-units asked c.requires.falling c.in_err-augment.ensures.augmented))

pub collect-requires : goal.collect-requires
collect-requires c =
    let e = c.in_ok-augment.ensures in
    let final = c.deepen.ensures _ (e.augmented.settled e.most) in
    let n = marks-size c.requires.falling c.requires.v_bound.0 final.settled in
    omega (arith, e.most)

pub returns-clause-most : goal.returns-clause-most
returns-clause-most c =
    let e = c.in_ok-augment.ensures in
    let final = c.deepen.ensures _ (e.augmented.settled e.most) in
    let n = marks-size c.requires.falling c.requires.v_bound.0 final.settled in
    omega (arith, e.most)

pub returns-clause-chosen : goal.returns-clause-chosen
returns-clause-chosen c = λ S may asked.
    let e = c.in_ok-augment.ensures in
    let final = c.deepen.ensures _ (e.augmented.settled e.most) in
    let n = marks-size c.requires.falling c.requires.v_bound.0 final.settled in (
      subst (λ (l : List ℕ). Best S may c.args.v l) (sym c.collect.ensures.1) (best-marks asked c.requires.falling final),
      subst (λ (r : ℕ). Fewest S may c.args.v c.args.k r) (sym (c.collect.ensures.0 ∙ n)) (fewest-units asked c.requires.falling e.augmented),
    )
