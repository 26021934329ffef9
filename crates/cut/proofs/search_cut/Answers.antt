-- `search_cut` meets its contract.
use native.Mathlib.Omega.{arith}
use mathlib.Core.Path.{sym, subst}
use mathlib.Core.List.{List}
use Prim.Native.Nat.{ℕ}
use Rattle.cut.specs.Question.{AllowedCut}
use Rattle.flow.proofs.Failed.{marks-size}
use Rattle.cut.proofs.Bridge.{marks-allowed, fewest-units}
use Rattle.cut.proofs.search_cut.Goals as goal

pub returns-in_err-augment-clause-allowed : goal.returns-in_err-augment-clause-allowed
returns-in_err-augment-clause-allowed c = rw c.from_residual.ensures (λ S may asked. fewest-units asked c.requires.falling c.in_err-augment.ensures.augmented)

pub collect-requires : goal.collect-requires
collect-requires c =
    let e = c.in_ok-augment.ensures in
    let n = marks-size c.requires.falling c.requires.v_bound.0 (e.augmented.settled e.most) in
    omega (arith, e.most)

pub returns-clause-most : goal.returns-clause-most
returns-clause-most c =
    let e = c.in_ok-augment.ensures in
    let n = marks-size c.requires.falling c.requires.v_bound.0 (e.augmented.settled e.most) in
    omega (arith, e.most)

pub returns-clause-allowed : goal.returns-clause-allowed
returns-clause-allowed c = λ S may asked.
    let e = c.in_ok-augment.ensures in
    subst (λ (l : List ℕ). AllowedCut S may c.args.v l) (sym c.collect.ensures.1) (marks-allowed asked c.requires.falling (e.augmented.settled e.most))
