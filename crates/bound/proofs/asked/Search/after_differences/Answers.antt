-- `asked::Search::after_differences` meets its contract. The invariant: `most` is the greatest over the heeded differences into v from e on, and e is 0 or
-- one more than the next of them.
use Prim.Native.Nat.{ℕ, ◌-◌, ◌≤◌, ◌<◌}
use mathlib.Core.Path.{◌≡◌, refl, sym, ap, ◌∙◌}
use mathlib.Core.List.{List}
use mathlib.Core.Bool.{Bool, true, false}
use mathlib.Core.Logic.{◌⊎◌, inl, inr}
use native.Mathlib.Omega.{arith}
use lib.Dec.{ltb}
use lib.ListN.{get_or}
use borrow.Author.Tests.{ltb-true, ltb-false}
use Rattle.rows.specs.Table.{to_in}
use Rattle.bound.specs.Lookup.{last_into}
use Rattle.bound.specs.Bound.{Into, push_of}
use Rattle.bound.proofs.Asking.{greatest-none, greatest-more, greatest-same, last-le, last-hit, last_none, head-le, head-hit, head-none}
use Rattle.bound.proofs.asked.Search.after_differences.Goals as goal

-- a difference into v from n on, where n is the one before e: from e on, or e itself
into : (d first : List ℕ) (e m v n i : ℕ) → n ≡ last_into d (e - 1) v → 0 < e → (n ≤ i) × Into d first m v i → ((e ≤ i) × Into d first m v i) ⊎ (i ≡ e - 1)
into d first e m v n i q t w = go (ltb i (e - 1)) (ltb i e) refl refl
  where
    go : (x y : Bool) → ltb i (e - 1) ≡ x → ltb i e ≡ y → ((e ≤ i) × Into d first m v i) ⊎ (i ≡ e - 1)
    go true y p r = absurd (last_none d (e - 1) v i (omega (arith, w.0)) (ltb-true _ _ p) w.1.1)
    go false true p r = inr (omega (arith, ltb-false, ltb-true))
    go false false p r = inl (ltb-false _ _ r, w.1)

pub loop-e-init : goal.loop-e-init
loop-e-init c =
    let a = c.args in
    let d = a.self.now.tables.now.differences in
    let k = c.requires.heeding in
    let v = c.requires.v_bound.0 in (
      head-le d k a.v v,
      head-hit d k a.v v,
      λ h. h,
      greatest-none a.s.0 (push_of d a.labels.now.steps) (λ i. (get_or a.self.now.first.now a.v 0 ≤ i) × Into d a.self.now.first.now a.self.now.limits.differences a.v i)
          (λ i p. head-none d k a.v v i p.0 p.1),
    )

pub pushed-most-requires : goal.pushed-most-requires
pushed-most-requires c =
    let l = c.loop-e in
    let t = c.loop-e-test.true in
    let h = l.invariant.0 in
    let m = c.requires.v_bound.1 in
    record { i_bound = omega arith; summed = c.requires.by_index (l.e - 1) (omega arith) }

pub loop-e-smaller : goal.loop-e-smaller
loop-e-smaller c =
    let a = c.args in
    let d = a.self.now.tables.now.differences in
    let l = c.loop-e in
    let t = c.loop-e-test.true in
    let h = l.invariant.0 in
    let q = c.requires.heeding.nexts (l.e - 1) (omega arith) in
    let le = last-le d (l.e - 1) (to_in d (l.e - 1)) in
    omega arith

pub loop-e-preserved : goal.loop-e-preserved
loop-e-preserved c =
    let a = c.args in
    let d = a.self.now.tables.now.differences in
    let f = a.self.now.first.now in
    let l = c.loop-e in
    let t = c.loop-e-test.true in
    let h = l.invariant.0 in
    let hit : to_in d (l.e - 1) ≡ a.v = l.invariant.1 (l.e - 1) (omega arith) in
    let q = c.requires.heeding.nexts (l.e - 1) (omega arith) ∙ ap (last_into d (l.e - 1)) hit in
    let le = last-le d (l.e - 1) a.v in
    let n = get_or a.self.now.next.now (l.e - 1) 0 in
    let p = c.pushed-most in (
      omega arith,
      λ j e. last-hit d (l.e - 1) a.v j (sym q ∙ e),
      λ z. l.invariant.2 t,
      greatest-more a.s.0 (push_of d a.labels.now.steps) (λ i. (l.e ≤ i) × Into d f a.self.now.limits.differences a.v i) (λ i. (n ≤ i) × Into d f a.self.now.limits.differences a.v i)
          l.most.0 (l.e - 1) p.result.0 l.invariant.3
          (λ i w. into d f l.e a.self.now.limits.differences a.v n i q t w)
          (λ i w. (omega (arith, w.0), w.1)) (omega arith, (omega arith, hit, l.invariant.2 t)) p.ensures,
    )

pub returns : goal.returns
returns c =
    let a = c.args in
    let d = a.self.now.tables.now.differences in
    let l = c.loop-e in
    let t = c.loop-e-test.false in
    greatest-same a.s.0 (push_of d a.labels.now.steps) (λ i. (l.e ≤ i) × Into d a.self.now.first.now a.self.now.limits.differences a.v i) (Into d a.self.now.first.now a.self.now.limits.differences a.v) l.most.0 l.invariant.3
    (λ i w. (omega arith, w)) (λ i w. w.1)
