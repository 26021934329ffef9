-- `hold::Holding::held_by_difference` meets its contract. The invariant: no difference into v from e on holds it, and e is 0 or one more than the next
-- of them.
use Prim.Native.Nat.{ℕ, ◌-◌, ◌≤◌, ◌<◌}
use mathlib.Core.Path.{◌≡◌, refl, sym, ap, ◌∙◌}
use mathlib.Core.List.{List}
use mathlib.Core.Bool.{Bool, true, false}
use native.Mathlib.Omega.{arith}
use lib.Dec.{ltb}
use borrow.Author.Tests.{ltb-true, ltb-false}
use Rattle.rows.specs.Table.{to_in}
use Rattle.bound.specs.Lookup.{last_into}
use Rattle.bound.proofs.Asking.{last-le, last-hit, last_none}
use Rattle.hold.specs.Mark.{Ties, Tied}
use Rattle.hold.proofs.Holding.held_by_difference.Goals as goal

-- no difference from e on holds v, nor does the one before e: then none from n on does, where n is the next one before that
none_more : (d steps : List ℕ) (held : List Bool) (p e m v n : ℕ) → n ≡ last_into d (e - 1) v → 0 < e → ((i : ℕ) → e ≤ i → Tied d steps held p m v i → ⊥)
    → (Ties d steps held p (e - 1) → ⊥) → (i : ℕ) → n ≤ i → Tied d steps held p m v i → ⊥
none_more d steps held p e m v n q t none apart i l w = go (ltb i (e - 1)) (ltb i e) refl refl
  where
    go : (x y : Bool) → ltb i (e - 1) ≡ x → ltb i e ≡ y → ⊥
    go true y o r = last_none d (e - 1) v i (omega arith) (ltb-true _ _ o) w.into
    go false true o r =
        let this : i ≡ e - 1 = omega (arith, ltb-false, ltb-true) in
        apart (rw this at w.ties)
    go false false o r = none i (ltb-false _ _ r) w

pub loop-e-init : goal.loop-e-init
loop-e-init c =
    let a = c.args in
    let d = a.self.now.search.now.tables.now.differences in
    let h = c.requires.linked.heads a.v c.requires.v_bound.0 in
    let le = last-le d a.self.now.search.now.limits.differences a.v in (
      omega arith,
      λ j e. last-hit d a.self.now.search.now.limits.differences a.v j (sym h ∙ e),
      λ i l w. last_none d a.self.now.search.now.limits.differences a.v i (omega arith) w.within w.into,
    )

pub ties-requires : goal.ties-requires
ties-requires c =
    let l = c.loop-e in
    let t = c.loop-e-test.true in
    let h = l.invariant.0 in
    let m = c.requires.v_bound.1 in
    record { i_bound = (omega arith, c.requires.v_bound.2); summed = c.requires.by_index (l.e - 1) (omega arith) }

pub returns-then-ties : goal.returns-then-ties
returns-then-ties c =
    let l = c.loop-e in
    let t = c.loop-e-test.true in
    let h = l.invariant.0 in
    (l.e - 1, record { within = omega arith; into = l.invariant.1 (l.e - 1) (omega arith); ties = rw c.if-ties.true at c.ties.ensures })

pub loop-e-smaller : goal.loop-e-smaller
loop-e-smaller c =
    let a = c.args in
    let d = a.self.now.search.now.tables.now.differences in
    let l = c.loop-e in
    let t = c.loop-e-test.true in
    let h = l.invariant.0 in
    let q = c.requires.linked.nexts (l.e - 1) (omega arith) in
    let le = last-le d (l.e - 1) (to_in d (l.e - 1)) in
    omega arith

pub loop-e-preserved : goal.loop-e-preserved
loop-e-preserved c =
    let a = c.args in
    let d = a.self.now.search.now.tables.now.differences in
    let l = c.loop-e in
    let t = c.loop-e-test.true in
    let h = l.invariant.0 in
    let hit : to_in d (l.e - 1) ≡ a.v = l.invariant.1 (l.e - 1) (omega arith) in
    let q = c.requires.linked.nexts (l.e - 1) (omega arith) ∙ ap (last_into d (l.e - 1)) hit in
    let le = last-le d (l.e - 1) a.v in (
      omega arith,
      λ j e. last-hit d (l.e - 1) a.v j (sym q ∙ e),
      none_more d a.self.now.labels.now.steps a.held.now a.self.now.shift l.e a.self.now.search.now.limits.differences a.v _ q (omega arith) l.invariant.2 (rw c.if-ties.false at c.ties.ensures),
    )

pub returns : goal.returns
returns c i w =
    let t = c.loop-e-test.false in
    c.loop-e.invariant.2 i (omega arith) w
