-- The part of a set of nodes that has a path to v inside the set.
-- A failed search goes back along units of flow, and so takes nodes inside that may have no path to v there; every member of a cone has one.
-- The part with a path is a cone. If an operand of one of its members is in the set, it has a path too (`joined-whole`), so each leaf of the part
-- is a leaf of the whole set. The part is closed and holds v, so by weak duality it has no fewer leaves than the flow has units, and the whole set
-- has just as many: their leaves are the same, and the marks' leaves are the cut of a cone (`marks-cut` in Bridge).
use mathlib.Core.Path.{◌≡◌, refl, sym, ap, ◌∙◌, subst}
use mathlib.Core.Logic.{◌⊎◌, inl, inr}
use mathlib.Core.Bool.{Bool, true, ◌&&◌, ◌||◌}
use Prim.Native.Nat.{ℕ, zero, suc, ◌-◌, ◌≤◌, ◌<◌}
use native.Mathlib.Decide.{ℕ_discrete}
use native.Mathlib.Omega.{arith}
use lib.Dec.{eqb}
use borrow.Author.Tests.{eq-eqb, eqb-true}
use Rattle.maps.specs.Lists.{any, below}
use Rattle.maps.specs.Sheet.{Sheet, size}
use Rattle.maps.specs.Cut.{reads, PathTo, end, edge}
use Rattle.maps.proofs.Over.{and-true}
use Rattle.maps.proofs.Member.{or-true, or_right, any_found, any_of, below_in}
use Rattle.maps.proofs.Enumerate.{Ordered}
use Rattle.flow.proofs.Bools.{and_yes, or_left}

-- the nodes of C within n steps of v
reach : Sheet → (ℕ → Bool) → ℕ → ℕ → ℕ → Bool
reach S C v zero u = eqb v u
reach S C v (suc n) u = reach S C v n u || (C u && any (λ m. reach S C v n m && reads S m u) (below (size S)))

-- ids fall along a path, so that v steps reach all
pub joined : Sheet → (ℕ → Bool) → ℕ → ℕ → Bool
joined S C v = reach S C v v

module _ (S : Sheet) (ordered : Ordered S) (C : ℕ → Bool) (v : ℕ) (low : v < size S) (root : C v ≡ true) where
  record Reader (n u : ℕ) : Type 0 where
    member : C u ≡ true
    reader : ℕ
    reached : reach S C v n reader ≡ true
    reading : reads S reader u ≡ true

  step : (n u : ℕ) → reach S C v (suc n) u ≡ true → (reach S C v n u ≡ true) ⊎ Reader n u
  unfolding reach
  step n u t = go (or-true (reach S C v n u) _ t)
    where
      go : (reach S C v n u ≡ true) ⊎ ((C u && any (λ m. reach S C v n m && reads S m u) (below (size S))) ≡ true) → (reach S C v n u ≡ true) ⊎ Reader n u
      go (inl h) = inl h
      go (inr h) =
          let b = and-true (C u) _ h in
          let r = any_found (λ m. reach S C v n m && reads S m u) (below (size S)) b.1 in
          let q = and-true (reach S C v n r.0) _ r.2 in
          inr (record { member = b.0; reader = r.0; reached = q.0; reading = q.1 })

  reach-in : (n u : ℕ) → reach S C v n u ≡ true → C u ≡ true
  unfolding reach
  reach-in zero u t = ap C (sym (eqb-true v u t)) ∙ root
  reach-in (suc n) u t = go (reach-in n u) (step n u t)
    where
      go : (reach S C v n u ≡ true → C u ≡ true) → (reach S C v n u ≡ true) ⊎ Reader n u → C u ≡ true
      go rec (inl h) = rec h
      go rec (inr r) = r.member

  reach-le : (n u : ℕ) → reach S C v n u ≡ true → u ≤ v
  unfolding reach
  reach-le zero u t = omega (arith, eqb-true v u t)
  reach-le (suc n) u t = go (reach-le n) (step n u t)
    where
      go : ((w : ℕ) → reach S C v n w ≡ true → w ≤ v) → (reach S C v n u ≡ true) ⊎ Reader n u → u ≤ v
      go rec (inl h) = rec u h
      go rec (inr r) = omega (arith, ordered r.reader u r.reading, rec r.reader r.reached)

  reach-more : (n k u : ℕ) → n ≤ k → reach S C v n u ≡ true → reach S C v k u ≡ true
  unfolding reach
  reach-more n zero u le t = let e : n ≡ 0 = omega arith in subst (λ (k : ℕ). reach S C v k u ≡ true) e t
  reach-more n (suc k) u le t = go (λ l. reach-more n k u l t) (ℕ_discrete n (suc k))
    where
      go : (n ≤ k → reach S C v k u ≡ true) → Dec (n ≡ suc k) → reach S C v (suc k) u ≡ true
      go rec (yes e) = subst (λ (k : ℕ). reach S C v k u ≡ true) e t
      go rec (no ne) = or_left (reach S C v k u) _ (rec (omega arith))

  reach_step : (n m u : ℕ) → reach S C v n m ≡ true → reads S m u ≡ true → C u ≡ true → reach S C v (suc n) u ≡ true
  unfolding reach
  reach_step n m u t r c =
      let l = reach-le n m t in
      or_right (reach S C v n u) _ (and_yes (C u) _ c
      (any_of (λ m. reach S C v n m && reads S m u) (below_in (size S) m (omega arith)) (and_yes (reach S C v n m) _ t r)))

  reach-tight : (n u : ℕ) → reach S C v n u ≡ true → reach S C v (v - u) u ≡ true
  reach-tight zero u t = reach-more 0 (v - u) u (omega arith) t
  reach-tight (suc n) u t = go (reach-tight n) (step n u t)
    where
      go : ((w : ℕ) → reach S C v n w ≡ true → reach S C v (v - w) w ≡ true) → (reach S C v n u ≡ true) ⊎ Reader n u → reach S C v (v - u) u ≡ true
      go rec (inl h) = rec u h
      go rec (inr r) =
          let m = r.reader in
          let f = ordered m u r.reading in
          let l = reach-le n m r.reached in
          reach-more (suc (v - m)) (v - u) u (omega arith) (reach_step (v - m) m u (rec m r.reached) r.reading r.member)

  reach-path : (n u : ℕ) → n ≤ v → reach S C v n u ≡ true → PathTo S (joined S C v) v u
  unfolding reach joined
  reach-path zero u le t = subst (PathTo S (reach S C v v) v) (eqb-true v u t) end
  reach-path (suc n) u le t = go (λ w. reach-path n w (omega arith)) (step n u t)
    where
      go : ((w : ℕ) → reach S C v n w ≡ true → PathTo S (reach S C v v) v w) → (reach S C v n u ≡ true) ⊎ Reader n u → PathTo S (reach S C v v) v u
      go rec (inl h) = rec u h
      go rec (inr r) = edge r.reader r.reading (reach-more n v r.reader (omega arith) r.reached) (rec r.reader r.reached)

  pub joined-root : joined S C v v ≡ true
  unfolding reach joined
  joined-root = reach-more 0 v v (omega arith) (eq-eqb v v refl)

  pub joined_in : (u : ℕ) → joined S C v u ≡ true → C u ≡ true
  unfolding joined
  joined_in u t = reach-in v u t

  pub joined-le : (u : ℕ) → joined S C v u ≡ true → u ≤ v
  unfolding joined
  joined-le u t = reach-le v u t

  pub joined-path : (u : ℕ) → joined S C v u ≡ true → PathTo S (joined S C v) v u
  unfolding joined
  joined-path u t = reach-path v u (omega arith) t

  -- an operand that C holds of a joined node is joined
  pub joined-whole : (m u : ℕ) → joined S C v m ≡ true → reads S m u ≡ true → C u ≡ true → joined S C v u ≡ true
  unfolding joined
  joined-whole m u t r c =
      let f = ordered m u r in
      let l = reach-le v m t in
      reach-more (suc (v - m)) v u (omega arith) (reach_step (v - m) m u (reach-tight v m t) r c)
