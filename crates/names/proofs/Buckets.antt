-- The greatest id of a bucket among the first ids.
use Prim.Native.Nat.{ℕ, zero, suc, ◌+◌, ◌≤◌, ◌<◌}
use mathlib.Core.Path.{◌≡◌, refl, sym, ap, ◌∙◌}
use mathlib.Core.Bool.{Bool, true, false, cond}
use mathlib.Core.Logic.{◌⊎◌, inl, inr}
use native.Mathlib.Omega.{arith}
use native.Mathlib.Numerals.{add-one}
use native.Mathlib.Nat.{not-suc-le-zero}
use lib.Dec.{eqb}
use borrow.Author.Tests.{eqb-true, eqb-false, eq-eqb, ne_eqb}
use Rattle.maps.proofs.Over.{last_or}
use Rattle.names.specs.Table.{last_in}

module _ (f : ℕ → ℕ) (b : ℕ) where
  pub last-le : (n : ℕ) → last_in f b n ≤ n
  unfolding last_in
  last-le zero = omega arith
  last-le (suc n) = go (eqb (f n) b) (last-le n)
    where
      go : (t : Bool) → last_in f b n ≤ n → cond t (suc n) (last_in f b n) ≤ suc n
      go true h = omega arith
      go false h = omega arith

  -- the greatest one is in the bucket
  pub last-hit : (n j : ℕ) → last_in f b n ≡ j + 1 → f j ≡ b
  unfolding last_in
  last-hit zero j e = absurd (omega arith)
  last-hit (suc n) j e = go (eqb (f n) b) refl (last-hit n j) e
    where
      go : (t : Bool) → eqb (f n) b ≡ t → (last_in f b n ≡ j + 1 → f j ≡ b) → cond t (suc n) (last_in f b n) ≡ j + 1 → f j ≡ b
      go true q rec w = ap f (omega arith) ∙ eqb-true _ _ q
      go false q rec w = rec w

  -- and none of the first n after it is
  pub last_none : (n i : ℕ) → last_in f b n ≤ i → i < n → f i ≡ b → ⊥
  unfolding last_in
  last_none zero i l h e = not-suc-le-zero h
  last_none (suc n) i l h e = go (eqb (f n) b) refl (last_none n i) l
    where
      go : (t : Bool) → eqb (f n) b ≡ t → (last_in f b n ≤ i → i < n → f i ≡ b → ⊥) → cond t (suc n) (last_in f b n) ≤ i → ⊥
      go true q rec w = omega arith
      go false q rec w = at (last_or i n h)
        where
          at : (i < n) ⊎ (i ≡ n) → ⊥
          at (inl m) = rec w m e
          at (inr m) = eqb-false (f n) b q (sym (ap f m) ∙ e)

  -- one id more
  pub last-new : (n : ℕ) → f n ≡ b → last_in f b (n + 1) ≡ n + 1
  unfolding last_in
  last-new n e = rw (add-one n, eq-eqb (f n) b e) refl

  pub last-old : (n : ℕ) → (f n ≡ b → ⊥) → last_in f b (n + 1) ≡ last_in f b n
  unfolding last_in
  last-old n h = rw (add-one n, ne_eqb (f n) b h) refl

-- only the buckets of the first ids count
pub last-same : (f g : ℕ → ℕ) (b n : ℕ) → ((i : ℕ) → i < n → f i ≡ g i) → last_in f b n ≡ last_in g b n
unfolding last_in
last-same f g b zero h = refl
last-same f g b (suc n) h =
    ap (λ x. cond (eqb x b) (suc n) (last_in f b n)) (h n (omega arith)) ∙ ap (cond (eqb (g n) b) (suc n)) (last-same f g b n (λ i l. h i (omega arith)))
