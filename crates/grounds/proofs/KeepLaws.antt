-- How many elements of a list pass a test, and whether all or none do.
use Prim.Native.Nat.{ℕ, zero, suc, ◌+◌, ◌≤◌, ◌<◌}
use mathlib.Core.Path.{◌≡◌, refl, sym, ap, ◌∙◌}
use mathlib.Core.Bool.{Bool, true, false, cond, ◌&&◌, not}
use mathlib.Core.List.{List, [], ◌∷◌}
use native.Mathlib.Omega.{arith}
use native.Mathlib.Numerals.{add-one}
use lib.ListN.{length, take}
use Rattle.maps.specs.Lists.{all, keep}

-- where no element is left
pub taken_none : {A : Type 0} (n : ℕ) (xs : List A) → n ≤ length xs → (0 < n → xs ≡ []) → take n xs ≡ []
taken_none zero xs l f = refl
taken_none {A} (suc n) xs l f = absurd (omega (arith, l, ap (length {A = A}) (f (omega arith))))

module _ {A : Type 0} (p : A → Bool) where
  -- of the next n elements, the first one more
  module _ (n m : ℕ) (xs rest : List A) (x : A) (e : xs ≡ x ∷ rest) (q : m + 1 ≡ n) where
    next_taken : take n xs ≡ x ∷ take m rest
    next_taken = ap (take n) e ∙ ap (λ (k : ℕ). take k (x ∷ rest)) (sym q ∙ add-one m)

    pub all_next : p x ≡ true → all p (take n xs) ≡ all p (take m rest)
    all_next h = ap (all p) next_taken ∙ rw h refl

    pub all-stops : p x ≡ false → all p (take n xs) ≡ false
    all-stops h = ap (all p) next_taken ∙ rw h refl

    pub kept_next : p x ≡ true → length (keep p (take n xs)) ≡ suc (length (keep p (take m rest)))
    kept_next h = ap (λ (ys : List A). length (keep p ys)) next_taken ∙ rw h refl

    pub kept_same : p x ≡ false → length (keep p (take n xs)) ≡ length (keep p (take m rest))
    kept_same h = ap (λ (ys : List A). length (keep p ys)) next_taken ∙ rw h refl

  pub kept-most : (xs : List A) → length (keep p xs) ≤ length xs
  kept-most [] = omega arith
  kept-most (x ∷ xs) = go (p x) (kept-most xs)
    where
      go : (b : Bool) → length (keep p xs) ≤ length xs → length (cond b (x ∷ keep p xs) (keep p xs)) ≤ suc (length xs)
      go true l = omega (arith, l)
      go false l = omega (arith, l)

  -- all pass exactly if as many pass as there are
  pub all-kept : (xs : List A) → length xs ≤ length (keep p xs) → all p xs ≡ true
  all-kept [] l = refl
  all-kept (x ∷ xs) l = go (p x) l (all-kept xs)
    where
      go : (b : Bool) → suc (length xs) ≤ length (cond b (x ∷ keep p xs) (keep p xs)) → (length xs ≤ length (keep p xs) → all p xs ≡ true) → (b && all p xs) ≡ true
      go true l rec = rec (omega (arith, l))
      go false l rec = absurd (omega (arith, l, kept-most xs))

  pub some-lost : (xs : List A) → length (keep p xs) < length xs → all p xs ≡ false
  some-lost [] l = absurd (omega (arith, l))
  some-lost (x ∷ xs) l = go (p x) l (some-lost xs)
    where
      go : (b : Bool) → length (cond b (x ∷ keep p xs) (keep p xs)) < suc (length xs) → (length (keep p xs) < length xs → all p xs ≡ false) → (b && all p xs) ≡ false
      go true l rec = rec (omega (arith, l))
      go false l rec = refl

  -- all fail exactly if none passes
  pub none_kept : (xs : List A) → length (keep p xs) ≡ 0 → all (λ x. not (p x)) xs ≡ true
  none_kept [] l = refl
  none_kept (x ∷ xs) l = go (p x) l (none_kept xs)
    where
      go : (b : Bool) → length (cond b (x ∷ keep p xs) (keep p xs)) ≡ 0 → (length (keep p xs) ≡ 0 → all (λ y. not (p y)) xs ≡ true) → (not b && all (λ y. not (p y)) xs) ≡ true
      go true l rec = absurd (omega (arith, l))
      go false l rec = rec l

  pub some-kept : (xs : List A) → 0 < length (keep p xs) → all (λ x. not (p x)) xs ≡ false
  some-kept [] l = absurd (omega (arith, l))
  some-kept (x ∷ xs) l = go (p x) l (some-kept xs)
    where
      go : (b : Bool) → 0 < length (cond b (x ∷ keep p xs) (keep p xs)) → (0 < length (keep p xs) → all (λ y. not (p y)) xs ≡ false) → (not b && all (λ y. not (p y)) xs) ≡ false
      go true l rec = refl
      go false l rec = rec l
