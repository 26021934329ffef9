-- The order of words is irreflexive, transitive and total.
use Prim.Native.Nat.{ℕ, ◌<◌}
use mathlib.Core.Path.{◌≡◌, refl}
use mathlib.Core.Bool.{Bool, true, false, cond, and-false}
use mathlib.Core.List.{[], ◌∷◌}
use mathlib.Core.Logic.{◌⊎◌, inl, inr}
use native.Mathlib.Omega.{arith}
use lib.Dec.{eqb, ltb}
use borrow.Author.Tests.{ltb-true, ltb-false, lt-ltb, le-ltb, ne_eqb}
use Rattle.maps.specs.Lists.{equal}
use Rattle.blif.specs.Words.{Word}
use Rattle.std.specs.declared.cmp.Ordering.TheVariants as Is
use Rattle.distinct.specs.Sorting.{order, Precedes}

-- Greater is Less the other way round
pub greater-less : (a b : Word) → order a b ≡ Is.Greater → Precedes b a
greater-less [] [] e = let z : ◌≡◌ {A = ℕ} 0 1 = cc in absurd (omega arith)
greater-less [] (y ∷ ys) e = let z : ◌≡◌ {A = ℕ} 0 1 = cc in absurd (omega arith)
greater-less (x ∷ xs) [] e = refl
greater-less (x ∷ xs) (y ∷ ys) e = go (ltb x y) (ltb y x) e (greater-less xs ys)
  where
    go : (s t : Bool) → cond s Is.Less (cond t Is.Greater (order xs ys)) ≡ Is.Greater → (order xs ys ≡ Is.Greater → Precedes ys xs) → cond t Is.Less (cond s Is.Greater (order ys xs)) ≡ Is.Less
    go true t e rec = let z : ◌≡◌ {A = ℕ} 0 1 = cc in absurd (omega arith)
    go false true e rec = refl
    go false false e rec = rec e

-- words in neither order are the same
pub equal-same : (a b : Word) → order a b ≡ Is.Equal → a ≡ b
equal-same [] [] e = refl
equal-same [] (y ∷ ys) e = let z : ◌≡◌ {A = ℕ} 0 1 = cc in absurd (omega arith)
equal-same (x ∷ xs) [] e = let z : ◌≡◌ {A = ℕ} 0 1 = cc in absurd (omega arith)
equal-same (x ∷ xs) (y ∷ ys) e = go (ltb x y) refl (ltb y x) refl e (equal-same xs ys)
  where
    go : (s : Bool) → ltb x y ≡ s → (t : Bool) → ltb y x ≡ t → cond s Is.Less (cond t Is.Greater (order xs ys)) ≡ Is.Equal → (order xs ys ≡ Is.Equal → xs ≡ ys) → x ∷ xs ≡ y ∷ ys
    go true p t q e rec = let z : ◌≡◌ {A = ℕ} 0 1 = cc in absurd (omega arith)
    go false p true q e rec = let z : ◌≡◌ {A = ℕ} 0 1 = cc in absurd (omega arith)
    go false p false q e rec =
        let h : x ≡ y = omega (arith, ltb-false x y p, ltb-false y x q) in
        let t : xs ≡ ys = rec e in
        cc

-- a byte that is less, or the same byte and the rest in order
first_byte : (x y : ℕ) (xs ys : Word) → Precedes (x ∷ xs) (y ∷ ys) → (x < y) ⊎ ((x ≡ y) × Precedes xs ys)
first_byte x y xs ys e = go (ltb x y) refl (ltb y x) refl e
  where
    go : (s : Bool) → ltb x y ≡ s → (t : Bool) → ltb y x ≡ t → cond s Is.Less (cond t Is.Greater (order xs ys)) ≡ Is.Less → (x < y) ⊎ ((x ≡ y) × Precedes xs ys)
    go true p t q e = inl (ltb-true x y p)
    go false p true q e = let z : ◌≡◌ {A = ℕ} 0 1 = cc in absurd (omega arith)
    go false p false q e = inr (omega (arith, ltb-false x y p, ltb-false y x q), e)

less-byte : (x y : ℕ) (xs ys : Word) → x < y → Precedes (x ∷ xs) (y ∷ ys)
less-byte x y xs ys l = rw (lt-ltb x y l) refl

same_byte : (x y : ℕ) (xs ys : Word) → x ≡ y → Precedes xs ys → Precedes (x ∷ xs) (y ∷ ys)
same_byte x y xs ys e p = rw (le-ltb x y (omega arith), le-ltb y x (omega arith)) p

pub precedes-transitive : (a b c : Word) → Precedes a b → Precedes b c → Precedes a c
precedes-transitive [] [] c p q = let z : ◌≡◌ {A = ℕ} 0 1 = cc in absurd (omega arith)
precedes-transitive [] (y ∷ ys) [] p q = let z : ◌≡◌ {A = ℕ} 0 1 = cc in absurd (omega arith)
precedes-transitive [] (y ∷ ys) (z ∷ zs) p q = refl
precedes-transitive (x ∷ xs) [] c p q = let z : ◌≡◌ {A = ℕ} 0 1 = cc in absurd (omega arith)
precedes-transitive (x ∷ xs) (y ∷ ys) [] p q = let z : ◌≡◌ {A = ℕ} 0 1 = cc in absurd (omega arith)
precedes-transitive (x ∷ xs) (y ∷ ys) (z ∷ zs) p q = go (first_byte x y xs ys p) (first_byte y z ys zs q) (precedes-transitive xs ys zs)
  where
    go : (x < y) ⊎ ((x ≡ y) × Precedes xs ys) → (y < z) ⊎ ((y ≡ z) × Precedes ys zs) → (Precedes xs ys → Precedes ys zs → Precedes xs zs) → Precedes (x ∷ xs) (z ∷ zs)
    go (inl l) (inl m) rec = less-byte x z xs zs (omega arith)
    go (inl l) (inr m) rec = less-byte x z xs zs (omega (arith, m.0))
    go (inr l) (inl m) rec = less-byte x z xs zs (omega (arith, l.0))
    go (inr l) (inr m) rec = same_byte x z xs zs (omega (arith, l.0, m.0)) (rec l.1 m.1)

pub precedes-other : (a b : Word) → Precedes a b → equal a b ≡ false
precedes-other [] [] p = let z : ◌≡◌ {A = ℕ} 0 1 = cc in absurd (omega arith)
precedes-other [] (y ∷ ys) p = refl
precedes-other (x ∷ xs) [] p = refl
precedes-other (x ∷ xs) (y ∷ ys) p = go (first_byte x y xs ys p) (precedes-other xs ys)
  where
    go : (x < y) ⊎ ((x ≡ y) × Precedes xs ys) → (Precedes xs ys → equal xs ys ≡ false) → equal (x ∷ xs) (y ∷ ys) ≡ false
    go (inl l) rec = rw (ne_eqb x y (λ e. absurd (omega (arith, e)))) refl
    go (inr l) rec = rw (rec l.1) (and-false (eqb x y))
