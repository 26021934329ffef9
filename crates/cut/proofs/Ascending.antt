-- Ascending lists: how many elements lie below each number decides which list has the smaller one at the first difference.
use mathlib.Core.Path.{◌≡◌, refl, sym, ap, ◌∙◌, subst}
use mathlib.Core.Logic.{◌⊎◌, inl, inr}
use mathlib.Core.List.{List, [], ◌∷◌, ◌++◌, append-nil}
use mathlib.Core.Bool.{Bool, true, false, ◌&&◌}
use Prim.Native.Nat.{ℕ, zero, suc, ◌+◌, ◌≤◌, ◌<◌}
use native.Mathlib.Decide.{dec_lt}
use native.Mathlib.Omega.{arith}
use native.Mathlib.Numerals.{add-one}
use lib.ListN.{length}
use lib.Dec.{eqb, ltb}
use borrow.Author.Tests.{eq-eqb, ne_eqb, lt-ltb, le-ltb}
use Rattle.maps.specs.Lists.{before}
use Rattle.maps.proofs.Member.{or_right}
use Rattle.flow.specs.Search.{bit, count, single, rising}
use Rattle.flow.proofs.Bools.{and_yes, or_left}
use Rattle.flow.proofs.Sums.{sum, sum-add, sum_one, sum-none}

-- a list whose elements ascend, from lo on and below hi
unfoldable Ascends : ℕ → ℕ → List ℕ → Type 0
Ascends lo hi [] = lo ≤ hi
Ascends lo hi (a ∷ l) = (lo ≤ a) × (a < hi) × Ascends (a + 1) hi l

-- how many elements are below b
abbrev lows : ℕ → List ℕ → ℕ
lows b [] = 0
lows b (a ∷ l) = bit (ltb a b) + lows b l

sum-single : (a b : ℕ) → sum (λ x. bit (eqb a x)) b ≡ bit (ltb a b)
sum-single a b = go (dec_lt a b)
  where
    go : Dec (a < b) → sum (λ x. bit (eqb a x)) b ≡ bit (ltb a b)
    go (yes l) = sum_one (λ x. bit (eqb a x)) a b l (λ x lt ne. ap bit (ne_eqb a x (λ q. ne (sym q)))) ∙ ap bit (eq-eqb a a refl) ∙ sym (ap bit (lt-ltb a b l))
    go (no n) = sum-none (λ x. bit (eqb a x)) b (λ x lt. ap bit (ne_eqb a x (λ q. n (omega arith)))) ∙ sym (ap bit (le-ltb a b (omega arith)))

sum-lows : (l : List ℕ) (b : ℕ) → sum (λ x. count x l) b ≡ lows b l
unfolding count
sum-lows [] b = sum-none (λ x. 0) b (λ x lt. refl)
sum-lows (a ∷ l) b = let ih = sum-lows l b in let s = sum-add (λ x. bit (eqb a x)) (λ x. count x l) b in let o = sum-single a b in omega arith

-- a list that rises from lo on has nothing below
lows-none : (lo hi b : ℕ) (l : List ℕ) → b ≤ lo → Ascends lo hi l → lows b l ≡ 0
unfolding Ascends
lows-none lo hi b [] le r = refl
lows-none lo hi b (a ∷ l) le r = let ih = lows-none (a + 1) hi b l (let q = r.0 in omega arith) r.2 in let z = ap bit (le-ltb a b (let q = r.0 in omega arith)) in omega arith

first-lows : (lo lo' hi : ℕ) (l m : List ℕ) → Ascends lo hi l → Ascends lo' hi m → length l ≡ length m → ((b : ℕ) → b ≤ hi → lows b m ≤ lows b l)
    → (l ≡ m) ⊎ (before l m ≡ true)
unfolding Ascends
first-lows lo lo' hi [] [] r r' e h = inl refl
first-lows lo lo' hi [] (c ∷ m) r r' e h = absurd (omega arith)
first-lows lo lo' hi (a ∷ l) [] r r' e h = absurd (omega arith)
first-lows lo lo' hi (a ∷ l) (c ∷ m) r r' e h = go (λ g. first-lows (a + 1) (c + 1) hi l m r.2 r'.2 (omega arith) g) (dec_lt a c) (dec_lt c a)
  where
    tails : a ≡ c → (l ≡ m) ⊎ (before l m ≡ true) → (a ∷ l ≡ c ∷ m) ⊎ (before (a ∷ l) (c ∷ m) ≡ true)
    tails q (inl e) = inl (cc)
    tails q (inr f) = inr (or_right (ltb a c) (eqb a c && before l m) (and_yes (eqb a c) (before l m) (eq-eqb a c q) f))

    go : (((b : ℕ) → b ≤ hi → lows b m ≤ lows b l) → (l ≡ m) ⊎ (before l m ≡ true)) → Dec (a < c) → Dec (c < a) → (a ∷ l ≡ c ∷ m) ⊎ (before (a ∷ l) (c ∷ m) ≡ true)
    go rec (yes lt) q = inr (or_left (ltb a c) (eqb a c && before l m) (lt-ltb a c lt))
    go rec (no n) (yes lt) =
        let k = h (c + 1) (let q = r'.1 in omega arith) in
        let z = lows-none (a + 1) hi (c + 1) l (omega arith) r.2 in
        let y = ap bit (le-ltb a (c + 1) (omega arith)) in
        let x = ap bit (lt-ltb c (c + 1) (omega arith)) in
        absurd (omega arith)
    go rec (no n) (no n') = let e : a ≡ c = omega arith in tails e (rec (λ b le. let k = h b le in let q = ap (λ (x : ℕ). bit (ltb x b)) e in omega arith))

-- ---- the numbers that pass a test

ascends-wide : (lo hi : ℕ) (l : List ℕ) → Ascends lo hi l → Ascends lo (hi + 1) l
unfolding Ascends
ascends-wide lo hi [] r = omega arith
ascends-wide lo hi (a ∷ l) r = let q = r.1 in (r.0, omega arith, ascends-wide (a + 1) hi l r.2)

ascends-end : (lo hi : ℕ) (l : List ℕ) → Ascends lo hi l → Ascends lo (hi + 1) (l ++ (hi ∷ []))
unfolding Ascends
ascends-end lo hi [] r = (r, omega arith, omega arith)
ascends-end lo hi (a ∷ l) r = let q = r.1 in (r.0, omega arith, ascends-end (a + 1) hi l r.2)

ascends-single : (b : Bool) (hi : ℕ) (l : List ℕ) → Ascends 0 hi l → Ascends 0 (hi + 1) (l ++ single b hi)
ascends-single true hi l r = ascends-end 0 hi l r
ascends-single false hi l r = subst (λ (m : List ℕ). Ascends 0 (hi + 1) m) (sym (append-nil l)) (ascends-wide 0 hi l r)

ascends-rising : (f : ℕ → Bool) (n : ℕ) → Ascends 0 n (rising f n)
unfolding Ascends rising
ascends-rising f zero = omega arith
ascends-rising f (suc n) = subst (λ (m : ℕ). Ascends 0 m (rising f n ++ single (f n) n)) (add-one n) (ascends-single (f n) n (rising f n) (ascends-rising f n))

-- Of two tests that as many numbers pass, the one that at least as many pass below each bound lists the smaller number at the first difference:
-- let the lists agree up to there and go on with a and c. If c were below a, the second list would have one number more below c + 1. So a is
-- below c, or there is no difference.
pub first-rising : (f g : ℕ → Bool) (n : ℕ) → length (rising f n) ≡ length (rising g n) → ((b : ℕ) → b ≤ n → sum (λ x. count x (rising g n)) b ≤ sum (λ x. count x (rising f n)) b)
    → (rising f n ≡ rising g n) ⊎ (before (rising f n) (rising g n) ≡ true)
first-rising f g n e h =
    first-lows 0 0 n (rising f n) (rising g n) (ascends-rising f n) (ascends-rising g n) e
    (λ b le. let p = h b le in let q = sum-lows (rising f n) b in let w = sum-lows (rising g n) b in omega arith)
