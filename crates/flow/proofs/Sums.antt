-- Sums over the numbers below n, and double counting.
use mathlib.Core.Path.{◌≡◌, refl, sym, ap, ◌∙◌}
use mathlib.Core.List.{List, [], ◌∷◌, ◌++◌}
use mathlib.Core.Bool.{Bool, true, false}
use Prim.Native.Nat.{ℕ, zero, suc, ◌+◌, ◌≤◌, ◌<◌}
use native.Mathlib.Nat.{not-suc-le-zero}
use native.Mathlib.Decide.{ℕ_discrete}
use native.Mathlib.Omega.{arith}
use lib.ListN.{length, length-append}
use lib.Dec.{eqb, ltb}
use borrow.Author.Tests.{eq-eqb, ne_eqb, lt-ltb, le-ltb}
use Rattle.rows.specs.Cells.{cell}
use Rattle.flow.specs.Search.{bit, gate, count, single, rising}

unfoldable pub sum : (ℕ → ℕ) → ℕ → ℕ
sum f zero = 0
sum f (suc n) = sum f n + f n

pub sum-ext : (f g : ℕ → ℕ) (n : ℕ) → ((x : ℕ) → x < n → f x ≡ g x) → sum f n ≡ sum g n
unfolding sum
sum-ext f g zero h = refl
sum-ext f g (suc n) h = let ih = sum-ext f g n (λ x lt. h x (omega arith)) in let e = h n (omega arith) in omega arith

pub sum-le : (f g : ℕ → ℕ) (n : ℕ) → ((x : ℕ) → x < n → f x ≤ g x) → sum f n ≤ sum g n
unfolding sum
sum-le f g zero h = omega arith
sum-le f g (suc n) h = let ih = sum-le f g n (λ x lt. h x (omega arith)) in let e = h n (omega arith) in omega arith

pub sum-add : (f g : ℕ → ℕ) (n : ℕ) → sum (λ x. f x + g x) n ≡ sum f n + sum g n
unfolding sum
sum-add f g zero = omega arith
sum-add f g (suc n) = let ih = sum-add f g n in omega arith

pub sum-none : (f : ℕ → ℕ) (n : ℕ) → ((x : ℕ) → x < n → f x ≡ 0) → sum f n ≡ 0
unfolding sum
sum-none f zero h = refl
sum-none f (suc n) h = let ih = sum-none f n (λ x lt. h x (omega arith)) in let e = h n (omega arith) in omega arith

-- of the numbers below n, a alone counts
pub sum_one : (f : ℕ → ℕ) (a n : ℕ) → a < n → ((x : ℕ) → x < n → ((x ≡ a) → ⊥) → f x ≡ 0) → sum f n ≡ f a
unfolding sum
sum_one f a zero lt h = absurd (not-suc-le-zero lt)
sum_one f a (suc n) lt h = go (λ l. sum_one f a n l (λ x l. h x (omega arith))) (ℕ_discrete n a)
  where
    go : (a < n → sum f n ≡ f a) → Dec (n ≡ a) → sum f n + f n ≡ f a
    go rec (yes e) = let z = sum-none f n (λ x l. h x (omega arith) (λ q. omega arith)) in let q = ap f e in omega arith
    go rec (no ne) = let ih = rec (omega arith) in let z = h n (omega arith) ne in omega arith

sum_head : (f : ℕ → ℕ) (n : ℕ) → sum f (suc n) ≡ f 0 + sum (λ x. f (suc x)) n
unfolding sum
sum_head f zero = omega arith
sum_head f (suc n) = let ih = sum_head f n in omega arith

-- how many elements of a list lie in C
abbrev pub hits : (ℕ → Bool) → List ℕ → ℕ
hits C [] = 0
hits C (a ∷ l) = bit (C a) + hits C l

pub hits-sum : (C : ℕ → Bool) (l : List ℕ) → hits C l ≡ sum (λ x. bit (C (cell l x))) (length l)
unfolding sum
hits-sum C [] = refl
hits-sum C (a ∷ l) = let ih = hits-sum C l in let h = sum_head (λ x. bit (C (cell (a ∷ l) x))) (length l) in omega arith

pub gate-add : (b : Bool) (m n : ℕ) → gate b (m + n) ≡ gate b m + gate b n
gate-add true m n = refl
gate-add false m n = refl

pub gate-zero : (b : Bool) → gate b 0 ≡ 0
gate-zero true = refl
gate-zero false = refl

pub gate-one : (b : Bool) → gate b 1 ≡ bit b
gate-one true = refl
gate-one false = refl

-- the elements that lie in C, counted by their values
pub hits-count : (C : ℕ → Bool) (l : List ℕ) (n : ℕ) → ((x : ℕ) → x < length l → cell l x < n) → sum (λ p. gate (C p) (count p l)) n ≡ hits C l
unfolding count
hits-count C [] n low = sum-none (λ p. gate (C p) 0) n (λ x lt. gate-zero (C x))
hits-count C (a ∷ l) n low =
    let ih = hits-count C l n (λ x lt. low (suc x) (omega arith)) in
    let e = sum-ext (λ p. gate (C p) (bit (eqb a p) + count p l)) (λ p. gate (C p) (bit (eqb a p)) + gate (C p) (count p l)) n (λ p lt. gate-add (C p) (bit (eqb a p)) (count p l)) in
    let s = sum-add (λ p. gate (C p) (bit (eqb a p))) (λ p. gate (C p) (count p l)) n in
    let o = sum_one (λ p. gate (C p) (bit (eqb a p))) a n (low 0 (omega arith)) (λ x lt ne. ap (λ b. gate (C x) (bit b)) (ne_eqb a x (λ q. ne (sym q))) ∙ gate-zero (C x)) in
    let w : gate (C a) (bit (eqb a a)) ≡ bit (C a) = ap (λ b. gate (C a) (bit b)) (eq-eqb a a refl) ∙ gate-one (C a) in
    omega arith

pub once : (a n : ℕ) → sum (λ p. bit (eqb a p)) n ≤ 1
unfolding sum
once a zero = omega arith
once a (suc n) = go (once a n) (ℕ_discrete a n)
  where
    go : sum (λ p. bit (eqb a p)) n ≤ 1 → Dec (a ≡ n) → sum (λ p. bit (eqb a p)) n + bit (eqb a n) ≤ 1
    go ih (yes e) =
        let z = sum-none (λ p. bit (eqb a p)) n (λ x lt. ap bit (ne_eqb a x (λ q. omega arith))) in
        let o = ap bit (eq-eqb a n e) in omega arith
    go ih (no f) = let o = ap bit (ne_eqb a n f) in omega arith

-- the values below n of a list are at most its elements
pub sum-count : (l : List ℕ) (n : ℕ) → sum (λ p. count p l) n ≤ length l
unfolding count
sum-count [] n = let z = sum-none (λ p. 0) n (λ x lt. refl) in omega arith
sum-count (a ∷ l) n =
    let ih = sum-count l n in
    let s = sum-add (λ p. bit (eqb a p)) (λ p. count p l) n in
    let o = once a n in
    omega arith

pub count-sum : (u : ℕ) (l : List ℕ) → count u l ≡ sum (λ x. bit (eqb (cell l x) u)) (length l)
unfolding count sum
count-sum u [] = refl
count-sum u (a ∷ l) = let ih = count-sum u l in let h = sum_head (λ x. bit (eqb (cell (a ∷ l) x) u)) (length l) in omega arith

abbrev pub pick : Bool → ℕ → ℕ → ℕ
pick true a b = a
pick false a b = b

-- f below b, g from b on
abbrev pub mix : ℕ → (ℕ → ℕ) → (ℕ → ℕ) → ℕ → ℕ
mix b f g x = pick (ltb x b) (f x) (g x)

pub mix-low : (b : ℕ) (f g : ℕ → ℕ) (x : ℕ) → x < b → mix b f g x ≡ f x
mix-low b f g x lt = ap (λ (t : Bool). pick t (f x) (g x)) (lt-ltb x b lt)

pub mix-high : (b : ℕ) (f g : ℕ → ℕ) (x : ℕ) → b ≤ x → mix b f g x ≡ g x
mix-high b f g x le = ap (λ (t : Bool). pick t (f x) (g x)) (le-ltb x b le)

sum-turn : (h : ℕ → ℕ) (n : ℕ) → sum h (suc n) ≡ sum h n + h n
unfolding sum
sum-turn h n = refl

sum-mix-all : (b n : ℕ) (f g : ℕ → ℕ) → b ≡ n → sum (mix b f g) n + sum g b ≡ sum f b + sum g n
sum-mix-all b n f g e =
    let x = sum-ext (mix b f g) f n (λ x lt. mix-low b f g x (omega arith)) in
    let y = ap (sum f) e in
    let z = ap (sum g) e in
    omega arith

pub sum-mix : (b n : ℕ) (f g : ℕ → ℕ) → b ≤ n → sum (mix b f g) n + sum g b ≡ sum f b + sum g n
sum-mix b zero f g le = sum-mix-all b 0 f g (omega arith)
sum-mix b (suc n) f g le = go (λ l. sum-mix b n f g l) (ℕ_discrete b (suc n))
  where
    go : (b ≤ n → sum (mix b f g) n + sum g b ≡ sum f b + sum g n) → Dec (b ≡ suc n) → sum (mix b f g) (suc n) + sum g b ≡ sum f b + sum g (suc n)
    go rec (yes e) = sum-mix-all b (suc n) f g e
    go rec (no ne) = let ih = rec (omega arith) in let e = mix-high b f g n (omega arith) in let x = sum-turn (mix b f g) n in let y = sum-turn g n in omega arith

-- ---- the numbers that pass a test, rising

count-append : (u : ℕ) (a b : List ℕ) → count u (a ++ b) ≡ count u a + count u b
unfolding count
count-append u [] b = omega arith
count-append u (x ∷ a) b = let ih = count-append u a b in omega arith

length-single : (b : Bool) (a : ℕ) → length (single b a) ≡ bit b
length-single true a = refl
length-single false a = refl

count-single : (b : Bool) (u a : ℕ) → count u (single b a) ≡ gate b (bit (eqb a u))
unfolding count
count-single true u a = omega arith
count-single false u a = omega arith

pub length-turn : (f : ℕ → Bool) (n : ℕ) → length (rising f n ++ single (f n) n) ≡ length (rising f n) + bit (f n)
length-turn f n = let a = length-append (rising f n) (single (f n) n) in let k = length-single (f n) n in omega arith

pub length-rising : (f : ℕ → Bool) (n : ℕ) → length (rising f n) ≡ sum (λ x. bit (f x)) n
unfolding sum rising
length-rising f zero = refl
length-rising f (suc n) = let ih = length-rising f n in let k = length-turn f n in omega arith

count-rising : (f : ℕ → Bool) (n u : ℕ) → count u (rising f n) ≡ sum (λ x. gate (f x) (bit (eqb x u))) n
unfolding sum rising count
count-rising f zero u = refl
count-rising f (suc n) u = let ih = count-rising f n u in let k = count-single (f n) u n in let a = count-append u (rising f n) (single (f n) n) in omega arith

pub rising-bit : (f : ℕ → Bool) (n u : ℕ) → u < n → count u (rising f n) ≡ bit (f u)
rising-bit f n u lt =
    count-rising f n u
    ∙ sum_one (λ x. gate (f x) (bit (eqb x u))) u n lt (λ x l ne. ap (λ b. gate (f x) (bit b)) (ne_eqb x u ne) ∙ gate-zero (f x))
    ∙ ap (λ b. gate (f u) (bit b)) (eq-eqb u u refl) ∙ gate-one (f u)

-- a sum that is no less than one that is so at each place is equal at each
pub sum-tight : (f g : ℕ → ℕ) (n : ℕ) → ((x : ℕ) → x < n → f x ≤ g x) → sum g n ≤ sum f n → (x : ℕ) → x < n → g x ≤ f x
sum-tight f g zero h le x lt = absurd (not-suc-le-zero lt)
sum-tight f g (suc n) h le x lt = go (λ l l'. sum-tight f g n (λ y p. h y (omega arith)) l x l') (ℕ_discrete x n)
  where
    go : (sum g n ≤ sum f n → x < n → g x ≤ f x) → Dec (x ≡ n) → g x ≤ f x
    go rec (yes e) = let a = sum-le f g n (λ y p. h y (omega arith)) in let b = sum-turn f n in let c = sum-turn g n in let p = ap f e in let q = ap g e in omega arith
    go rec (no ne) = let a = h n (omega arith) in let b = sum-turn f n in let c = sum-turn g n in rec (omega arith) (omega arith)
