-- The list that a loop fills with the leaves of the marks.
use mathlib.Core.Path.{◌≡◌, refl, sym, ap, ◌∙◌}
use mathlib.Core.Logic.{◌⊎◌, inl, inr}
use mathlib.Core.List.{List, [], ◌∷◌, ◌++◌, append-nil}
use mathlib.Core.Bool.{Bool, true, false, cond}
use Prim.Native.Nat.{ℕ, zero, suc, ◌+◌, ◌≤◌, ◌<◌}
use native.Mathlib.Numerals.{add-one}
use native.Mathlib.Omega.{arith}
use native.Mathlib.Decide.{ℕ_discrete, dec_lt}
use lib.ListN.{length, set, take, length-set}
use lib.Seq.{take-suc, take-set-le, get_or-set_same}
use Rattle.maps.specs.Lists.{keep, below}
use Rattle.maps.proofs.Member.{keep_append}
use Rattle.rows.specs.Cells.{cell}
use Rattle.flow.specs.Search.{bit, single, rising}
use Rattle.flow.proofs.Bools.{bool}
use Rattle.flow.proofs.Sums.{length-turn}

pub rising_none : (f : ℕ → Bool) → rising f 0 ≡ []
unfolding rising
rising_none f = refl

pub rising-turn : (f : ℕ → Bool) (n : ℕ) → rising f (n + 1) ≡ rising f n ++ single (f n) n
unfolding rising
rising-turn f n = ap (rising f) (add-one n)

pub rising-longer : (f : ℕ → Bool) (n : ℕ) → length (rising f (n + 1)) ≡ length (rising f n) + bit (f n)
rising-longer f n = ap length (rising-turn f n) ∙ length-turn f n

bit-one : (b : Bool) → bit b ≤ 1
bit-one true = omega arith
bit-one false = omega arith

pub rising-short : (f : ℕ → Bool) (n : ℕ) → length (rising f n) ≤ n
unfolding rising
rising-short f zero = omega arith
rising-short f (suc n) = let ih = rising-short f n in let k = length-turn f n in let o = bit-one (f n) in omega arith

pub rising-grow : (f : ℕ → Bool) (m n : ℕ) → m ≤ n → length (rising f m) ≤ length (rising f n)
unfolding rising
rising-grow f m zero le = let e : m ≡ 0 = omega arith in let q = ap (λ (k : ℕ). length (rising f k)) e in omega arith
rising-grow f m (suc n) le = go (λ l. rising-grow f m n l) (ℕ_discrete m (suc n))
  where
    go : (m ≤ n → length (rising f m) ≤ length (rising f n)) → Dec (m ≡ suc n) → length (rising f m) ≤ length (rising f n ++ single (f n) n)
    go rec (yes e) = let q = ap (λ (k : ℕ). length (rising f k)) e in omega arith
    go rec (no ne) = let ih = rec (omega arith) in let k = length-turn f n in omega arith

-- the list has room for the leaf x
pub room : (f : ℕ → Bool) (x n m : ℕ) → x < 256 → f x ≡ true → n ≡ length (rising f x) → length (rising f 256) ≤ m → n < m
room f x n m lt e l le =
    let longer = rising-longer f x in
    let grow = rising-grow f (x + 1) 256 (omega arith) in
    let one = ap bit e in
    omega arith

-- x is listed, a leaf
pub note-more : (f : ℕ → Bool) (cut : List ℕ) (x n : ℕ) → f x ≡ true → n < length cut → n ≡ length (rising f x) → take n cut ≡ rising f x
    → (n + 1 ≡ length (rising f (x + 1))) × (take (n + 1) (set cut n x) ≡ rising f (x + 1))
note-more f cut x n e lt l t = (
  (let longer = rising-longer f x in let one = ap bit e in omega arith),
  ap (λ (m : ℕ). take m (set cut n x)) (add-one n)
      ∙ take-suc (set cut n x) n 0 (let k = length-set cut n x in omega arith)
      ∙ ap (λ (l : List ℕ). l ++ (cell (set cut n x) n ∷ [])) (take-set-le n cut n x (omega arith) ∙ t)
      ∙ ap (λ (y : ℕ). rising f x ++ (y ∷ [])) (get_or-set_same cut n x 0 lt)
      ∙ sym (rising-turn f x ∙ ap (λ (b : Bool). rising f x ++ single b x) e),
)

-- x is no leaf
pub note-same : (f : ℕ → Bool) (cut : List ℕ) (x n : ℕ) → f x ≡ false → n ≡ length (rising f x) → take n cut ≡ rising f x
    → (n ≡ length (rising f (x + 1))) × (take n cut ≡ rising f (x + 1))
note-same f cut x n e l t = (
  (let longer = rising-longer f x in let none = ap bit e in omega arith),
  t ∙ sym (rising-turn f x ∙ ap (λ (b : Bool). rising f x ++ single b x) e ∙ append-nil (rising f x)),
)

-- the same as a selection
pub keep-rising : (f : ℕ → Bool) (n : ℕ) → keep f (below n) ≡ rising f n
unfolding rising
keep-rising f zero = refl
keep-rising f (suc n) = keep_append f (below n) (n ∷ []) ∙ go (f n) (keep-rising f n)
  where
    go : (b : Bool) → keep f (below n) ≡ rising f n → keep f (below n) ++ cond b (n ∷ []) [] ≡ rising f n ++ single b n
    go true e = ap (λ (l : List ℕ). l ++ (n ∷ [])) e
    go false e = ap (λ (l : List ℕ). l ++ []) e

-- two tests that agree list the same numbers
pub rising-same : (f g : ℕ → Bool) (n : ℕ) → ((x : ℕ) → x < n → f x ≡ g x) → rising f n ≡ rising g n
unfolding rising
rising-same f g zero h = refl
rising-same f g (suc n) h =
    ap (λ (l : List ℕ). l ++ single (f n) n) (rising-same f g n (λ x lt. h x (omega arith)))
    ∙ ap (λ (b : Bool). rising g n ++ single b n) (h n (omega arith))

-- numbers that all lie below m
pub rising-low : (f : ℕ → Bool) (m n : ℕ) → m ≤ n → ((x : ℕ) → f x ≡ true → x < m) → rising f m ≡ rising f n
unfolding rising
rising-low f m zero le h = let e : m ≡ 0 = omega arith in ap (rising f) e
rising-low f m (suc n) le h = go (λ l. rising-low f m n l h) (dec_lt n m) (bool (f n))
  where
    go : (m ≤ n → rising f m ≡ rising f n) → Dec (n < m) → (f n ≡ true) ⊎ (f n ≡ false) → rising f m ≡ rising f n ++ single (f n) n
    go rec (yes l) b = let e : m ≡ suc n = omega arith in ap (rising f) e
    go rec (no l) (inl t) = absurd (l (h n t))
    go rec (no l) (inr e) = rec (omega arith) ∙ sym (ap (λ (b : Bool). rising f n ++ single b n) e ∙ append-nil (rising f n))
