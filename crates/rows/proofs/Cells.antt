-- Laws of tables that a loop fills, and of how a test came out.
use mathlib.Core.Path.{◌≡◌, ap, ◌∙◌, subst}
use mathlib.Core.List.{List, [], ◌∷◌}
use mathlib.Core.Bool.{Bool, true, false}
use Prim.Native.Nat.{ℕ, zero, suc, ◌+◌, ◌≤◌, ◌<◌}
use native.Mathlib.Omega.{arith}
use native.Mathlib.Decide.{ℕ_discrete}
use native.Mathlib.Nat.{not-suc-le-zero, le_of_suc-le-suc}
use lib.ListN.{length, set}
use lib.Seq.{ext_get_or, get_or-set_same, get_or-set_other}
use Rattle.rows.specs.Cells.{cell, zero?, zeros, Ends}

-- one more element is written
pub filled_more : (f : ℕ → ℕ) (l : List ℕ) (i : ℕ) → i < length l → ((j : ℕ) → j < i → cell l j ≡ f j) → (j : ℕ) → j < i + 1 → cell (set l i (f i)) j ≡ f j
filled_more f l i lt h j below = go (ℕ_discrete j i)
  where
    go : Dec (j ≡ i) → cell (set l i (f i)) j ≡ f j
    go (yes e) = rw e (get_or-set_same l i (f i) 0 lt)
    go (no n) = get_or-set_other l i j (f i) 0 n ∙ h j (omega arith)

pub copied : (a b : List ℕ) (i : ℕ) → length b ≡ length a → length a ≤ i → ((j : ℕ) → j < i → cell b j ≡ cell a j) → b ≡ a
copied a b i len le h = ext_get_or 0 b a len (λ j lt. h j (omega arith))

-- one 0 less
pub zeros-set : (l : List ℕ) (i x : ℕ) → i < length l → cell l i ≡ 0 → zeros (set l i (suc x)) + 1 ≡ zeros l
unfolding zeros
zeros-set [] i x h e = absurd (not-suc-le-zero h)
zeros-set (a ∷ l) zero x h e = let z : zero? a ≡ 1 = ap zero? e in omega arith
zeros-set (a ∷ l) (suc i) x h e = let ih = zeros-set l i x (le_of_suc-le-suc h) e in omega arith

pub zeros-mark : (l : List ℕ) (i : ℕ) → i < length l → cell l i ≡ 0 → zeros (set l i 1) + 1 ≡ zeros l
zeros-mark l i = zeros-set l i 0

pub ends-map : {A A' B B' : Type 0} (b : Bool) → (A → A') → (B → B') → Ends b A B → Ends b A' B'
ends-map true f g e = f e
ends-map false f g e = g e

pub succeeded : (A B : Type 0) (b : Bool) → b ≡ true → Ends b A B → A
succeeded A B b e x = subst (λ (b : Bool). Ends b A B) e x

pub failed : (A B : Type 0) (b : Bool) → b ≡ false → Ends b A B → B
failed A B b e x = subst (λ (b : Bool). Ends b A B) e x
