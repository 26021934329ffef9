-- Reading and setting a row of the kept cuts, seen as one list of numbers.
use Rattle.std.proofs.Common.{ℕ, zero, suc, ◌+◌, ◌-◌, ◌*◌, ◌<◌, ◌≤◌, ◌≡◌, refl, ap, sym, ◌∙◌, List, [], ◌∷◌, length, get_or, set, replicate, take, arith, length-set, get_or-set_same, get_or-take}
use mathlib.Core.Logic.{◌⊎◌, inl, inr}
use Rattle.bound.specs.Lookup.{cut_stride, leaf_column, count_of, leaf_of, Beside}
use Rattle.level.specs.declared.cuts.Cut.{Cut}
use Rattle.level.specs.Cuts.{Stored}
use Rattle.level.specs.Numbers.{numbers_of, numbers, Seven}

-- a cut that has no leaves, and no row
abbrev pub no_cut : Cut
no_cut = record { count = 0; leaves = [] }

-- a list of seven numbers is its first seven
pub seven : (xs : List ℕ) → length xs ≡ 7 → Seven xs
seven (a ∷ b ∷ c ∷ d ∷ e ∷ f ∷ g ∷ []) h = refl
seven xs h = absurd (omega arith)

length-numbers : (rows : List Cut) → length (numbers rows) ≡ length rows * 8
unfolding numbers numbers_of
length-numbers [] = refl
length-numbers (c ∷ rows) = omega (arith, length-numbers rows)

pub wide-numbers : (rows : List Cut) → length rows ≡ 256 → length (numbers rows) ≡ 2048
wide-numbers rows e = omega (arith, length-numbers rows)

-- a table of cuts without leaves is a table of zeros
pub numbers-none : (n : ℕ) → numbers (replicate n (record { count = 0; leaves = replicate 7 0 })) ≡ replicate (n * 8) 0
unfolding numbers numbers_of
numbers-none zero = refl
numbers-none (suc n) =
    let e : suc n * 8 ≡ suc (suc (suc (suc (suc (suc (suc (suc (n * 8)))))))) = omega arith in
    rw (e, numbers-none n) refl

-- number k of the row of v
number-at : (rows : List Cut) (v k : ℕ) → v < length rows → k < 8 → get_or (numbers rows) (v * 8 + k) 0 ≡ get_or (numbers_of (get_or rows v no_cut)) k 0
unfolding numbers numbers_of
number-at [] v k l m = absurd (omega arith)
number-at (c ∷ rows) zero zero l m = refl
number-at (c ∷ rows) zero (suc zero) l m = refl
number-at (c ∷ rows) zero (suc (suc zero)) l m = refl
number-at (c ∷ rows) zero (suc (suc (suc zero))) l m = refl
number-at (c ∷ rows) zero (suc (suc (suc (suc zero)))) l m = refl
number-at (c ∷ rows) zero (suc (suc (suc (suc (suc zero))))) l m = refl
number-at (c ∷ rows) zero (suc (suc (suc (suc (suc (suc zero)))))) l m = refl
number-at (c ∷ rows) zero (suc (suc (suc (suc (suc (suc (suc zero))))))) l m = refl
number-at (c ∷ rows) zero (suc (suc (suc (suc (suc (suc (suc (suc k)))))))) l m = absurd (omega arith)
number-at (c ∷ rows) (suc v) k l m =
    let e : suc v * 8 + k ≡ suc (suc (suc (suc (suc (suc (suc (suc (v * 8 + k)))))))) = omega arith in
    rw e (number-at rows v k (omega arith) m)

pub count-at : (rows : List Cut) (v : ℕ) → v < length rows → (get_or rows v no_cut).count ≡ count_of (numbers rows) v
unfolding numbers_of
count-at rows v l =
    let e : v * cut_stride ≡ v * 8 + 0 = omega arith in
    rw e (sym (number-at rows v 0 l (omega arith)))

leaf-number : (c : Cut) (j : ℕ) → j < 7 → get_or (numbers_of c) (1 + j) 0 ≡ get_or c.leaves j 0
unfolding numbers_of
leaf-number c zero m = refl
leaf-number c (suc zero) m = refl
leaf-number c (suc (suc zero)) m = refl
leaf-number c (suc (suc (suc zero))) m = refl
leaf-number c (suc (suc (suc (suc zero)))) m = refl
leaf-number c (suc (suc (suc (suc (suc zero))))) m = refl
leaf-number c (suc (suc (suc (suc (suc (suc zero)))))) m = refl
leaf-number c (suc (suc (suc (suc (suc (suc (suc j))))))) m = absurd (omega arith)

pub leaf-at : (rows : List Cut) (v j : ℕ) → v < length rows → j < 7 → get_or (get_or rows v no_cut).leaves j 0 ≡ leaf_of (numbers rows) v j
leaf-at rows v j l m =
    let e : v * cut_stride + leaf_column + j ≡ v * 8 + (1 + j) = omega arith in
    rw e (sym (number-at rows v (1 + j) l (omega arith) ∙ leaf-number (get_or rows v no_cut) j m))

-- the other rows are as they were
less : (v i k : ℕ) → (k < suc v * cut_stride) ⊎ (suc v * cut_stride + cut_stride ≤ k) → k ≡ 8 + i → (i < v * cut_stride) ⊎ (v * cut_stride + cut_stride ≤ i)
less v i k (inl l) e = inl (omega arith)
less v i k (inr l) e = inr (omega arith)

past : (i : ℕ) → (i < 0 * 8) ⊎ (0 * 8 + 8 ≤ i) → 8 ≤ i
past i (inl l) = absurd (omega arith)
past i (inr l) = omega arith

pub beside-set : (rows : List Cut) (v : ℕ) (c : Cut) → Beside v (numbers rows) (numbers (set rows v c))
unfolding numbers numbers_of
beside-set [] v c i o = refl
beside-set (b ∷ rows) zero c i o =
    let l : 8 ≤ i = past i o in
    let e : i ≡ suc (suc (suc (suc (suc (suc (suc (suc (i - 8)))))))) = omega arith in
    rw e refl
beside-set (b ∷ rows) (suc v) c zero o = refl
beside-set (b ∷ rows) (suc v) c (suc zero) o = refl
beside-set (b ∷ rows) (suc v) c (suc (suc zero)) o = refl
beside-set (b ∷ rows) (suc v) c (suc (suc (suc zero))) o = refl
beside-set (b ∷ rows) (suc v) c (suc (suc (suc (suc zero)))) o = refl
beside-set (b ∷ rows) (suc v) c (suc (suc (suc (suc (suc zero))))) o = refl
beside-set (b ∷ rows) (suc v) c (suc (suc (suc (suc (suc (suc zero)))))) o = refl
beside-set (b ∷ rows) (suc v) c (suc (suc (suc (suc (suc (suc (suc zero))))))) o = refl
beside-set (b ∷ rows) (suc v) c (suc (suc (suc (suc (suc (suc (suc (suc i)))))))) o = beside-set rows v c i (less v i _ o (omega arith))

-- the row of v holds a cut of count leaves, which are the first numbers of cut
pub stored-set : (cut : List ℕ) (rows : List Cut) (v count : ℕ) (c : Cut) → v < length rows → count ≤ 7 → c.count ≡ count → c.leaves ≡ take 7 cut
    → Stored cut (numbers rows) (numbers (set rows v c)) v count
stored-set cut rows v count c l m e f =
    let inside : v < length (set rows v c) = omega (arith, length-set rows v c) in
    let here : get_or (set rows v c) v no_cut ≡ c = get_or-set_same rows v c no_cut l in
    record {
      counted = sym (count-at (set rows v c) v inside) ∙ ap (λ (d : Cut). d.count) here ∙ e;
      leaves = λ j n.
          sym (leaf-at (set rows v c) v j inside (omega arith))
          ∙ ap (λ (d : Cut). get_or d.leaves j 0) here
          ∙ ap (λ (xs : List ℕ). get_or xs j 0) f
          ∙ get_or-take 7 cut j 0 (omega arith);
      beside = beside-set rows v c;
    }
