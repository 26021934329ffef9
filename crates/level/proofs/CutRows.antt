-- Rows of the kept cuts, and rows beside them.
use Prim.Native.Nat.{ℕ, ◌+◌, ◌*◌, ◌≤◌, ◌<◌}
use mathlib.Core.Path.{◌≡◌, refl, sym, ◌∙◌}
use mathlib.Core.Bool.{Bool, true, false}
use mathlib.Core.List.{List}
use mathlib.Core.Logic.{◌⊎◌, inl, inr}
use native.Mathlib.Omega.{arith}
use lib.Dec.{ltb}
use lib.ListN.{length, get_or, take}
use lib.Seq.{length-take-le, get_or-take}
use borrow.Author.Tests.{ltb-true, ltb-false}
use Rattle.maps.specs.Sheet.{Sheet}
use Rattle.cut.specs.Question.{AllowedCut}
use Rattle.bound.specs.Lookup.{cut_stride, leaf_column, count_of, leaf_of, Row, Beside}
use Rattle.level.specs.Cuts.{Stored}

-- a row other than that of v is as it was
module _ (v : ℕ) (kept more : List ℕ) (beside : Beside v kept more) (w : ℕ) (ne : w ≡ v → ⊥) where
  outside : (i : ℕ) → w * cut_stride ≤ i → i < w * cut_stride + cut_stride → (i < v * cut_stride) ⊎ (v * cut_stride + cut_stride ≤ i)
  outside i from to = go (ltb w v) refl
    where
      go : (t : Bool) → ltb w v ≡ t → (i < v * cut_stride) ⊎ (v * cut_stride + cut_stride ≤ i)
      go true e = let k = ltb-true w v e in inl (omega arith)
      go false e =
          let k = ltb-false w v e in
          let n : v < w = omega (arith, ne) in
          inr (omega arith)

  pub count-beside : count_of more w ≡ count_of kept w
  count-beside = beside (w * cut_stride) (outside (w * cut_stride) (omega arith) (omega arith))

  pub leaf-beside : (j : ℕ) → j < 7 → leaf_of more w j ≡ leaf_of kept w j
  leaf-beside j l = beside (w * cut_stride + leaf_column + j) (outside (w * cut_stride + leaf_column + j) (omega arith) (omega arith))

-- a row of a table of zeros has no leaves
pub count-blank : (cuts : List ℕ) → ((i : ℕ) → i < 2048 → get_or cuts i 0 ≡ 0) → (w : ℕ) → w < 256 → count_of cuts w ≡ 0
count-blank cuts zeros w l = zeros (w * cut_stride) (omega arith)

-- the first r numbers of cut are a cut that is kept
pub stored_row : (cut kept more : List ℕ) (v r : ℕ) → r ≤ length cut → Stored cut kept more v r → Row more v (take r cut)
stored_row cut kept more v r le s =
    let n = length-take-le r cut le in
    record { count = s.counted ∙ sym n; leaves = λ j lt. s.leaves j (omega arith) ∙ sym (get_or-take r cut j 0 (omega arith)) }

pub tried-kept : (S : Sheet) (may : ℕ → Bool) (v k r : ℕ) (cut kept more : List ℕ) → r ≤ k → k ≤ 7 → length cut ≡ 8
    → AllowedCut S may v (take r cut) → Stored cut kept more v r → (c : List ℕ) × AllowedCut S may v c × (length c ≤ k) × Row more v c
tried-kept S may v k r cut kept more le most wide a s =
    let few : r ≤ length cut = omega arith in
    let n = length-take-le r cut few in
    (take r cut, a, omega arith, stored_row cut kept more v r few s)

-- a lower row stays
pub row-beside : (kept more : List ℕ) (u v : ℕ) (c : List ℕ) → u < v → length c ≤ 7 → Beside v kept more → Row kept u c → Row more u c
row-beside kept more u v c lt few b row =
    record {
      count = b (u * 8) (inl (omega arith)) ∙ row.count;
      leaves = λ j l. b (u * 8 + 1 + j) (inl (omega arith)) ∙ row.leaves j l;
    }
