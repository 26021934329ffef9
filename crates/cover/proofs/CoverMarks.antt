-- Marks and rows of the cover: lists of nodes that are marked, and rows that stay.
use Prim.Native.Nat.{ℕ, ◌+◌, ◌≤◌, ◌<◌}
use mathlib.Core.Path.{◌≡◌, refl, sym, subst, ap, ◌∙◌}
use mathlib.Core.Bool.{Bool, true, false, ◌||◌}
use mathlib.Core.List.{List, [], ◌∷◌, ◌++◌, map, map-append}
use native.Mathlib.Omega.{arith}
use native.Mathlib.Numerals.{add-one}
use native.Mathlib.Decide.{ℕ_discrete}
use lib.Dec.{eqb}
use lib.ListN.{length, get_or, set, length-set}
use lib.Seq.{get_or-set_same, get_or-set_other, ext_get_or}
use borrow.Author.Tests.{eqb-true, eqb-false}
use Rattle.maps.specs.Limits.{leaves_range}
use Rattle.maps.specs.Lists.{All, mem, below}
use Rattle.maps.proofs.Over.{length_over, get_d_over}
use Rattle.maps.proofs.Member.{All-ids, All-get, mem-append}
use Rattle.bound.specs.Lookup.{Beside, count_of, leaf_of}
use Rattle.level.proofs.CutRows.{count-beside, leaf-beside}
use Rattle.cover.specs.Cover.{Rows, row_of}
use Rattle.cover.specs.Covering.{MarkedAll, Written}

or-both : (a b x : Bool) → (b || (a || x)) ≡ ((a || b) || x)
or-both true true x = refl
or-both true false x = refl
or-both false b x = refl

-- one node is marked
pub marked-own : (marks : List Bool) (v : ℕ) → length marks ≡ 256 → v < 256 → MarkedAll (v ∷ []) marks (set marks v true)
marked-own marks v w l = record { wide = length-set marks v true ∙ w; each = λ u m. go u (eqb u v) refl }
  where
    go : (u : ℕ) (t : Bool) → eqb u v ≡ t → get_or (set marks v true) u false ≡ ((t || false) || get_or marks u false)
    go u true e = ap (λ (i : ℕ). get_or (set marks v true) i false) (eqb-true u v e) ∙ get_or-set_same marks v true false (omega arith)
    go u false e = get_or-set_other marks v u true false (eqb-false u v e)

-- one list of nodes, then another
pub marked_append : {a b : List ℕ} {marks more last : List Bool} → MarkedAll a marks more → MarkedAll b more last → MarkedAll (a ++ b) marks last
marked_append {a} {b} {marks} g h =
    record {
      wide = h.wide;
      each = λ u l.
          h.each u l ∙ ap (λ (x : Bool). mem u b || x) (g.each u l) ∙ or-both (mem u a) (mem u b) (get_or marks u false)
          ∙ ap (λ (t : Bool). t || get_or marks u false) (sym (mem-append u a b));
    }

-- a list made over 0, 1, .. n - 1: by its elements, a property of each, and one element more
module _ (f : ℕ → ℕ) where
  pub over-is : (n : ℕ) (xs : List ℕ) → n ≡ length xs → ((j : ℕ) → j < n → f j ≡ get_or xs j 0) → map f (below n) ≡ xs
  over-is n xs e h =
      let w = length_over f 0 n in
      ext_get_or 0 (map f (below n)) xs (w ∙ e) (λ j l. let m : j < n = omega arith in get_d_over f 0 n j m ∙ h j m)

  pub over-all : (P : ℕ → Type 0) (n : ℕ) → ((j : ℕ) → j < n → P (f j)) → All P (map f (below n))
  over-all P n h =
      let w = length_over f 0 n in
      All-ids P 0 (map f (below n)) (λ j l. let m : j < n = omega arith in subst P (sym (get_d_over f 0 n j m)) (h j m))

  pub over-get : (P : ℕ → Type 0) (n : ℕ) → All P (map f (below n)) → (j : ℕ) → j < n → P (f j)
  over-get P n h j l =
      let w = length_over f 0 n in
      subst P (get_d_over f 0 n j l) (All-get P 0 (map f (below n)) h j (omega arith))

  pub over-more : (j : ℕ) → map f (below (j + 1)) ≡ map f (below j) ++ (f j ∷ [])
  over-more j = ap (λ (k : ℕ). map f (below k)) (add-one j) ∙ map-append f (below j) (j ∷ [])

  module _ {marks : List Bool} where
    pub marked_more : {more last : List Bool} (j u : ℕ) → u ≡ f j → MarkedAll (map f (below j)) marks more → MarkedAll (u ∷ []) more last
        → MarkedAll (map f (below (j + 1))) marks last
    marked_more {more} {last} j u e h m =
        subst (λ (p : List ℕ). MarkedAll p marks last) (sym (over-more j)) (marked_append h (subst (λ (u : ℕ). MarkedAll (u ∷ []) more last) e m))

-- what writing the rows rests on, after marks are set and after a row is written
pub rows-marked : {marks more : List Bool} {cuts row : List ℕ} → Rows 256 marks cuts → MarkedAll row marks more → Rows 256 more cuts
rows-marked h m =
    record {
      marks-wide = m.wide;
      cuts-wide = h.cuts-wide;
      few = h.few;
      ids = h.ids;
    }

-- a row other than that of v stays
pub row-beside : (v : ℕ) (cuts more : List ℕ) → Beside v cuts more → (w : ℕ) → (w ≡ v → ⊥) → count_of cuts w ≤ leaves_range.high → row_of more w ≡ row_of cuts w
row-beside v cuts more b w ne few =
    let c = count-beside v cuts more b w ne in
    over-is (leaf_of more w) (count_of more w) (row_of cuts w) (c ∙ sym (length_over (leaf_of cuts w) 0 (count_of cuts w)))
    (λ j m. leaf-beside v cuts more b w ne j (omega arith) ∙ sym (get_d_over (leaf_of cuts w) 0 (count_of cuts w) j (omega arith)))

pub rows_written : {v : ℕ} {marks : List Bool} {cuts more : List ℕ} → Rows 256 marks cuts → Written v cuts more → Rows 256 marks more
rows_written {v} {marks} {cuts} {more} h r =
    record {
      marks-wide = h.marks-wide;
      cuts-wide = r.wide;
      few = λ w l. few w l (ℕ_discrete w v);
      ids = λ w l. ids w l (ℕ_discrete w v);
    }
  where
    few : (w : ℕ) → w < 256 → Dec (w ≡ v) → count_of more w ≤ leaves_range.high
    few w l (yes e) = subst (λ (i : ℕ). count_of more i ≤ leaves_range.high) (sym e) r.few
    few w l (no n) = let c = count-beside v cuts more r.beside w n in let k = h.few w l in omega arith

    ids : (w : ℕ) → w < 256 → Dec (w ≡ v) → All (λ u. u < 256) (row_of more w)
    ids w l (yes e) = subst (λ (i : ℕ). All (λ u. u < 256) (row_of more i)) (sym e) r.ids
    ids w l (no n) =
        subst (All (λ u. u < 256)) (sym (row-beside v cuts more r.beside w n (h.few w l))) (h.ids w l)
