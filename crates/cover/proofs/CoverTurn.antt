-- The turn of a node in the cover: what is needed after it, and which rows stand.
use Prim.Native.Nat.{ℕ, ◌+◌, ◌≤◌, ◌<◌}
use mathlib.Core.Path.{◌≡◌, refl, sym, subst, ap, ◌∙◌}
use mathlib.Core.Bool.{Bool, true, false, cond, ◌&&◌, ◌||◌}
use mathlib.Core.List.{List, [], ◌∷◌, ◌++◌, map, Memᴰ}
use native.Mathlib.Omega.{arith}
use native.Mathlib.Numerals.{add-one}
use native.Mathlib.Decide.{ℕ_discrete}
use lib.ListN.{length, get_or}
use borrow.Author.Tests.{eq-eqb}
use Rattle.maps.specs.Lists.{All, mem, below}
use Rattle.maps.specs.Label.{Label}
use Rattle.maps.specs.Sheet.{Sheet, Kind, input, logic, box, size, node, is_logic, is_box}
use Rattle.maps.specs.Cut.{logic_node}
use Rattle.maps.specs.Cover.{chosen_cut, needs, used_node, used_below, used}
use Rattle.maps.specs.Plan.{leaves_of}
use Rattle.maps.proofs.Enumerate.{clash}
use Rattle.maps.proofs.Member.{All-at, All-map, mem-out, mem-append}
use Rattle.maps.proofs.Planned.{operands-below}
use Rattle.rows.specs.Table.{kind_at, count_in, operand_in, Tabled}
use Rattle.rows.specs.declared.Header as R
use Rattle.rows.proofs.SheetTables.{kind-tabled, output-tabled}
use Rattle.bound.specs.Lookup.{labels_in, count_of, leaf_of}
use Rattle.level.proofs.CutRows.{count-beside, count-blank}
use Rattle.cover.specs.Cover.{Covered, Rows, operands_of, row_of}
use Rattle.cover.specs.Covering.{used_in, MarkedAll, Written, Laid, CoverFrom}
use Rattle.cover.proofs.CoverMarks.{over-is, marked_append, row-beside}
use Rattle.cover.proofs.CoverCut.{chosen-low}

or-false : (a b c : Bool) → (a || (b || c)) ≡ false → c ≡ false
or-false true b c e = clash (sym e)
or-false false true c e = clash (sym e)
or-false false false c e = e

row-blank : (cuts : List ℕ) (w : ℕ) → count_of cuts w ≡ 0 → row_of cuts w ≡ []
row-blank cuts w e = ap (λ (n : ℕ). map (leaf_of cuts w) (below n)) e

-- what a kind needs
module _ (S : Sheet) (L : List Label) (v : ℕ) where
  box-needs : (k : Kind) → is_box k ≡ true → (needs S L k v ≡ (node S v).operands) × (is_logic k ≡ false)
  box-needs input e = clash e
  box-needs logic e = clash e
  box-needs (box lat q) e = (refl, refl)

  logic-needs : (k : Kind) → is_logic k ≡ true → needs S L k v ≡ chosen_cut S L v
  logic-needs input e = clash e
  logic-needs logic e = refl
  logic-needs (box lat q) e = clash e

  input-needs : (k : Kind) → k ≡ input → (needs S L k v ≡ []) × (is_logic k ≡ false)
  input-needs k e = (ap (λ (k : Kind). needs S L k v) e, ap is_logic e)

module _ {S : Sheet} {L : List Label} (v : ℕ) {marks : List Bool} {cuts : List ℕ} (g : CoverFrom S L (v + 1) marks cuts) where
  -- the test of the code is that of the definition
  pub used-is : {graph : List ℕ} → Tabled S graph → v < 256 → used_in graph marks v ≡ used_node S L g.needed v
  used-is {graph} t l =
      ap (λ (b : Bool). b || (is_box (kind_at graph v) || get_or marks v false)) (output-tabled S graph t v l)
      ∙ ap (λ (b : Bool). (node S v).output || (b || get_or marks v false)) (ap is_box (kind-tabled S graph t v l))
      ∙ ap (λ (b : Bool). (node S v).output || (is_box (node S v).kind || b)) (g.marked v l)

  after : (b : Bool) → used_node S L g.needed v ≡ b
      → used_below S L v (cond b (v ∷ needs S L (node S v).kind v ++ g.needed) g.needed) ≡ used S L
  after b e =
      ap (λ (t : Bool). used_below S L v (cond t (v ∷ needs S L (node S v).kind v ++ g.needed) g.needed)) (sym e)
      ∙ ap (λ (n : ℕ). used_below S L n g.needed) (sym (add-one v)) ∙ g.rest

  -- an unused node
  pub cover-idle : used_node S L g.needed v ≡ false → CoverFrom S L v marks cuts
  cover-idle e =
      record {
        needed = g.needed;
        rest = after false e;
        marked = g.marked;
        rows = λ w le m. row w le m (ℕ_discrete w v);
        blank = λ w m. g.blank w (omega arith);
      }
    where
      none : mem v g.needed ≡ false
      none = or-false (node S v).output (is_box (node S v).kind) (mem v g.needed) e

      row : (w : ℕ) → v ≤ w → w < size S → Dec (w ≡ v) → row_of cuts w ≡ leaves_of S L g.needed w
      row w le m (yes q) =
          subst (λ (x : ℕ). row_of cuts x ≡ leaves_of S L g.needed x) (sym q)
          (row-blank cuts v (g.blank v (omega arith)) ∙ sym (ap (λ (b : Bool). cond (b && is_logic (node S v).kind) (chosen_cut S L v) []) none))
      row w le m (no n) = g.rows w (omega (arith, n)) m

  -- a used node, with the row of what it needs
  cover-used : {more : List Bool} {next : List ℕ} (row : List ℕ) → size S ≤ 256 → used_node S L g.needed v ≡ true → needs S L (node S v).kind v ≡ row → All (λ u. u < v) row
      → MarkedAll (v ∷ row) marks more → ((w : ℕ) → w < 256 → (w ≡ v → ⊥) → (count_of next w ≡ count_of cuts w) × (row_of next w ≡ row_of cuts w))
      → row_of next v ≡ cond (is_logic (node S v).kind) (chosen_cut S L v) [] → v < 256 → CoverFrom S L v more next
  cover-used {more} {next} row small e n low m same own l =
      record {
        needed = v ∷ row ++ g.needed;
        rest = ap (λ (r : List ℕ). used_below S L v (v ∷ r ++ g.needed)) (sym n) ∙ after true e;
        marked = λ u h.
            m.each u h ∙ ap (λ (x : Bool). mem u (v ∷ row) || x) (g.marked u h) ∙ sym (mem-append u (v ∷ row) g.needed);
        rows = λ w le h. at_row w le h (ℕ_discrete w v);
        blank = λ w h. (same w (omega arith) (λ q. omega arith)).0 ∙ g.blank w (omega arith);
      }
    where
      absent : (w : ℕ) → v < w → (b : Bool) → mem w (v ∷ row) ≡ b → b ≡ false
      absent w h false q = refl
      absent w h true q = absurd (past (mem-out w (v ∷ row) q))
        where
          past : Memᴰ w (v ∷ row) → ⊥
          past k = omega (arith, All-at (λ u. u ≤ v) (v ∷ row) (omega arith, All-map (λ u (z : u < v). omega arith) row low) k)

      at_row : (w : ℕ) → v ≤ w → w < size S → Dec (w ≡ v) → row_of next w ≡ leaves_of S L (v ∷ row ++ g.needed) w
      at_row w le h (yes q) =
          subst (λ (x : ℕ). row_of next x ≡ leaves_of S L (v ∷ row ++ g.needed) x) (sym q)
          (own ∙ sym (ap (λ (b : Bool). cond ((b || mem v (row ++ g.needed)) && is_logic (node S v).kind) (chosen_cut S L v) []) (eq-eqb v v refl)))
      at_row w le h (no k) =
          let past : v < w = omega (arith, k) in
          (same w (omega arith) k).1 ∙ g.rows w (omega arith) h
          ∙ sym (ap (λ (b : Bool). cond (b && is_logic (node S w).kind) (chosen_cut S L w) [])
          (mem-append w (v ∷ row) g.needed ∙ ap (λ (b : Bool). b || mem w g.needed) (absent w past (mem w (v ∷ row)) refl)))

module _ {S : Sheet} {graph steps levels : List ℕ} {limits : R.Header} (laid : Laid S graph steps levels limits) where
  abbrev L : List Label
  L = labels_in (size S) steps levels

  small : size S ≤ 256
  small = laid.given.well.size.most

  module _ {v : ℕ} (l : v < size S) {marks : List Bool} {cuts : List ℕ} (g : CoverFrom S L (v + 1) marks cuts) {t : Bool} (e : t ≡ used_in graph marks v) where
    low : v < 256
    low = omega (arith, small)

    kind : kind_at graph v ≡ (node S v).kind
    kind = kind-tabled S graph laid.given.tabled v low

    test : t ≡ used_node S L g.needed v
    test = e ∙ used-is v g laid.given.tabled low

    pub turn-idle : t ≡ false → CoverFrom S L v marks cuts
    turn-idle q = cover-idle v g (sym test ∙ q)

    module _ (q : t ≡ true) (rows : Rows 256 marks cuts) where
      pub turn-input : {more : List Bool} → input ≡ kind_at graph v → MarkedAll (v ∷ []) marks more → CoverFrom S L v more cuts
      turn-input a own =
          let n = input-needs S L v (node S v).kind (sym (a ∙ kind)) in
          cover-used v g [] small (sym test ∙ q) n.0 tt own (λ w h k. (refl, refl))
          (row-blank cuts v (g.blank v (omega arith)) ∙ sym (ap (λ (b : Bool). cond b (chosen_cut S L v) []) n.1)) low

      pub turn-box : {mid more : List Bool} → is_box (kind_at graph v) ≡ true → MarkedAll (v ∷ []) marks mid → MarkedAll (operands_of graph v) mid more
          → CoverFrom S L v more cuts
      turn-box {mid} {more} a own m =
          let n = box-needs S L v (node S v).kind (sym (ap is_box kind) ∙ a) in
          let t = laid.given.tabled in
          let count = t.counts v low in
          let is = over-is (operand_in graph v) (count_in graph v) (node S v).operands count (λ j h. t.operands v j low (omega arith)) in
          cover-used v g (node S v).operands small (sym test ∙ q) n.0 (operands-below S laid.given.well v)
          (marked_append own (subst (λ (r : List ℕ). MarkedAll r mid more) is m)) (λ w h k. (refl, refl))
          (row-blank cuts v (g.blank v (omega arith)) ∙ sym (ap (λ (b : Bool). cond b (chosen_cut S L v) []) n.1)) low

      pub kind-logic : is_logic (kind_at graph v) ≡ true → logic_node S v ≡ true
      kind-logic a = sym (ap is_logic kind) ∙ a

      pub turn-logic : {mid more : List Bool} {next : List ℕ} → is_logic (kind_at graph v) ≡ true → Written v cuts next → row_of next v ≡ chosen_cut S L v → MarkedAll (v ∷ []) marks mid
          → MarkedAll (row_of next v) mid more → CoverFrom S L v more next
      turn-logic {mid} {more} {next} a w is own m =
          let i = kind-logic a in
          cover-used v g (chosen_cut S L v) small (sym test ∙ q) (logic-needs S L v (node S v).kind i) (chosen-low laid v l i)
          (marked_append own (subst (λ (r : List ℕ). MarkedAll r mid more) is m))
          (λ u h k. (count-beside v cuts next w.beside u k, row-beside v cuts next w.beside u k (rows.few u h)))
          (is ∙ sym (ap (λ (b : Bool). cond b (chosen_cut S L v) []) i)) low

  -- before the first turn, and after the last
  pub cover-none : {marks : List Bool} {cuts : List ℕ} {n : ℕ} → n ≡ size S → ((u : ℕ) → u < 256 → get_or marks u false ≡ false) → ((i : ℕ) → i < 2048 → get_or cuts i 0 ≡ 0) → CoverFrom S L n marks cuts
  cover-none {marks} {cuts} {n} e m c =
      record {
        needed = [];
        rest = ap (λ (k : ℕ). used_below S L k []) e;
        marked = m;
        rows = λ w le h. absurd (omega arith);
        blank = λ w h. count-blank cuts c w (omega (arith, small));
      }

  pub cover-done : {marks : List Bool} {cuts : List ℕ} → CoverFrom S L 0 marks cuts → Covered S L marks cuts
  cover-done g =
      record {
        marked = λ v l. g.marked v (omega (arith, small)) ∙ ap (λ (us : List ℕ). mem v us) g.rest;
        rows = λ v l. g.rows v (omega arith) l ∙ ap (λ (us : List ℕ). leaves_of S L us v) g.rest;
      }

pub rows_none : {marks : List Bool} {cuts : List ℕ} → length marks ≡ 256 → length cuts ≡ 2048 → ((i : ℕ) → i < 2048 → get_or cuts i 0 ≡ 0)
    → Rows 256 marks cuts
rows_none {marks} {cuts} a b c =
    record {
      marks-wide = a;
      cuts-wide = b;
      few = λ v l. let z = count-blank cuts c v l in omega arith;
      ids = λ v l. subst (All (λ u. u < 256)) (sym (row-blank cuts v (count-blank cuts c v l))) tt;
    }
