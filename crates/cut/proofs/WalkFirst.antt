-- The cone of v with only those nodes inside that must be: where its leaves may all be leaves, its cut is an allowed one.
use Prim.Native.Nat.{ℕ, zero, suc, ◌≤◌, ◌<◌}
use mathlib.Core.Path.{◌≡◌, refl, sym, subst, ap, ◌∙◌}
use mathlib.Core.Bool.{Bool, true, false, not, ◌&&◌}
use mathlib.Core.List.{List, Memᴰ}
use native.Mathlib.Omega.{arith}
use lib.Dec.{ltb}
use lib.ListN.{length, get_or, take, replicate}
use lib.Seq.{get_or-take}
use borrow.Author.Tests.{ltb-true, ltb-false}
use Rattle.maps.specs.Lists.{below}
use Rattle.maps.specs.Sheet.{Sheet, size}
use Rattle.maps.specs.Cut.{reads, logic_node, leaf, cut}
use Rattle.maps.proofs.Over.{and-true}
use Rattle.maps.proofs.Member.{All-of, All-ids, All-get, any_found, keep_out}
use Rattle.maps.proofs.Planned.{ordered}
use Rattle.maps.proofs.Enumerate.{clash, path-le}
use Rattle.cone.specs.Walk.{marked, Question, FitTest}
use Rattle.cut.specs.Question.{AllowedCut, code_for, Asked}
use Rattle.cut.specs.Quick.{inside_mark, InsideMarked, AllLeaves}
use Rattle.flow.specs.declared.Code.{Code}
use Rattle.flow.specs.declared.Code.TheVariants.{Inner, Either, Outer, Barred}

-- where nothing is marked
pub none_marked : (n i : ℕ) → get_or (replicate n false) i false ≡ false
none_marked zero i = refl
none_marked (suc n) zero = refl
none_marked (suc n) (suc i) = none_marked n i

-- a node is marked exactly where it must be inside
mark_code : (c : Code) → inside_mark c ≡ true → c ≡ Inner
mark_code Inner e = refl
mark_code Either e = clash e
mark_code Outer e = clash e
mark_code Barred e = clash e

code-mark : (c : Code) → inside_mark c ≡ false → c ≡ Inner → ⊥
code-mark c e q = clash (sym e ∙ ap inside_mark q)

must-logic : (l m : Bool) → code_for l m ≡ Inner → l ≡ true
must-logic true m e = refl
must-logic false true e = (cc)
must-logic false false e = (cc)

may-leaf : (l m : Bool) → (code_for l m ≡ Inner → ⊥) → (code_for l m ≡ Barred → ⊥) → m ≡ true
may-leaf true true a b = refl
may-leaf false true a b = refl
may-leaf true false a b = absurd (a refl)
may-leaf false false a b = absurd (b refl)

module _ (S : Sheet) (may : ℕ → Bool) (v : ℕ) (graph : List ℕ) (code : List Code) (marks : List Bool) (asked : Asked S may v graph code) (inside : InsideMarked code marks v) where
  -- a marked node is below v and must be inside
  inner : (u : ℕ) → marked marks u ≡ true → (u < v) × (get_or code u Inner ≡ Inner)
  inner u e = go (ltb u v) refl
    where
      go : (b : Bool) → ltb u v ≡ b → (u < v) × (get_or code u Inner ≡ Inner)
      go true q = (ltb-true u v q, mark_code (get_or code u Inner) (sym (inside.below u (ltb-true u v q)) ∙ e))
      go false q = clash (sym (inside.past u (ltb-false u v q)) ∙ e)

  -- what the walk is asked
  pub walk-asked : Question S graph marks v
  walk-asked =
      record {
        tabled = asked.tabled;
        within = asked.node;
        logic = asked.logic;
        logics = λ u e. let i = inner u e in must-logic (logic_node S u) (may u) (sym (asked.below u i.0) ∙ i.1);
      }

  module _ (k r : ℕ) (list : List ℕ) (fit : FitTest S (marked marks) v k r list) (le : r ≤ k) (leaves : AllLeaves code list r) where
    -- a leaf of the cone is below v, and need not be inside
    outer : (u : ℕ) → Memᴰ u (cut S fit.cone) → (u < v) × (marked marks u ≡ false)
    unfolding cut
    outer u m =
        let kept = keep_out (leaf S fit.cone) (below (size S)) m in
        let both = and-true _ _ kept.1 in
        let found = any_found (λ w. fit.cone w && reads S w u) (below (size S)) both.0 in
        let reader = and-true (fit.cone found.0) (reads S found.0 u) found.2 in
        let falls = ordered S asked.well found.0 u reader.1 in
        let top = path-le S (ordered S asked.well) v fit.cone fit.is_cone.is_cone (fit.is_cone.is_cone.joined found.0 reader.0) in
        (omega arith, unmarked (marked marks u) refl found.0 reader.0 reader.1 both.1)
      where
        unmarked : (b : Bool) → marked marks u ≡ b → (w : ℕ) → fit.cone w ≡ true → reads S w u ≡ true → not (fit.cone u) ≡ true → marked marks u ≡ false
        unmarked false e w c q n = e
        unmarked true e w c q n = clash (ap not (sym (fit.is_cone.whole w u c q e)) ∙ n)

    pub walk-allowed : AllowedCut S may v (take r list)
    walk-allowed =
        record {
          cone = fit.cone;
          is_cone = fit.is_cone.is_cone;
          is_cut = same;
          allowed = All-ids (λ u. may u ≡ true) 0 (take r list) each;
        }
      where
        same : take r list ≡ cut S fit.cone
        same = fit.leaves le

        each : (j : ℕ) → j < length (take r list) → may (get_or (take r list) j 0) ≡ true
        each j l =
            let n : length (take r list) ≡ length (cut S fit.cone) = ap length same in
            let few : j < r = omega (arith, fit.count) in
            let o = All-get (λ u. (u < v) × (marked marks u ≡ false)) 0 (cut S fit.cone) (All-of _ (cut S fit.cone) outer) j (omega arith) in
            let here : get_or (cut S fit.cone) j 0 ≡ get_or (take r list) j 0 = ap (λ (xs : List ℕ). get_or xs j 0) (sym same) in
            let p = subst (λ (u : ℕ). (u < v) × (marked marks u ≡ false)) here o in
            let e = asked.below (get_or (take r list) j 0) p.0 in
            may-leaf (logic_node S (get_or (take r list) j 0)) (may (get_or (take r list) j 0))
            (λ q. code-mark (get_or code (get_or (take r list) j 0) Inner)
            (sym (inside.below (get_or (take r list) j 0) p.0) ∙ p.1) (e ∙ q))
            (λ q. leaves.leafy j few (ap (λ (u : ℕ). get_or code u Inner) (sym (get_or-take r list j 0 few)) ∙ e ∙ q))
