-- Which logic nodes have a fitting cut, and the lowest that has none.
use Prim.Native.Nat.{ℕ, zero, suc, ◌+◌, ◌≤◌, ◌<◌}
use mathlib.Core.Path.{◌≡◌, refl, sym, ap, ◌∙◌}
use mathlib.Core.Bool.{Bool, true, false, ◌&&◌}
use mathlib.Core.List.Memᴰ
use mathlib.Core.List.{List, [], ◌∷◌, ◌++◌, Memᴰ}
use mathlib.Core.Logic.{◌⊎◌, inl, inr}
use native.Mathlib.Omega.{arith}
use native.Mathlib.Nat.{not-suc-le-zero}
use lib.Dec.{eqb}
use lib.ListN.{length, get_or, replicate, length-replicate, get_or-replicate}
use borrow.Author.Tests.{ne_eqb}
use Rattle.maps.specs.Sheet.{Sheet, node, size, is_logic}
use Rattle.maps.specs.Lists.{keep, below}
use Rattle.maps.specs.Cut.{logic_node, FittingCut, fitting_cuts}
use Rattle.maps.specs.WellFormed.{WellFormed}
use Rattle.maps.proofs.Over.{last_or}
use Rattle.maps.proofs.Member.{everywhere, keep_append}
use Rattle.maps.proofs.Enumerate.{complete, sound}
use Rattle.maps.proofs.Planned.{ordered}
use Rattle.rows.specs.Table.{kind_at, Tabled}
use Rattle.rows.proofs.SheetTables.{kind-tabled}
use Rattle.cut.specs.Question.{code_for, Asked}
use Rattle.rows.specs.Cells.{Ends}
use Rattle.rows.proofs.Cells.{succeeded, failed}
use Rattle.bound.specs.Lookup.{Beside}
use Rattle.bound.specs.Going.{Keeps}
use Rattle.level.specs.Cuts.{TriedCut, FitTest, Lowest}
use Rattle.level.proofs.CutRows.{row-beside}
use Rattle.flow.specs.declared.Code.{Code}
use Rattle.flow.specs.declared.Code.TheVariants.{Inner}

-- ---- the first of the numbers 0, 1, .. that passes a test

keep-none : (p : ℕ → Bool) (n : ℕ) → ((u : ℕ) → u < n → p u ≡ false) → keep p (below n) ≡ []
keep-none p zero h = refl
keep-none p (suc n) h =
    keep_append p (below n) (n ∷ []) ∙ rw (keep-none p n (λ u l. h u (omega arith)), h n (omega arith))

keep-first : (p : ℕ → Bool) (n r : ℕ) → r < n → ((u : ℕ) → u < r → p u ≡ false) → p r ≡ true → (vs : List ℕ) × (keep p (below n) ≡ r ∷ vs)
keep-first p zero r l h e = absurd (not-suc-le-zero l)
keep-first p (suc n) r l h e = go (λ m. keep-first p n r m h e) (last_or r n l)
  where
    last : r ≡ n → keep p (below n) ++ keep p (n ∷ []) ≡ r ∷ []
    last q = rw (keep-none p n (λ u m. h u (omega arith)), sym (ap p q) ∙ e) (ap (λ (x : ℕ). x ∷ []) (sym q))

    go : (r < n → (vs : List ℕ) × (keep p (below n) ≡ r ∷ vs)) → (r < n) ⊎ (r ≡ n) → (vs : List ℕ) × (keep p (below n ++ (n ∷ [])) ≡ r ∷ vs)
    go rec (inl m) =
        let k : (vs : List ℕ) × (keep p (below n) ≡ r ∷ vs) = rec m in
        (k.0 ++ keep p (n ∷ []), keep_append p (below n) (n ∷ []) ∙ ap (λ (l : List ℕ). l ++ keep p (n ∷ [])) k.1)
    go rec (inr q) = ([], keep_append p (below n) (n ∷ []) ∙ last q)

-- ---- one node

-- the open codes below u are written
pub record OpenTo (graph : List ℕ) (code : List Code) (v u : ℕ) : Type 0 where
  pub wide : length code ≡ 256
  pub codes : (i : ℕ) → i < u → get_or code i Inner ≡ code_for (is_logic (kind_at graph i)) true
  pub own : get_or code v Inner ≡ Inner

pub open_none : (graph : List ℕ) (v : ℕ) → v < 256 → OpenTo graph (replicate 256 Inner) v 0
open_none graph v l =
    record { wide = length-replicate {A = Code} 256 Inner; codes = λ i m. absurd (not-suc-le-zero m); own = get_or-replicate {A = Code} 256 v Inner Inner l }

-- under open codes every fitting cut is allowed
pub fit-tried : (S : Sheet) (graph : List ℕ) (code : List Code) (v k : ℕ) (kept : List ℕ) (r : Bool) → v < 256 → is_logic (kind_at graph v) ≡ true
    → ((u : ℕ) → u < v → get_or code u Inner ≡ code_for (is_logic (kind_at graph u)) true) → get_or code v Inner ≡ Inner
    → ((S : Sheet) (may : ℕ → Bool) → Asked S may v graph code → TriedCut S may v k kept r) → FitTest S graph v k kept r
fit-tried S graph code v k kept r l one below own tried =
    record { test = λ well tabled lt e. go well e (asked well tabled lt) r (tried S (λ u. true) (asked well tabled lt)) }
  where
    asked : WellFormed S → Tabled S graph → v < size S → Asked S (λ u. true) v graph code
    asked well tabled lt =
        record {
          well = well;
          tabled = tabled;
          node = lt;
          logic = sym (ap is_logic (kind-tabled S graph tabled v l)) ∙ one;
          below = λ u m. below u m ∙ ap (λ (b : Bool). code_for b true) (ap is_logic (kind-tabled S graph tabled u (omega arith)));
          own = own;
        }

    go : WellFormed S → k ≡ S.leaves → Asked S (λ u. true) v graph code → (r : Bool) → TriedCut S (λ u. true) v k kept r
        → Ends r (logic_node S v ≡ true → Keeps S kept v) ((logic_node S v ≡ true) × ((c : List ℕ) → FittingCut S v c → ⊥))
    go well e a true t = λ _.
        record {
          leaves = t.0;
          fitting = record { cone = t.1.cone; is_cone = t.1.is_cone; is_cut = t.1.is_cut; fits = let few = t.2 in omega arith };
          row = t.3;
        }
    go well e a false t =
        (a.logic, λ c f. t c (record { cone = f.cone; is_cone = f.is_cone; is_cut = f.is_cut; allowed = everywhere (λ u. refl) c }) (let few = f.fits in omega arith))

-- the test of ground 6
abbrev lacks : Sheet → ℕ → Bool
lacks S v = is_logic (node S v).kind && eqb (length (fitting_cuts S v)) 0

has : (S : Sheet) (kept : List ℕ) (v : ℕ) → WellFormed S → (logic_node S v ≡ true → Keeps S kept v) → lacks S v ≡ false
has S kept v well h = go (logic_node S v) refl
  where
    some : (cs : List (List ℕ)) {c : List ℕ} → Memᴰ c cs → eqb (length cs) 0 ≡ false
    some [] m = absurd (Memᴰ.not-nil m)
    some (x ∷ xs) m = ne_eqb (length (x ∷ xs)) 0 (λ e. omega arith)

    go : (b : Bool) → logic_node S v ≡ b → (b && eqb (length (fitting_cuts S v)) 0) ≡ false
    go true e =
        let f = (h e).fitting in
        let m = ap length f.is_cut in
        let few = f.fits in
        some (fitting_cuts S v) (complete S (ordered S well) v f.cone f.is_cone (omega arith))
    go false e = refl

has-none : (S : Sheet) (v : ℕ) → logic_node S v ≡ true → ((c : List ℕ) → FittingCut S v c → ⊥) → lacks S v ≡ true
has-none S v e h = rw e (go (fitting_cuts S v) (λ c m. m))
  where
    go : (cs : List (List ℕ)) → ((c : List ℕ) → Memᴰ c cs → Memᴰ c (fitting_cuts S v)) → eqb (length cs) 0 ≡ true
    go [] i = refl
    go (x ∷ xs) i =
        let k = sound S v e x (i x (Memᴰ.head refl)) in
        absurd (h x (record { cone = k.0; is_cone = k.1; is_cut = k.3; fits = k.2 }))

-- ---- the nodes in turn

-- a fitting cut of each logic node below v is kept
pub record KeptTo (S : Sheet) (graph : List ℕ) (n k : ℕ) (kept : List ℕ) (v : ℕ) : Type 0 where
  pub upto : WellFormed S → Tabled S graph → n ≡ size S → k ≡ S.leaves → (u : ℕ) → u < v → logic_node S u ≡ true → Keeps S kept u

keeps-beside : (S : Sheet) (kept more : List ℕ) (u v : ℕ) → WellFormed S → u < v → Beside v kept more → Keeps S kept u → Keeps S more u
keeps-beside S kept more u v well l b h =
    record {
      leaves = h.leaves;
      fitting = h.fitting;
      row = row-beside kept more u v h.leaves l (let few = h.fitting.fits in let most = well.leaves.most in omega arith) b h.row;
    }

pub kept_more : (S : Sheet) (graph : List ℕ) (n k : ℕ) (kept more : List ℕ) (v : ℕ) (r : Bool) → r ≡ true → v < n → Beside v kept more
    → FitTest S graph v k more r → KeptTo S graph n k kept v → KeptTo S graph n k more (v + 1)
kept_more S graph n k kept more v r was l b f h =
    record {
      upto = λ well tabled e q u m.
          go well (h.upto well tabled e q) (succeeded _ _ r was (f.test well tabled (omega arith) q)) u (last_or u v (omega arith));
    }
  where
    go : WellFormed S → ((u : ℕ) → u < v → logic_node S u ≡ true → Keeps S kept u) → (logic_node S v ≡ true → Keeps S more v)
        → (u : ℕ) → (u < v) ⊎ (u ≡ v) → logic_node S u ≡ true → Keeps S more u
    go well low own u (inl m) e = keeps-beside S kept more u v well m b (low u m e)
    go well low own u (inr q) e = rw q (own (sym (ap (logic_node S) q) ∙ e))

pub lowest-found : (S : Sheet) (graph : List ℕ) (n k : ℕ) (kept more : List ℕ) (v : ℕ) (r : Bool) → r ≡ false → v < n
    → FitTest S graph v k more r → KeptTo S graph n k kept v → Lowest S graph n k more v
lowest-found S graph n k kept more v r was l f h =
    record {
      most = omega arith;
      some = λ well tabled e q m.
          let t = failed _ _ r was (f.test well tabled (omega arith) q) in
          keep-first (lacks S) (size S) v (omega arith) (λ u b. has S kept u well (h.upto well tabled e q u b)) (has-none S v t.0 t.1);
      none = λ well tabled e q m. absurd (omega arith);
    }

pub lowest-none : (S : Sheet) (graph : List ℕ) (n k : ℕ) (kept : List ℕ) (v : ℕ) → n ≤ v → length kept ≡ 2048
    → KeptTo S graph n k kept v → Lowest S graph n k kept n
lowest-none S graph n k kept v le wide h =
    record {
      most = omega arith;
      some = λ well tabled e q m. absurd (omega arith);
      none = λ well tabled e q m. (
        keep-none (lacks S) (size S) (λ u b. has S kept u well (h.upto well tabled e q u (omega arith))),
        record { wide = wide; keeps = λ u b. h.upto well tabled e q u (omega arith) },
      );
    }
