-- A label written to the two tables: what it changes, and that a forced one that ends after the horizon leaves nothing legal.
use Prim.Native.Nat.{ℕ, ◌+◌, ◌≤◌, ◌<◌}
use mathlib.Core.Path.{◌≡◌, refl, sym, subst, ◌∙◌}
use mathlib.Core.Bool.{Bool, true, false}
use mathlib.Core.List.{List}
use native.Mathlib.Omega.{arith}
use lib.Dec.{eqb}
use lib.ListN.{length, get_or, set, length-set}
use lib.Seq.{get_or-set_same, get_or-set_other}
use borrow.Author.Tests.{eqb-true, eqb-false}
use Rattle.maps.specs.Label.{Label, label}
use Rattle.maps.specs.Sheet.{Sheet, size, latency}
use Rattle.maps.proofs.Fix.{label-path}
use Rattle.rows.specs.declared.Header as R
use Rattle.relax.specs.Guard.{NoneFrom, Guarded, Forced, Raised}
use Rattle.relax.proofs.Guard.{legal-node, legal-diffs, guarded-under}
use Rattle.bound.specs.Lookup.{label_in}
use Rattle.bound.specs.Bound.{end_in}
use Rattle.bound.specs.Going.{Given, Timed}
use Rattle.bound.proofs.Safety.{node_in, latency-is}

-- a write to the two tables of labels
raised-tables : (S : Sheet) (steps levels : List ℕ) (v s l : ℕ) → v < length steps → v < length levels
    → Raised S (label_in steps levels) v (label s l) (label_in (set steps v s) (set levels v l))
raised-tables S steps levels v s l p q =
    record {
      here = label-path (get_or-set_same steps v s 0 p) (get_or-set_same levels v l 0 q);
      there = λ u k n. label-path (get_or-set_other steps v u s 0 n) (get_or-set_other levels v u l 0 n);
    }

module _ {S : Sheet} {graph differences : List ℕ} {limits : R.Header} (g : Given S graph differences limits) (steps levels : List ℕ)
    (v : ℕ) (l : v < limits.nodes) (b : Label) where
  -- a forced label past the horizon
  pub forced-late : {bound : ℕ → ℕ} → Guarded S bound (label_in steps levels) → Forced S (label_in steps levels) v b → limits.horizon < end_in graph v b.step → NoneFrom S bound limits.horizon
  forced-late {bound} guarded f h M legal from =
      let inside = (node_in g v l).0 in
      let up = f.forced M (guarded-under S bound (label_in steps levels) guarded M limits.horizon legal from) (legal-node S M legal v inside) (legal-diffs S M legal v) in
      omega (arith, up.steps, (legal.nodes v inside).ends, latency-is g v l)

  -- one within it
  pub placed-timed : Timed S limits.horizon steps levels → end_in graph v b.step ≤ limits.horizon
      → Timed S limits.horizon (set steps v b.step) (set levels v b.level)
  placed-timed timed h =
      record {
        steps-wide = length-set steps v b.step ∙ timed.steps-wide;
        levels-wide = length-set levels v b.level ∙ timed.levels-wide;
        ends = λ u k. ends u k (eqb u v) refl;
      }
    where
      mine : b.step + latency S v ≤ limits.horizon
      mine = omega (arith, latency-is g v l)

      ends : (u : ℕ) → u < size S → (t : Bool) → eqb u v ≡ t → get_or (set steps v b.step) u 0 + latency S u ≤ limits.horizon
      ends u k true e =
          subst (λ (w : ℕ). get_or (set steps v b.step) w 0 + latency S w ≤ limits.horizon) (sym (eqb-true u v e))
          (omega (arith, get_or-set_same steps v b.step 0 (omega (arith, timed.steps-wide, (node_in g v l).1)), mine))
      ends u k false e = omega (arith, get_or-set_other steps v u b.step 0 (eqb-false u v e), timed.ends u k)

  -- the labels with it
  pub placed-raised : Timed S limits.horizon steps levels → Raised S (label_in steps levels) v b (label_in (set steps v b.step) (set levels v b.level))
  placed-raised timed =
      let w = (node_in g v l).1 in
      raised-tables S steps levels v b.step b.level (omega (arith, timed.steps-wide)) (omega (arith, timed.levels-wide))
