-- How the rounds begin: with the first labels, or with labels that were found, under more conditions.
use Prim.Native.Nat.{ℕ, ◌<◌}
use mathlib.Core.Path.{◌≡◌, ap, ◌∙◌}
use mathlib.Core.List.{List}
use native.Mathlib.Nat.{not-suc-le-zero}
use native.Mathlib.Omega.{arith}
use lib.ListN.{length, get_or, replicate, length-replicate}
use Rattle.maps.specs.Label.{Label}
use Rattle.maps.specs.Sheet.{Sheet, size}
use Rattle.maps.proofs.Member.{zeros-at}
use Rattle.maps.proofs.Fix.{label-path}
use Rattle.maps.proofs.Planned.{delays}
use Rattle.rows.specs.declared.Header as R
use Rattle.relax.specs.Guard.{unbounded, LeastFrom, AsksMore, bound_label}
use Rattle.relax.specs.Settle.{Pass}
use Rattle.relax.proofs.Closed.{Closed}
use Rattle.relax.proofs.Passes.{pass-start, pass-more}
use Rattle.relax.proofs.Meet.{least-pass}
use Rattle.bound.specs.Lookup.{label_in}
use Rattle.bound.specs.Going.{Given, AllKept, Timed}
use Rattle.bound.proofs.Safety.{latency-is, delay-is}
use Rattle.schedule.specs.Round.{First, Resumable}

-- the first labels, before any node
pub first-none : {graph steps levels : List ℕ} {horizon : ℕ} → steps ≡ replicate 256 0 → levels ≡ replicate 256 0 → First graph steps levels 0 horizon
first-none e f =
    record {
      steps-wide = ap length e ∙ length-replicate {A = ℕ} 256 0;
      levels-wide = ap length f ∙ length-replicate {A = ℕ} 256 0;
      steps-zero = λ v. ap (λ (l : List ℕ). get_or l v 0) e ∙ zeros-at 256 v;
      levels-delay = λ v h. absurd (not-suc-le-zero h);
      ends = λ v h. absurd (not-suc-le-zero h);
    }

module _ {S : Sheet} {graph differences : List ℕ} {limits : R.Header} (g : Given S graph differences limits) where
  first-timed : {steps levels : List ℕ} → First graph steps levels limits.nodes limits.horizon → Timed S limits.horizon steps levels
  first-timed f =
      record {
        steps-wide = f.steps-wide;
        levels-wide = f.levels-wide;
        ends = λ v l.
            let k : v < limits.nodes = omega (arith, g.nodes) in
            omega (arith, f.steps-zero v, f.ends v k, latency-is g v k);
      }

  first-pass : {steps levels : List ℕ} → First graph steps levels limits.nodes limits.horizon → Pass S unbounded (label_in steps levels) 0
  first-pass {steps} {levels} f =
      pass-start S (delays S g.well) unbounded (label_in steps levels) (λ v l.
      let k : v < limits.nodes = omega (arith, g.nodes) in label-path (f.steps-zero v) (f.levels-delay v k ∙ delay-is g v k))

  pub first-resumable : {kept steps levels : List ℕ} → AllKept S kept → First graph steps levels limits.nodes limits.horizon
      → Resumable S unbounded graph differences limits kept steps levels
  first-resumable kept f = record { given = g; all_kept = kept; timed = first-timed f; pass = first-pass f }

-- Labels that were found are a start under more conditions, each node at its label or, where that is later, at its new lower bound. They are the least
-- labels of S that heed the bounds, so they are guarded (`least-pass`); so they are of S' under higher bounds (`guarded-more`). The tables are those
-- of S', and the labels must still be in time there: where a bound puts one past the horizon nothing is legal (`bound-late`).
pub found-resumable : {S S' : Sheet} {bound higher : ℕ → ℕ} → AsksMore S bound S' higher → Closed S → (G : ℕ) (L : ℕ → Label) → LeastFrom S bound G L
    → {graph differences : List ℕ} {limits : R.Header} → Given S' graph differences limits → (kept steps levels : List ℕ) → AllKept S' kept
    → Timed S' limits.horizon steps levels → ((v : ℕ) → v < size S → label_in steps levels v ≡ bound_label S' higher L v)
    → Resumable S' higher graph differences limits kept steps levels
found-resumable {S} {S'} {bound} {higher} more closed G L h g kept steps levels all timed e =
    record {
      given = g;
      all_kept = all;
      timed = timed;
      pass = pass-more more (delays S' g.well) L (size S) (least-pass S closed bound G L h) (label_in steps levels) e;
    }
