-- A node's push, and the pushes of a sweep: a node stays where it is, or gets its delay in a later step that the differences into it ask for.
use Prim.Native.Nat.{ℕ, ◌+◌, ◌≤◌, ◌<◌}
use mathlib.Core.Path.{◌≡◌, refl, sym, subst}
use mathlib.Core.Bool.{Bool, true, false}
use mathlib.Core.List.{List}
use native.Mathlib.Omega.{arith}
use lib.ListN.{get_or, set}
use Rattle.maps.specs.Label.{Label, label}
use Rattle.maps.specs.Sheet.{Sheet, node, size}
use Rattle.maps.proofs.Order.{≼_refl}
use Rattle.maps.proofs.Planned.{delays}
use Rattle.rows.specs.Table.{delay_in}
use Rattle.rows.specs.declared.Header as R
use Rattle.relax.specs.Guard.{Raised}
use Rattle.relax.specs.Sweep.{Pushes, Sweeping}
use Rattle.relax.proofs.Closed.{Closed, well-closed}
use Rattle.relax.proofs.Forced.{step-forced, forced-own}
use Rattle.relax.proofs.Sweeps.{sweep-on}
use Rattle.bound.specs.Lookup.{label_in, Heeded}
use Rattle.bound.specs.Bound.{Greatest, Into, push_of, LabelPlaced}
use Rattle.bound.specs.Going.{Timed}
use Rattle.bound.proofs.Safety.{node_in, delay-is}
use Rattle.bound.proofs.Bounds.{push-forced, push-heeds}
use Rattle.bound.proofs.Placing.{forced-late, placed-timed, placed-raised}
use Rattle.sweep.specs.Sweep.{Sweepable, PushEnds}

module _ {S : Sheet} {graph differences : List ℕ} {limits : R.Header} {first next steps levels : List ℕ} {bound : ℕ → ℕ}
    (on : Sweepable S bound graph differences limits first next steps levels) (v : ℕ) (l : v < limits.nodes) where
  inside : v < size S
  inside = (node_in on.given v l).0

  closed : Closed S
  closed = well-closed S on.given.well

  -- s is what the heeded differences into v ask of its step
  module _ (s : ℕ) (diffs : Greatest (get_or steps v 0) (Into differences first limits.differences v) (push_of differences steps) s) where
    -- not more than its own
    pub push-none : s ≤ get_or steps v 0 → PushEnds S bound limits.horizon first steps levels steps levels v true
    push-none h = (
      on.timed,
      label_in steps levels v,
      record {
        up = ≼_refl;
        forced = forced-own S closed (label_in steps levels) v inside;
        low = on.pass.low v inside;
        high = on.pass.high v inside;
        into = λ q d m e.
            omega (arith, push-heeds S graph differences limits on.given steps levels on.timed v inside first (get_or steps v 0) s diffs q d m e);
      },
      record { here = refl; there = λ u k n. refl },
    )

    -- a later one
    pushes : get_or steps v 0 < s → Pushes S (Heeded first) (label_in steps levels) v (label s (node S v).delay)
    pushes h =
        record {
          up = record { steps = omega arith; levels = λ e. absurd (omega arith) };
          forced = step-forced S closed (label_in steps levels) v inside s
              (push-forced S graph differences limits on.given steps levels on.timed v inside first (get_or steps v 0) s diffs refl);
          low = omega arith;
          high = delays S on.given.well v;
          into = push-heeds S graph differences limits on.given steps levels on.timed v inside first (get_or steps v 0) s diffs;
        }

    pub push-placed : get_or steps v 0 < s → (b : Label) → b ≡ label s (delay_in graph v) → (steps' levels' : List ℕ) (r : Bool)
        → LabelPlaced graph steps levels steps' levels' v b limits.horizon r → PushEnds S bound limits.horizon first steps levels steps' levels' v r
    push-placed h b e steps' levels' r = go r
      where
        p : Pushes S (Heeded first) (label_in steps levels) v b
        p =
            subst (Pushes S (Heeded first) (label_in steps levels) v) (sym e)
            (subst (λ (d : ℕ). Pushes S (Heeded first) (label_in steps levels) v (label s d)) (sym (delay-is on.given v l)) (pushes h))

        Held : List ℕ → List ℕ → Type 0
        Held x y = Timed S limits.horizon x y × (a : Label) × Pushes S (Heeded first) (label_in steps levels) v a × Raised S (label_in steps levels) v a (label_in x y)

        go : (r : Bool) → LabelPlaced graph steps levels steps' levels' v b limits.horizon r → PushEnds S bound limits.horizon first steps levels steps' levels' v r
        go true w =
            subst (λ (x : List ℕ). Held x levels') (sym w.1)
            (subst (Held (set steps v b.step)) (sym w.2)
            (placed-timed on.given steps levels v l b on.timed w.0, b, p, placed-raised on.given steps levels v l b on.timed))
        go false w = forced-late on.given steps levels v l b on.pass.guarded p.forced w.0

-- in the midst of a sweep from the labels L on
module _ {S : Sheet} {graph differences : List ℕ} {limits : R.Header} {first next steps₀ levels₀ steps levels : List ℕ} {bound : ℕ → ℕ}
    (from : Sweepable S bound graph differences limits first next steps₀ levels₀) (k : ℕ) (timed : Timed S limits.horizon steps levels)
    (w : Sweeping S bound (Heeded first) (label_in steps₀ levels₀) k (label_in steps levels)) where
  pub swept-sweepable : Sweepable S bound graph differences limits first next steps levels
  swept-sweepable = record { given = from.given; heeding = from.heeding; timed = timed; pass = w.pass }

  -- one node more
  pub sweep-turn : (v : ℕ) → k ≡ v + 1 → v < limits.nodes → (steps' levels' : List ℕ) → PushEnds S bound limits.horizon first steps levels steps' levels' v true
      → Timed S limits.horizon steps' levels' × Sweeping S bound (Heeded first) (label_in steps₀ levels₀) v (label_in steps' levels')
  sweep-turn v e l steps' levels' p = (
    p.0,
    sweep-on S (well-closed S from.given.well) (Heeded first) (label_in steps₀ levels₀) v (label_in steps levels) (node_in from.given v l).0
        (subst (λ (i : ℕ). Sweeping S bound (Heeded first) (label_in steps₀ levels₀) i (label_in steps levels)) e w) p.1 p.2 (label_in steps' levels') p.3,
  )
