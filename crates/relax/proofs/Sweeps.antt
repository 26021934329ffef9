-- The sweep over the nodes, ids falling, a node at a time; and that it moves a step wherever a heeded difference fails.
use Prim.Native.Nat.{ℕ, ◌+◌, ◌≤◌, ◌<◌}
use mathlib.Core.Path.{◌≡◌, sym, subst, ap}
use mathlib.Core.List.{Memᴰ}
use mathlib.Core.Logic.{◌⊎◌, inl, inr}
use native.Mathlib.Omega.{arith}
use Rattle.maps.specs.Label.{Label, ◌≼◌}
use Rattle.maps.specs.Sheet.{Sheet, Difference, node, size}
use Rattle.maps.proofs.Order.{≼_refl, ≼_trans}
use Rattle.maps.proofs.Over.{last_or, total-less}
use Rattle.relax.specs.Guard.{Raised}
use Rattle.relax.specs.Settle.{Pass}
use Rattle.relax.specs.Sweep.{Pushes, Sweeping}
use Rattle.relax.proofs.Closed.{Closed, inside}
use Rattle.relax.proofs.Guard.{raised-each, raise}
use Rattle.relax.proofs.Passes.{steps_of}

module _ (S : Sheet) (closed : Closed S) {bound : ℕ → ℕ} (heeded : ℕ → Type 0) (L : ℕ → Label) where
  pub sweep-none : Pass S bound L 0 → Sweeping S bound heeded L (size S) L
  sweep-none p =
      record { pass = p; grows = λ u l. ≼_refl; heeds = λ d m h k. absurd (omega (arith, (inside S closed d m).1)) }

  -- Node k pushed: on to the one below it. It is raised to a forced label, so the labels stay guarded, and no label falls, so what the nodes above
  -- it have reached is not lost. The sources of the differences into k are at this moment nowhere before where they stood in L.
  module _ (k : ℕ) (C : ℕ → Label) (l : k < size S) (w : Sweeping S bound heeded L (k + 1) C) (b : Label) (p : Pushes S heeded C k b)
      (R : ℕ → Label) (r : Raised S C k b R) where
    rises : (u : ℕ) → u < size S → C u ≼ R u
    rises = raised-each S C R k b r (λ u a. C u ≼ a) p.up (λ u m. ≼_refl)

    heeds : (d : Difference) → Memᴰ d S.differences → heeded d.to → (k < d.to) ⊎ (k ≡ d.to) → (L d.from).step + d.plus ≤ (R d.to).step + d.minus
    heeds d m h (inl a) = omega (arith, w.heeds d m h (omega arith), (rises d.to (inside S closed d m).1).steps)
    heeds d m h (inr e) =
        omega (
          arith,
          p.into (subst heeded (sym e) h) d m (sym e),
          (w.grows d.from (inside S closed d m).0).steps,
          ap (λ (a : Label). a.step) r.here,
          ap (λ (u : ℕ). (R u).step) e,
        )

    pub sweep-on : Sweeping S bound heeded L k R
    sweep-on =
        record {
          pass = record {
            guarded = raise S bound C w.pass.guarded k b p.up p.forced R r;
            from = λ u m. omega (arith, w.pass.from u m, (rises u m).steps);
            low = raised-each S C R k b r (λ u a. (node S u).delay ≤ a.level) p.low w.pass.low;
            high = raised-each S C R k b r (λ u a. a.level ≤ S.top) p.high w.pass.high;
            done = λ v a m. absurd (omega arith);
          };
          grows = λ u m. ≼_trans (w.grows u m) (rises u m);
          heeds = λ d m h a. heeds d m h (last_or k d.to (omega arith));
        }

  -- Why the rounds end. A round that is not the last leaves a heeded difference that fails: its target stands before where its source asks it to
  -- be. The sweep puts the target there, and no label falls, so the sum of all steps is greater after the sweep than before. That sum is bounded:
  -- by the horizon, and while every node is held by the sheet's size and weights alone.
  pub sweep-moves : (R : ℕ → Label) → Sweeping S bound heeded L 0 R → (d : Difference) → Memᴰ d S.differences → heeded d.to
      → (L d.to).step + d.minus < (L d.from).step + d.plus → steps_of S L < steps_of S R
  sweep-moves R w d m h fails =
      total-less (λ v. (L v).step) (λ v. (R v).step) (size S) d.to (inside S closed d m).1 (λ u l. (w.grows u l).steps)
      (omega (arith, w.heeds d m h (omega arith)))
