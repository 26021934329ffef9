-- The label of a logic node in its turn: the level at which the span closes, or the next step.
use Prim.Native.Nat.{ℕ, ◌+◌, ◌≤◌, ◌<◌, min}
use mathlib.Core.Path.{◌≡◌, refl, sym, subst, ap, ◌∙◌}
use mathlib.Core.Bool.{Bool, true, false}
use mathlib.Core.List.{List}
use native.Mathlib.Omega.{arith}
use lib.Dec.{ltb}
use lib.ListN.{length, get_or}
use borrow.Author.Tests.{ltb-true, ltb-false}
use Rattle.maps.specs.Label.{Label, label, next_step, ◌≼◌}
use Rattle.maps.specs.Sheet.{Sheet, node}
use Rattle.maps.proofs.Member.{All-ids}
use Rattle.maps.proofs.Fix.{label-path}
use Rattle.maps.proofs.Planned.{delays}
use Rattle.rows.specs.Table.{delay_in}
use Rattle.rows.specs.declared.Header as R
use Rattle.relax.specs.Guard.{Forced}
use Rattle.maps.specs.Legal.{arrives, CutBy}
use Rattle.types.specs.Code.{fitted}
use Rattle.relax.specs.Settle.{Settles, Pass}
use Rattle.relax.proofs.Closed.{well-closed}
use Rattle.relax.proofs.Forced.{fitting-by}
use Rattle.relax.proofs.Passes.{base-forced, base_step, base-level, settles-cut, settles-next}
use Rattle.bound.specs.Lookup.{label_in, arrival_in}
use Rattle.bound.specs.Going.{Keeps, Based}
use Rattle.level.specs.Carry.{Placed, Between}
use Rattle.level.specs.Span.{Levelled}
use Rattle.level.proofs.LevelCodes.{placed-in, arrives_in}
use Rattle.level.proofs.LevelSpan.{placed-kind, kept-below}

-- past the last level of step s: the next step
next-forced : (S : Sheet) (L : ℕ → Label) (v s r : ℕ) → S.top < r → Forced S L v (label s r) → Forced S L v (label (s + 1) (node S v).delay)
next-forced S L v s r l f =
    record {
      forced = λ Q up ok into.
          let h : label s r ≼ Q v = f.forced Q up ok into in
          record { steps = past (Q v) h ok.high (ltb s (Q v).step) refl; levels = λ e. ok.low };
    }
  where
    past : (b : Label) → label s r ≼ b → b.level ≤ S.top → (t : Bool) → ltb s b.step ≡ t → s + 1 ≤ b.step
    past b h m true e = omega (arith, ltb-true s b.step e)
    past b h m false e = absurd (omega (arith, h.levels (ltb-false s b.step e)))

-- s and low are the step and the level of v's base label, and r is the level at which the span from low on closes
module _ {S : Sheet} {graph steps levels kept more : List ℕ} {v : ℕ} {limits : R.Header} {s low r : ℕ} {bound : ℕ → ℕ} (placed : Placed S graph v limits)
    (levelled : Levelled graph steps levels kept more v limits s low r) (keeps : Keeps S kept v) (p : Pass S bound (label_in steps levels) v)
    (based : Based S (label_in steps levels) v (label s low)) where
  same_step : s ≡ based.step
  same_step =
      ap (λ (a : Label). a.step) based.base
      ∙ base_step S (well-closed S placed.well) (delays S placed.well) (label_in steps levels) v placed.node p based.step based.asks

  low-level : (node S v).delay ≤ low
  low-level =
      omega (
        arith,
        ap (λ (a : Label). a.level) based.base,
        (base-level S (well-closed S placed.well) (delays S placed.well) (label_in steps levels) v placed.node p based.step based.asks).low,
      )

  closes : Between S graph steps levels more v limits.top s r r
  closes =
      levelled.between S placed keeps
      (subst (Forced S (label_in steps levels) v) (sym based.base)
      (base-forced S (well-closed S placed.well) (delays S placed.well) (label_in steps levels) v placed.node p based.step based.asks))

  by-cut : r ≤ limits.top → CutBy S (label_in steps levels) v (label s r)
  by-cut l =
      let h = closes.keeps in
      fitting-by S (label_in steps levels) v h.leaves h.fitting (label s r)
      (All-ids (λ u. arrives S (label_in steps levels) v u ≼ label s r) 0 h.leaves (λ j m.
      subst (λ (a : Label). a ≼ label s r)
      (ap (arrival_in graph steps levels limits.top (delay_in graph v)) (h.row.leaves j m)
      ∙ arrives_in placed steps levels (get_or h.leaves j 0) (omega (arith, kept-below placed h j m, placed-in placed)))
      (closes.by l j (omega (arith, h.row.count)))))

  -- b is the level at which the span closes
  pub label-here : {b : Label} → r ≤ limits.top → b ≡ label s r → Settles S (label_in steps levels) v b × Keeps S more v
  label-here {b} l e = (
    subst (Settles S (label_in steps levels) v) (sym e)
        (settles-cut S (well-closed S placed.well) (delays S placed.well) (label_in steps levels) v placed.node p based.step based.asks
        (placed-kind placed) (label s r)
        (subst (λ (a : Label). a ≼ label s r) based.base (record { steps = omega arith; levels = λ e. levelled.from }))
        closes.forced (omega (arith, low-level, levelled.from)) (omega (arith, placed.tops)) (by-cut l)),
    closes.keeps,
  )

  -- b is the label that follows the last level of the step
  pub label-next : {b : Label} {d : ℕ} → limits.top < r → d ≡ delay_in graph v → b ≡ fitted (next_step (label s low) d) → Settles S (label_in steps levels) v b × Keeps S more v
  label-next {b} {d} l f e =
      let h = closes.keeps in
      let same : d ≡ (node S v).delay = f ∙ placed.tabled.delays v (placed-in placed) in
      let step : min (s + 1) 4294967295 ≡ based.step + 1 = omega (arith, same_step, based.fits) in (
        subst (Settles S (label_in steps levels) v) (label-path (sym step) (sym same) ∙ sym e)
            (settles-next S (well-closed S placed.well) (delays S placed.well) (label_in steps levels) v placed.node p based.step based.asks
            (placed-kind placed) h.fitting.cone h.fitting.is_cone
            (subst (λ (us : List ℕ). length us ≤ S.leaves) h.fitting.is_cut h.fitting.fits)
            (subst (λ (x : ℕ). Forced S (label_in steps levels) v (label (x + 1) (node S v).delay)) same_step
            (next-forced S (label_in steps levels) v s r (omega (arith, placed.tops)) closes.forced))),
        h,
      )
