-- A node's turn, and the turns of a pass: the label that settles a node is written to the tables, or it ends after the horizon.
use Prim.Native.Nat.{ℕ, ◌+◌, ◌<◌}
use mathlib.Core.Path.{◌≡◌, sym, subst}
use mathlib.Core.Bool.{Bool, true, false}
use mathlib.Core.List.{List}
use native.Mathlib.Numerals.{add-one}
use lib.ListN.{set}
use Rattle.maps.specs.Label.{Label}
use Rattle.maps.specs.Sheet.{Sheet}
use Rattle.rows.specs.declared.Header as R
use Rattle.relax.specs.Settle.{Settles, Pass, Passing, onward}
use Rattle.bound.specs.Lookup.{label_in}
use Rattle.bound.specs.Bound.{LabelPlaced}
use Rattle.bound.specs.Going.{AllKept, Going}
use Rattle.bound.proofs.Safety.{node_in}
use Rattle.bound.proofs.Placing.{forced-late, placed-timed, placed-raised}
use Rattle.pass.specs.Turn.{Turned}

module _ {S : Sheet} {graph differences : List ℕ} {limits : R.Header} {first next kept steps levels : List ℕ}
    (going : Going S graph differences limits first next kept steps levels) (v : ℕ) (l : v < limits.nodes) (b : Label) where
  -- the label that settles v, placed
  pub turn-ends : {more : List ℕ} {bound : ℕ → ℕ} (steps' levels' : List ℕ) → Pass S bound (label_in steps levels) v → Settles S (label_in steps levels) v b → AllKept S more
      → (r : Bool) → LabelPlaced graph steps levels steps' levels' v b limits.horizon r
      → Turned S bound graph differences limits first next more steps levels steps' levels' v r
  turn-ends {more} steps' levels' p s all true h = (
    subst (λ (x : List ℕ). Going S graph differences limits first next more x levels') (sym h.1)
        (subst (λ (y : List ℕ). Going S graph differences limits first next more (set steps v b.step) y) (sym h.2) placed),
    b,
    s,
    h.1,
    h.2,
  )
    where
      placed : Going S graph differences limits first next more (set steps v b.step) (set levels v b.level)
      placed =
          record {
            given = going.given;
            heeding = going.heeding;
            all_kept = all;
            timed = placed-timed going.given steps levels v l b going.timed h.0;
          }
  turn-ends steps' levels' p s all false h = forced-late going.given steps levels v l b p.guarded s.forced h.0

  -- one more node of the pass
  pub turn_on : (L : ℕ → Label) → Passing S L v (label_in steps levels) → Settles S (label_in steps levels) v b → {steps' levels' : List ℕ}
      → steps' ≡ set steps v b.step → levels' ≡ set levels v b.level → Passing S L (v + 1) (label_in steps' levels')
  turn_on L q s {steps'} {levels'} e f =
      subst (λ (xs : List ℕ). Passing S L (v + 1) (label_in xs levels')) (sym e)
      (subst (λ (xs : List ℕ). Passing S L (v + 1) (label_in (set steps v b.step) xs)) (sym f)
      (subst (λ (k : ℕ). Passing S L k (label_in (set steps v b.step) (set levels v b.level))) (sym (add-one v))
      (onward v (label_in steps levels) b _ q (node_in going.given v l).0 s (placed-raised going.given steps levels v l b going.timed))))
