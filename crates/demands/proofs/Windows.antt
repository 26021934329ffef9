-- Legal labellings are those that are legal without windows and in which each box with an entry starts in its window.
use Prim.Native.Nat.{ℕ, ◌+◌, ◌%◌, ◌≤◌, ◌<◌}
use mathlib.Core.Path.{◌≡◌, refl, subst}
use mathlib.Core.Bool.{Bool, true, false, cond}
use mathlib.Core.List.{List, [], ◌∷◌}
use native.Mathlib.Omega.{arith}
use lib.Dec.{eqb}
use borrow.Author.Tests.{eq-eqb, ne_eqb, eqb-true}
use Rattle.maps.specs.Lists.{All}
use Rattle.maps.specs.Sheet.{Window, window_in, box_in, size}
use Rattle.maps.specs.Window.{Open}
use Rattle.maps.specs.WellFormed.{WellEntry, Rising}
use Rattle.maps.proofs.Windows.{whole_open}
use Rattle.former.proofs.Unwindowed.{legal-plain, open-legal}
use Rattle.demands.specs.Windows.{WindowRule}

-- each entry, and the window of each node, by a step for each node
module _ (n : ℕ) (is_box : ℕ → Bool) (p : ℕ) (step : ℕ → ℕ) where
  abbrev Starts : Window → Type 0
  Starts w = (w.from ≤ step w.id % p) × (step w.id % p < w.to)

  -- ids rise, so the first entry with an entry's id is that entry
  entries-start : (low : ℕ) (ws : List Window) → All (WellEntry n is_box p) ws → Rising low ws
      → ((v : ℕ) → low ≤ v → v < n → Open p (window_in p v ws) (step v)) → All Starts ws
  entries-start low [] well r h = tt
  entries-start low (w ∷ ws) well r h = (
    (let o = rw (eq-eqb w.id w.id refl) at (h w.id r.0 well.0.inside) in (o.least, o.most)),
    entries-start (w.id + 1) ws well.1 r.1 (λ v l m. rw (ne_eqb w.id v (λ e. omega arith)) at (h v (omega (arith, r.0)) m)),
  )

  windows-start : 1 ≤ p → (ws : List Window) → All Starts ws → (v : ℕ) → Open p (window_in p v ws) (step v)
  windows-start l [] h v = whole_open p v (step v) l
  windows-start l (w ∷ ws) h v = go (eqb w.id v) refl (windows-start l ws h.1 v)
    where
      go : (b : Bool) → eqb w.id v ≡ b → Open p (window_in p v ws) (step v) → Open p (cond b w (window_in p v ws)) (step v)
      go true e rest = subst (λ u. Open p w (step u)) (eqb-true w.id v e) (record { least = h.0.0; most = h.0.1 })
      go false e rest = rest

pub window-rule : (bytes : List ℕ) → WindowRule bytes
window-rule bytes =
    record {
      gained = λ S e L H.
          let well = e.well in
          let P = S.period in
          let step : ℕ → ℕ = λ v. (L v).step in
          let entries = entries-start (size S) (box_in S.nodes) P step 0 S.windows well.windows well.rising in
          let windows = windows-start (size S) (box_in S.nodes) P step well.period.least S.windows in
          (λ ok. (legal-plain S L H ok, entries (λ v l m. (ok.nodes v m).starts)), λ ok. open-legal S L H (windows ok.1) ok.0);
    }
