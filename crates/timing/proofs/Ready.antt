-- The ready steps of the tables are those of the labels: whether all are within a horizon, and the greatest among the outputs.
use Prim.Native.Nat.{ℕ, ◌+◌, ◌≤◌, ◌<◌, max}
use mathlib.Core.Path.{◌≡◌, refl, ap, ◌∙◌}
use mathlib.Core.Bool.{Bool, true, false, cond}
use mathlib.Core.List.{List, [], ◌∷◌, ◌++◌}
use native.Mathlib.Numerals.{add-one}
use native.Mathlib.Omega.{arith}
use lib.Dec.{leb}
use lib.ListN.{get_or}
use borrow.Author.Tests.{leb-true, leb-false}
use Rattle.maps.specs.Label.{Label, label}
use Rattle.maps.specs.Lists.{All, keep, below, greatest}
use Rattle.maps.specs.Sheet.{Sheet, node, size, latency, clock_to_q}
use Rattle.maps.specs.Legal.{ready_of, plan_latency}
use Rattle.maps.specs.Least.{at, in_time}
use Rattle.maps.proofs.Over.{all-below, all-fails, get_d_over}
use Rattle.maps.proofs.Member.{All-of, below_out}
use Rattle.maps.proofs.Order.{ready-step}
use Rattle.rows.specs.Table.{latency_in, Tabled}
use Rattle.rows.proofs.SheetTables.{output-tabled}
use Rattle.bound.specs.Lookup.{label_in, labels_in}
use Rattle.timing.specs.Timing.{output_step}

module _ (S : Sheet) (graph steps levels : List ℕ) (n : ℕ) (few : n ≤ 256) (t : Tabled S graph) (e : n ≡ size S) where
  -- a node's ready step
  step_is : (v : ℕ) → v < n → get_or steps v 0 + latency_in graph v ≡ (at (labels_in n steps levels) v).step + latency S v
  step_is v l = omega (arith, ap (λ (a : Label). a.step) (get_d_over (label_in steps levels) (label 0 0) n v l), t.latencies v (omega arith))

  abbrev ends : ℕ → ℕ → Bool
  ends H v = leb ((at (labels_in n steps levels) v).step + latency S v) H

  pub all-in-time : (H : ℕ) → ((v : ℕ) → v < n → get_or steps v 0 + latency_in graph v ≤ H) → in_time S (labels_in n steps levels) H ≡ true
  all-in-time H h = go (in_time S (labels_in n steps levels) H) refl
    where
      go : (r : Bool) → in_time S (labels_in n steps levels) H ≡ r → in_time S (labels_in n steps levels) H ≡ true
      go true q = q
      go false q =
          let f = all-fails (ends H) (size S) q in
          let late : H < (at (labels_in n steps levels) f.0).step + latency S f.0 = leb-false _ _ f.2 in
          absurd (omega (arith, step_is f.0 (omega (arith, f.1)), h f.0 (omega (arith, f.1))))

  pub one-late : (H v : ℕ) → v < n → H < get_or steps v 0 + latency_in graph v → in_time S (labels_in n steps levels) H ≡ false
  one-late H v l h = go (in_time S (labels_in n steps levels) H) refl
    where
      go : (r : Bool) → in_time S (labels_in n steps levels) H ≡ r → in_time S (labels_in n steps levels) H ≡ false
      go true q =
          let early : (at (labels_in n steps levels) v).step + latency S v ≤ H = leb-true _ _ (all-below (ends H) (size S) q v (omega arith)) in
          absurd (omega (arith, step_is v l))
      go false q = q

-- one number more
pub greatest-more : (x : ℕ → ℕ) (n : ℕ) → greatest x (below (n + 1)) ≡ max (greatest x (below n)) (x n)
greatest-more x n = rw (add-one n) (go (below n))
  where
    go : (vs : List ℕ) → greatest x (vs ++ (n ∷ [])) ≡ max (greatest x vs) (x n)
    go [] = omega arith
    go (v ∷ vs) = omega (arith, go vs)

greatest-same : (x y : ℕ → ℕ) (vs : List ℕ) → All (λ v. x v ≡ y v) vs → greatest x vs ≡ greatest y vs
greatest-same x y [] h = refl
greatest-same x y (v ∷ vs) h = omega (arith, greatest-same x y vs h.1, h.0)

-- over a selection: as over all, where what is left out counts 0
greatest-kept : (p : ℕ → Bool) (x : ℕ → ℕ) (vs : List ℕ) → greatest (λ v. cond (p v) (x v) 0) vs ≡ greatest x (keep p vs)
greatest-kept p x [] = refl
greatest-kept p x (v ∷ vs) = go (p v) (greatest-kept p x vs)
  where
    go : (b : Bool) → greatest (λ v. cond (p v) (x v) 0) vs ≡ greatest x (keep p vs)
        → max (cond b (x v) 0) (greatest (λ v. cond (p v) (x v) 0) vs) ≡ greatest x (cond b (v ∷ keep p vs) (keep p vs))
    go true h = ap (max (x v)) h
    go false h = omega (arith, h)

pub latency-is-greatest : (S : Sheet) (graph steps levels : List ℕ) (n : ℕ) → n ≤ 256 → Tabled S graph → n ≡ size S
    → greatest (output_step graph steps) (below n) ≡ plan_latency S (at (labels_in n steps levels))
latency-is-greatest S graph steps levels n few t e =
    greatest-same (output_step graph steps) (λ v. cond (node S v).output (ready_of S (at (labels_in n steps levels)) v).step 0) (below n)
    (All-of _ (below n) (λ v m. each v (below_out n v m)))
    ∙ ap (λ (k : ℕ). greatest (λ v. cond (node S v).output (ready_of S (at (labels_in n steps levels)) v).step 0) (below k)) e
    ∙ greatest-kept (λ v. (node S v).output) (λ v. (ready_of S (at (labels_in n steps levels)) v).step) (below (size S))
  where
    ready : (v : ℕ) → v < n → get_or steps v 0 + latency_in graph v ≡ (ready_of S (at (labels_in n steps levels)) v).step
    ready v l =
        omega (
          arith,
          ready-step (latency S v) (clock_to_q S v) (at (labels_in n steps levels) v),
          step_is S graph steps levels n few t e v l,
        )

    each : (v : ℕ) → v < n → output_step graph steps v ≡ cond (node S v).output (ready_of S (at (labels_in n steps levels)) v).step 0
    each v l =
        ap (λ (b : Bool). cond b (get_or steps v 0 + latency_in graph v) 0) (output-tabled S graph t v (omega arith))
        ∙ ap (λ (k : ℕ). cond (node S v).output k 0) (ready v l)
