-- The bytes from the tables are document 01's plan, where the tables hold its latency, labels, used nodes and chosen cuts.
use Prim.Native.Nat.{ℕ, zero, suc, ◌<◌}
use mathlib.Core.Path.{◌≡◌, refl, sym, ap, ◌∙◌}
use mathlib.Core.Bool.{Bool, cond}
use mathlib.Core.List.{List, [], ◌∷◌, ◌++◌, map, map-append}
use native.Mathlib.Omega.{arith}
use lib.ListN.{length}
use Rattle.maps.specs.Lists.{below, concat}
use Rattle.maps.specs.Label.{Label, earliest}
use Rattle.maps.specs.Sheet.{Sheet, size}
use Rattle.maps.specs.Legal.{plan_latency}
use Rattle.maps.specs.Least.{at}
use Rattle.maps.specs.Cover.{used}
use Rattle.maps.specs.Number.{encoded}
use Rattle.maps.specs.Plan.{row, plan}
use Rattle.maps.proofs.Over.{length_over, get_d_over}
use Rattle.bound.specs.Lookup.{label_in, labels_in, count_of, leaf_of}
use Rattle.cover.specs.Cover.{Covered}
use Rattle.writing.specs.Bytes.{flat_row, flat_plan}

-- lists made over 0, 1, .. n - 1 are equal where their elements are
map_below : {A : Type 0} (f g : ℕ → A) (n : ℕ) → ((v : ℕ) → v < n → f v ≡ g v) → map f (below n) ≡ map g (below n)
map_below f g zero h = refl
map_below f g (suc n) h =
    rw (map-append f (below n) (n ∷ []), map-append g (below n) (n ∷ []), map_below f g n (λ v l. h v (omega arith)), h n (omega arith))

-- the bytes of a row's numbers
abbrev row_bytes : (step level mark count : ℕ) → List ℕ → List ℕ
row_bytes s l m k us = encoded s ++ encoded l ++ encoded m ++ encoded k ++ concat (map encoded us)

same_row : {s s' l l' m m' k k' : ℕ} {us us' : List ℕ} → s ≡ s' → l ≡ l' → m ≡ m' → k ≡ k' → us ≡ us' → row_bytes s l m k us ≡ row_bytes s' l' m' k' us'
same_row a b c d e = rw (a, b, c, d, e)

module _ (S : Sheet) (steps levels : List ℕ) (marks : List Bool) (cuts : List ℕ) (covered : Covered S (labels_in (size S) steps levels) marks cuts) where
  row-bytes : (v : ℕ) → v < size S → flat_row steps levels marks cuts v ≡ row S (labels_in (size S) steps levels) (used S (labels_in (size S) steps levels)) v
  row-bytes v l =
      let e = sym (length_over (leaf_of cuts v) 0 (count_of cuts v)) in
      let label = sym (get_d_over (label_in steps levels) earliest (size S) v l) in
      same_row (ap (λ (a : Label). a.step) label) (ap (λ (a : Label). a.level) label) (ap (λ (b : Bool). cond {A = ℕ} b 1 0) (covered.marked v l)) (e ∙ ap length (covered.rows v l)) (covered.rows v l)

  pub plan-bytes : (latency : ℕ) → latency ≡ plan_latency S (at (labels_in (size S) steps levels))
      → flat_plan latency (size S) steps levels marks cuts ≡ plan S (labels_in (size S) steps levels)
  unfolding plan
  plan-bytes latency e = rw (e, map_below _ _ (size S) row-bytes)
