-- What the tables and the limits of a well-formed sheet keep within, and its labels too while each node ends within the horizon.
use Prim.Native.Nat.{ℕ, ◌≤◌, ◌<◌}
use mathlib.Core.Path.{◌≡◌, refl, sym, ap, ◌∙◌}
use mathlib.Core.List.{List, [], ◌∷◌, Memᴰ}
use native.Mathlib.Omega.{arith}
use lib.ListN.{length, get_or}
use Rattle.maps.specs.Sheet.{Sheet, Window, node, size, latency, clock_to_q}
use Rattle.maps.specs.WellFormed.{WellDifference}
use Rattle.maps.proofs.Member.{All-get, index-mem}
use Rattle.rows.specs.Table.{latency_in, clock_in, delay_in, to_in, no_difference, difference_at, Falling}
use Rattle.rows.specs.declared.Header as R
use Rattle.rows.proofs.SheetTables.{falling}
use Rattle.relax.specs.Guard.{Kept}
use Rattle.bound.specs.Lookup.{Soon}
use Rattle.bound.specs.Bound.{Summed, HoldsAt}
use Rattle.bound.specs.Going.{Given, Timed, Going, Bounding}

module _ {S : Sheet} {graph differences : List ℕ} {limits : R.Header} (g : Given S graph differences limits) where
  pub few-nodes : limits.nodes ≤ 256
  few-nodes = omega (arith, g.nodes, g.well.size.most)

  pub few-differences : limits.differences ≤ 1024
  few-differences = omega (arith, g.count, g.well.count.most)

  pub node_in : (v : ℕ) → v < limits.nodes → (v < size S) × (v < 256)
  node_in v l = (omega (arith, g.nodes), omega (arith, few-nodes))

  pub latency-is : (v : ℕ) → v < limits.nodes → latency_in graph v ≡ latency S v
  latency-is v l = g.tabled.latencies v (node_in v l).1

  pub clock-is : (v : ℕ) → v < limits.nodes → clock_in graph v ≡ clock_to_q S v
  clock-is v l = g.tabled.clocks v (node_in v l).1

  pub delay-is : (v : ℕ) → v < limits.nodes → delay_in graph v ≡ (node S v).delay
  delay-is v l = g.tabled.delays v (node_in v l).1

  -- whether there are entries, by their count
  pub no-entries : limits.windows ≡ 0 → S.windows ≡ []
  no-entries e = go S.windows (sym g.windows ∙ e)
    where
      go : (ws : List Window) → length ws ≡ 0 → ws ≡ []
      go [] q = refl
      go (w ∷ ws) q = absurd (omega arith)

  pub some-entries : 0 < limits.windows → S.windows ≡ [] → ⊥
  some-entries l e = omega (arith, g.windows, ap (λ (ws : List Window). length ws) e)

  pub graph-falls : Falling graph
  graph-falls = falling S graph g.well g.tabled

  listed_in : (i : ℕ) → i < limits.differences → i < length S.differences
  listed_in i l = omega (arith, g.count)

  pub difference-in : (i : ℕ) → i < limits.differences → Memᴰ (difference_at S i) S.differences
  difference-in i l = index-mem no_difference S.differences i (listed_in i l)

  well-at : (i : ℕ) → i < limits.differences → WellDifference (size S) (difference_at S i)
  well-at i l = All-get (WellDifference (size S)) no_difference S.differences g.well.differences i (listed_in i l)

  pub targets : (i : ℕ) → i < limits.differences → to_in differences i < 256
  targets i l = omega (arith, g.listed.tos i (listed_in i l), (well-at i l).to, g.well.size.most)

  module _ (steps : List ℕ) where
    -- what the table says of difference i, and the difference itself
    pub kept_at : (i : ℕ) → i < limits.differences → HoldsAt differences steps i → Kept (λ u. get_or steps u 0) (difference_at S i)
    kept_at i l h =
        let k = listed_in i l in
        omega (
          arith,
          ap (λ (u : ℕ). get_or steps u 0) (g.listed.froms i k),
          ap (λ (u : ℕ). get_or steps u 0) (g.listed.tos i k),
          g.listed.pluses i k,
          g.listed.minuses i k,
        )

    pub holds_at : (i : ℕ) → i < limits.differences → Kept (λ u. get_or steps u 0) (difference_at S i) → HoldsAt differences steps i
    holds_at i l h =
        let k = listed_in i l in
        omega (
          arith,
          ap (λ (u : ℕ). get_or steps u 0) (g.listed.froms i k),
          ap (λ (u : ℕ). get_or steps u 0) (g.listed.tos i k),
          g.listed.pluses i k,
          g.listed.minuses i k,
        )

  -- Sums fit 32 bits: a step that is in time is with its latency at most the horizon, which is below 2^24, a weight is at most 65,535, and no sum has
  -- more than these two.
  module _ {steps levels : List ℕ} (t : Timed S limits.horizon steps levels) where
    pub soon-all : (u : ℕ) → u < limits.nodes → Soon graph steps u
    soon-all u l = omega (arith, latency-is u l, t.ends u (node_in u l).0, g.near)

    pub summed-all : (i : ℕ) → i < limits.differences → Summed differences steps i
    summed-all i l =
        let k = listed_in i l in
        let w = well-at i l in
        let d = difference_at S i in
        record {
          from = omega (arith, g.listed.froms i k, w.from, g.well.size.most);
          to = targets i l;
          ahead = omega (arith, ap (λ (u : ℕ). get_or steps u 0) (g.listed.froms i k), g.listed.pluses i k, w.plus, t.ends d.from w.from, g.near);
          behind = omega (arith, ap (λ (u : ℕ). get_or steps u 0) (g.listed.tos i k), g.listed.minuses i k, w.minus, t.ends d.to w.to, g.near);
        }

-- what a pass works on has the bounds of each node
pub bounding : {S : Sheet} {graph differences : List ℕ} {limits : R.Header} {first next kept steps levels : List ℕ} → Going S graph differences limits first next kept steps levels
    → (v : ℕ) → v < limits.nodes → Bounding S graph differences limits first next steps levels v
bounding going v l = record { given = going.given; heeding = going.heeding; timed = going.timed; node = l }
