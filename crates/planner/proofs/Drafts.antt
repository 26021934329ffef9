-- What planning from the tables rests on, and the outcome that each way out comes to.
use Prim.Native.Nat.{ℕ, ◌+◌, ◌≤◌, ◌<◌}
use mathlib.Core.Path.{◌≡◌, sym, subst, ap, ◌∙◌}
use mathlib.Core.Bool.{Bool, true, false}
use mathlib.Core.List.{List, []}
use native.Mathlib.Omega.{arith}
use lib.ListN.{get_or}
use Rattle.maps.specs.Label.{Label, earliest}
use Rattle.maps.specs.Sheet.{Sheet, size, latency}
use Rattle.maps.specs.Cut.{logic_node}
use Rattle.maps.specs.Legal.{CarryingCut, Legal, plan_latency}
use Rattle.maps.specs.Least.{at, in_time, Labels, least, least_within, least_ever}
use Rattle.maps.specs.Plan.{plan}
use Rattle.maps.specs.Read.{Header}
use Rattle.maps.specs.Outcome.{Outcome, refusal, within, within_horizon, timed, windowed, labelled, cutless}
use Rattle.maps.proofs.Planned.{latency-in-time, legal-carries}
use Rattle.maps.proofs.Over.{get_d_over}
use Rattle.rows.specs.Code.{header_meant}
use Rattle.rows.specs.declared.Header as R
use Rattle.sheet.proofs.After.{Held}
use Rattle.bound.specs.Lookup.{label_in, labels_in, Soon}
use Rattle.bound.specs.Going.{Given, AllKept}
use Rattle.level.specs.Cuts.{Lowest}
use Rattle.never.proofs.Horizons.{ever-least, in-time}
use Rattle.never.proofs.Entries.{plain-labelled, entries-labelled, within-least}
use Rattle.maps.specs.Limits.{leaves_range, horizon_range}
use Rattle.cover.specs.Cover.{Covered}
use Rattle.writing.specs.Bytes.{Small, flat_plan}
use Rattle.writing.proofs.PlanBytes.{plan-bytes}
use Rattle.timing.specs.Timing.{Times, is_never, is-late, is-in-time, is-past, is_within}
use Rattle.std.specs.Prelude.{Result, Ok, Err}
use Rattle.types.specs.Code.{number_of, place_of}
use Rattle.types.specs.declared.Refusal.{Refusal}
use Rattle.planner.specs.Call.{Own}

-- labels that are legal within the horizon
module _ {S : Sheet} {graph differences : List ℕ} {limits : R.Header} (steps levels : List ℕ) (k : Given S graph differences limits)
    (ok : Legal S (at (labels_in (size S) steps levels)) S.horizon) where
  label_is : (v : ℕ) → v < size S → at (labels_in (size S) steps levels) v ≡ label_in steps levels v
  label_is v l = get_d_over (label_in steps levels) earliest (size S) v l

  ends : (v : ℕ) → v < size S → get_or steps v 0 + latency S v ≤ S.horizon
  ends v l = omega (arith, ap (λ (a : Label). a.step) (label_is v l), (ok.nodes v l).ends)

  pub few-nodes : limits.nodes ≤ 256
  few-nodes = omega (arith, k.nodes, k.well.size.most)

  pub few-leaves : limits.leaves ≤ leaves_range.high
  few-leaves = omega (arith, k.leaves, k.well.leaves.most)

  pub soon : (u : ℕ) → u < limits.nodes → Soon graph steps u
  soon u l = omega (arith, k.nodes, few-nodes, k.tabled.latencies u (omega (arith, few-nodes)), ends u (omega (arith, k.nodes)), k.well.horizon.most)

  pub carrying : (v : ℕ) → v < size S → logic_node S v ≡ true → CarryingCut S (at (labels_in (size S) steps levels)) v
  carrying = legal-carries S (at (labels_in (size S) steps levels)) S.horizon ok

  module _ {last : ℕ} (q : last ≡ plan_latency S (at (labels_in limits.nodes steps levels))) where
    e : last ≡ plan_latency S (at (labels_in (size S) steps levels))
    e = q ∙ ap (λ (n : ℕ). plan_latency S (at (labels_in n steps levels))) k.nodes

    last-most : last ≤ horizon_range.high
    last-most = omega (arith, e, k.well.horizon.most, latency-in-time S (at (labels_in (size S) steps levels)) S.horizon ok)

    pub small : Small last limits.nodes steps levels
    small =
        record {
          nodes = few-nodes;
          latest = last-most;
          step = λ v m. omega (arith, ends v (omega (arith, k.nodes)), k.well.horizon.most);
          level = λ v m.
              let i : v < size S = omega (arith, k.nodes) in
              omega (arith, ap (λ (a : Label). a.level) (label_is v i), (ok.nodes v i).high, k.well.top.most);
        }

    -- the bytes written are those of the plan
    pub planned : (marks : List Bool) (cuts p : List ℕ) → Covered S (labels_in (size S) steps levels) marks cuts
        → p ≡ flat_plan last limits.nodes steps levels marks cuts → p ≡ plan S (labels_in (size S) steps levels)
    planned marks cuts p c f =
        f ∙ ap (λ (n : ℕ). flat_plan last n steps levels marks cuts) k.nodes ∙ plan-bytes S steps levels marks cuts c last e

-- the tables and limits that a sheet was read into
pub own : {bytes graph differences : List ℕ} {limits : R.Header} (h : Held bytes graph differences (header_meant limits) limits.period limits.windows) → Own h.held limits
own h = ap (λ (x : Header). x.horizon) h.headed

pub given : {bytes graph differences : List ℕ} {limits : R.Header} (h : Held bytes graph differences (header_meant limits) limits.period limits.windows) → Given h.held graph differences limits
given h =
    record {
      well = h.well;
      tabled = h.nodes;
      listed = h.rows;
      leaves = ap (λ (x : Header). x.leaves) h.headed;
      top = ap (λ (x : Header). x.top) h.headed;
      near = omega (arith, own h, h.well.horizon.most);
      nodes = ap (λ (x : Header). x.nodes) h.headed;
      count = ap (λ (x : Header). x.differences) h.headed;
      period = h.period;
      windows = h.windows;
    }

-- what the answer about the horizon comes to
module _ {S : Sheet} {graph differences : List ℕ} {limits : R.Header} (steps levels : List ℕ) (g : Given S graph differences limits) (own : Own S limits) where
  abbrev labels : List Label
  labels = labels_in limits.nodes steps levels

  nodes-are : labels ≡ labels_in (size S) steps levels
  nodes-are = ap (λ (n : ℕ). labels_in n steps levels) g.nodes

  -- without entries: the outcome of least labels, by whether they are in time
  tested : S.windows ≡ [] → least_ever S ≡ least labels → (b : Bool) → in_time S labels limits.horizon ≡ b → (room : ℕ)
      → labelled S room S.windows ≡ within_horizon S room labels b
  tested o e b q room = plain-labelled S o room ∙ ap (timed S room) e ∙ ap (within_horizon S room labels) (ap (in_time S labels) (sym own) ∙ q)

  -- with entries: the labels within H
  own-labels : {r : Labels} → least_within S limits.horizon ≡ r → least_within S S.horizon ≡ r
  own-labels e = ap (least_within S) (sym own) ∙ e

  -- the outcome that each answer comes to: the plan of the labels, or the refusal
  abbrev pub came : Result (Unit {0}) Refusal → ℕ → Outcome
  came (Ok done) room = within room (plan S labels)
  came (Err w) room = refusal (number_of w) (place_of w)

  pub times-outcome : {r : Result (Unit {0}) Refusal} → Times S limits.horizon labels r → (room : ℕ) → labelled S room S.windows ≡ came r room
  times-outcome (is_never o e) room = plain-labelled S o room ∙ ap (timed S room) e
  times-outcome (is-late o e q) room = tested o e false q room
  times-outcome (is-in-time o e q) room = tested o e true q room
  times-outcome (is-past o e) room = entries-labelled S o room ∙ ap (windowed S room) (own-labels e)
  times-outcome (is_within o e) room = entries-labelled S o room ∙ ap (windowed S room) (own-labels e)

  -- p is the plan of labels in time, which are legal
  pub found-outcome : Times S limits.horizon labels (Ok tt) → (p : List ℕ) → p ≡ plan S (labels_in (size S) steps levels) → (room : ℕ)
      → labelled S room S.windows ≡ within room p
  found-outcome t p r room = times-outcome t room ∙ ap (λ (L : List Label). within room (plan S L)) nodes-are ∙ ap (within room) (sym r)

  pub found-legal : cutless S ≡ [] → Times S limits.horizon labels (Ok tt) → Legal S (at (labels_in (size S) steps levels)) S.horizon
  found-legal cuts t = subst (λ (L : List Label). Legal S (at L) S.horizon) nodes-are (legal t)
    where
      legal : Times S limits.horizon labels (Ok tt) → Legal S (at labels) S.horizon
      legal (is-in-time o e q) = (in-time S g.well o cuts labels (ever-least S g.well o cuts labels e) S.horizon (ap (in_time S labels) (sym own) ∙ q)).legal
      legal (is_within o e) = (within-least S g.well cuts labels (own-labels e)).legal

-- every logic node has a fitting cut, which is kept
pub all-cut : {S : Sheet} {graph differences kept : List ℕ} {limits : R.Header} {r : ℕ} → Given S graph differences limits
    → Lowest S graph limits.nodes limits.leaves kept r → limits.nodes ≤ r → (cutless S ≡ []) × AllKept S kept
all-cut g h l = h.none g.well g.tabled g.nodes g.leaves (omega (arith, h.most))
