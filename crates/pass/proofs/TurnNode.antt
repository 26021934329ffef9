-- The label that settles a node in its turn, and the cuts that are kept beside it.
use Prim.Native.Nat.{ℕ, ◌+◌, ◌≤◌, ◌<◌}
use mathlib.Core.Path.{◌≡◌, refl, sym, subst, ap, ◌∙◌}
use mathlib.Core.Bool.{Bool, true, false}
use mathlib.Core.List.{List, Memᴰ}
use mathlib.Core.Logic.{◌⊎◌, inl, inr}
use native.Mathlib.Omega.{arith}
use lib.Dec.{eqb}
use lib.ListN.{length, get_or}
use borrow.Author.Tests.{eqb-true, eqb-false}
use Rattle.maps.specs.Label.{Label, ◌≼◌}
use Rattle.maps.specs.Lists.{All}
use Rattle.maps.specs.Sheet.{Sheet, Kind, input, logic, box, node, size, window, is_logic}
use Rattle.maps.specs.Window.{between, open_label}
use Rattle.maps.specs.Cut.{logic_node}
use Rattle.maps.specs.WellFormed.{WellFormed}
use Rattle.maps.proofs.Member.{All-of, All-ids, All-get}
use Rattle.maps.proofs.Planned.{delays, operands-below, windows}
use Rattle.maps.proofs.Windows.{next-fields}
use Rattle.rows.specs.Table.{kind_at, delay_in, count_in, operand_in, open_in, closing}
use Rattle.rows.specs.declared.Header as R
use Rattle.rows.proofs.SheetTables.{kind-tabled}
use Rattle.relax.specs.Guard.{Forced}
use Rattle.maps.specs.Legal.{arrives}
use Rattle.relax.specs.Settle.{By, Settles, Pass}
use Rattle.relax.proofs.Closed.{Closed, well-closed}
use Rattle.relax.proofs.Forced.{forced-operand}
use Rattle.relax.proofs.Passes.{base-forced, base-level, base_step, settles-open, settles-input, arrives-level}
use Rattle.bound.specs.Lookup.{label_in, arrival_in, Beside, step_limit}
use Rattle.bound.specs.Bound.{Latest}
use Rattle.bound.specs.Going.{Given, Keeps, AllKept, Going, Based}
use Rattle.bound.proofs.Safety.{node_in, latency-is, clock-is, delay-is, graph-falls, soon-all}
use Rattle.bound.proofs.Arriving.{arrival-small}
use Rattle.level.specs.Carry.{Placed}
use Rattle.level.proofs.CutRows.{count-beside, leaf-beside}

-- a kept cut beside a row that changed is as it was
pub kept-beside : {S : Sheet} {kept more : List ℕ} {v : ℕ} → WellFormed S → AllKept S kept → length more ≡ 2048 → Beside v kept more → Keeps S more v → AllKept S more
kept-beside {S} {kept} {more} {v} well all wide beside mine = record { wide = wide; keeps = λ w l g. keeps w l g (eqb w v) refl }
  where
    keeps : (w : ℕ) → w < size S → logic_node S w ≡ true → (t : Bool) → eqb w v ≡ t → Keeps S more w
    keeps w l g true e = subst (Keeps S more) (sym (eqb-true w v e)) mine
    keeps w l g false e =
        let k = all.keeps w l g in
        let n = eqb-false w v e in
        record {
          leaves = k.leaves;
          fitting = k.fitting;
          row = record {
            count = count-beside v kept more beside w n ∙ k.row.count;
            leaves = λ j h. leaf-beside v kept more beside w n j (omega (arith, k.fitting.fits, well.leaves.most)) ∙ k.row.leaves j h;
          };
        }

module _ {S : Sheet} {graph differences : List ℕ} {limits : R.Header} {first next kept steps levels : List ℕ}
    (going : Going S graph differences limits first next kept steps levels) (v : ℕ) (l : v < limits.nodes) where
  g : Given S graph differences limits
  g = going.given

  closed : Closed S
  closed = well-closed S g.well

  inside : v < size S
  inside = (node_in g v l).0

  -- the kind that the table has is the node's
  pub kind-is : (k : Kind) → k ≡ kind_at graph v → (node S v).kind ≡ k
  kind-is k e = sym (e ∙ kind-tabled S graph g.tabled v (node_in g v l).1)

  pub placed : (node S v).kind ≡ logic → Placed S graph v limits
  placed e =
      record {
        well = g.well;
        tabled = g.tabled;
        node = inside;
        logic = ap is_logic e;
        leaves = g.leaves;
        tops = g.top;
      }

  module _ {bound : ℕ → ℕ} (p : Pass S bound (label_in steps levels) v) {a : Label} (based : Based S (label_in steps levels) v a) where
    arrival-is : (u : ℕ) → u < limits.nodes → arrival_in graph steps levels limits.top (delay_in graph v) u ≡ arrives S (label_in steps levels) v u
    unfolding arrival_in
    arrival-is u k = rw (g.top, latency-is g u k, clock-is g u k, delay-is g v l)

    -- operand j arrives where the code says
    operand-is : (j : ℕ) → j < length (node S v).operands
        → arrival_in graph steps levels limits.top (delay_in graph v) (operand_in graph v j) ≡ arrives S (label_in steps levels) v (get_or (node S v).operands j 0)
    operand-is j k =
        ap (arrival_in graph steps levels limits.top (delay_in graph v)) (g.tabled.operands v j (node_in g v l).1 k)
        ∙ arrival-is (get_or (node S v).operands j 0) (omega (arith, All-get (λ u. u < v) 0 (node S v).operands (operands-below S g.well v) j k))

    counted : count_in graph v ≡ length (node S v).operands
    counted = g.tabled.counts v (node_in g v l).1

    -- an input: its base label
    pub settles-base : (node S v).kind ≡ input → Settles S (label_in steps levels) v a
    settles-base e =
        subst (Settles S (label_in steps levels) v) (sym based.base)
        (settles-input S closed (delays S g.well) (label_in steps levels) v inside p based.step based.asks e)

    -- the latest of a box's base label and its operands' arrivals leaves room for a period and what lies before a window in it
    pub latest-room : {r : Label} → Latest graph steps levels v limits.top (count_in graph v) a r
        → (0 < limits.period) × (r.step + limits.period + open_in graph v ≤ 4294967295)
    latest-room {r} latest =
        let w = windows S g.well v in
        (omega (arith, g.period, g.well.period.least), omega (arith, g.period, g.well.period.most, g.tabled.opens v (node_in g v l).1, w.some, w.within, small latest.one))
      where
        small : (r ≡ a) ⊎ ((j : ℕ) × (j < count_in graph v) × (r ≡ arrival_in graph steps levels limits.top (delay_in graph v) (operand_in graph v j))) → r.step ≤ step_limit
        small (inl e) =
            omega (
              arith,
              ap (λ (c : Label). c.step) (e ∙ based.base),
              base_step S closed (delays S g.well) (label_in steps levels) v inside p based.step based.asks,
              based.fits,
            )
        small (inr w) =
            let f = (graph-falls g).falls v w.0 (node_in g v l).1 w.1 in
            omega (
              arith,
              ap (λ (c : Label). c.step) w.2,
              arrival-small graph steps levels limits.top (delay_in graph v) (operand_in graph v w.0) (soon-all g going.timed (operand_in graph v w.0) (omega arith)),
            )

    -- the window in the table is the node's
    opened-is : (r : Label) → open_label limits.period (between 0 (open_in graph v) (closing graph limits.period v)) (delay_in graph v) r
        ≡ open_label S.period (window S v) (node S v).delay r
    opened-is r =
        let t = (node_in g v l).1 in
        rw (g.period, delay-is g v l, next-fields S.period 0 (window S v) r.step (g.tabled.opens v t) (g.tabled.closes v t))

    -- a box: the latest of its base label and its operands' arrivals, or its delay in the next open step
    pub settles-latest : {r : Label} (lat q : ℕ) → (node S v).kind ≡ box lat q → Latest graph steps levels v limits.top (count_in graph v) a r
        → Settles S (label_in steps levels) v (open_label limits.period (between 0 (open_in graph v) (closing graph limits.period v)) (delay_in graph v) r)
    settles-latest {r} lat q e latest =
        let b = within latest.one in
        subst (Settles S (label_in steps levels) v) (sym (opened-is r))
        (settles-open S closed (delays S g.well) (label_in steps levels) v inside p based.step based.asks r
        (subst (λ (c : Label). c ≼ r) based.base latest.from) b.0 b.1 b.2 (subst (By S (label_in steps levels) v r) (sym e) all))
      where
        Bound : Label → Type 0
        Bound c = Forced S (label_in steps levels) v c × ((node S v).delay ≤ c.level) × (c.level ≤ S.top)

        own : Bound a
        own =
            let h = base-level S closed (delays S g.well) (label_in steps levels) v inside p based.step based.asks in
            subst Bound (sym based.base) (base-forced S closed (delays S g.well) (label_in steps levels) v inside p based.step based.asks, h.low, h.high)

        operand-in : (j : ℕ) → j < length (node S v).operands → Memᴰ (get_or (node S v).operands j 0) (node S v).operands
        operand-in j k =
            All-get (λ u. Memᴰ u (node S v).operands) 0 (node S v).operands (All-of _ (node S v).operands (λ u m. m)) j k

        within : (r ≡ a) ⊎ ((j : ℕ) × (j < count_in graph v) × (r ≡ arrival_in graph steps levels limits.top (delay_in graph v) (operand_in graph v j))) → Bound r
        within (inl w) = subst Bound (sym w) own
        within (inr w) =
            let j = w.0 in
            let k : j < length (node S v).operands = omega (arith, w.1, counted) in
            let u = get_or (node S v).operands j 0 in
            let h = arrives-level S closed (delays S g.well) (label_in steps levels) v inside p based.step based.asks u in
            subst Bound (sym (w.2 ∙ operand-is j k)) (forced-operand S closed (label_in steps levels) v inside lat q e u (operand-in j k), h.low, h.high)

        all : All (λ u. arrives S (label_in steps levels) v u ≼ r) (node S v).operands
        all =
            All-ids (λ u. arrives S (label_in steps levels) v u ≼ r) 0 (node S v).operands (λ j k.
            subst (λ (c : Label). c ≼ r) (operand-is j k) (latest.all j (omega (arith, counted))))
