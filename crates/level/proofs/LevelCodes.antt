-- The question which cuts of v carry a label: its codes, and what its answer says.
use Prim.Native.Nat.{ℕ, ◌+◌, ◌<◌}
use mathlib.Core.Path.{◌≡◌, refl, sym, subst, ap, ◌∙◌}
use mathlib.Core.Bool.{Bool, true, false}
use mathlib.Core.List.{List}
use native.Mathlib.Omega.{arith}
use lib.ListN.{length, get_or, set, length-set}
use lib.Seq.{get_or-set_same, get_or-set_other}
use borrow.Author.Count.{below_more}
use Rattle.maps.specs.Label.{Label, leq, plus, ready, ◌≼◌}
use Rattle.maps.specs.Sheet.{Sheet, is_logic, node, latency, clock_to_q}
use Rattle.maps.specs.Cut.{cut}
use Rattle.maps.proofs.Order.{leq-true, ≼-leq}
use Rattle.maps.proofs.Member.{All-at, All-of, All-get}
use Rattle.rows.specs.Table.{kind_at, delay_in, latency_in, clock_in}
use Rattle.rows.specs.declared.Header as R
use Rattle.rows.proofs.SheetTables.{kind-tabled}
use Rattle.cut.specs.Question.{code_for, Asked}
use Rattle.maps.specs.Legal.{arrives}
use Rattle.relax.proofs.Forced.{leaf-read}
use Rattle.bound.specs.Lookup.{label_in, arrival_in}
use Rattle.level.specs.Carry.{CodesBy, Placed}
use Rattle.level.specs.Cuts.{TriedCut}
use Rattle.level.specs.Span.{TriedLevel}
use Rattle.flow.specs.declared.Code.{Code}
use Rattle.flow.specs.declared.Code.TheVariants.{Inner}

module _ (graph steps levels : List ℕ) (v top : ℕ) (a : Label) where
  -- u arrives at v by a
  abbrev pub in_time : ℕ → Bool
  in_time u = leq (arrival_in graph steps levels top (delay_in graph v) u) a

  abbrev pub code_by : ℕ → Code
  code_by u = code_for (is_logic (kind_at graph u)) (in_time u)

  -- the codes of the nodes below u stand, and v must be inside
  pub record Coded (code : List Code) (u : ℕ) : Type 0 where
    pub wide : length code ≡ 256
    pub done : (i : ℕ) → i < u → get_or code i Inner ≡ code_by i
    pub own : get_or code v Inner ≡ Inner

pub code_is : (graph steps levels : List ℕ) (v top u delay : ℕ) (r : Code) (a : Label) → delay ≡ delay_in graph v
    → r ≡ code_for (is_logic (kind_at graph u)) (leq (arrival_in graph steps levels top delay u) a) → r ≡ code_by graph steps levels v top a u
code_is graph steps levels v top u delay r a d e = e ∙ ap (λ (n : ℕ). code_for (is_logic (kind_at graph u)) (leq (arrival_in graph steps levels top n u) a)) d

module _ {graph steps levels : List ℕ} {v top : ℕ} {a : Label} {code : List Code} where
  pub coded_none : length code ≡ 256 → get_or code v Inner ≡ Inner → Coded graph steps levels v top a code 0
  coded_none w h = record { wide = w; done = λ i l. absurd (omega arith); own = h }

  pub coded-more : {u : ℕ} {r : Code} → u < v → v < 256 → r ≡ code_by graph steps levels v top a u → Coded graph steps levels v top a code u
      → Coded graph steps levels v top a (set code u r) (u + 1)
  coded-more {u} {r} l w e h =
      let m : u < length code = omega (arith, h.wide) in
      record {
        wide = length-set code u r ∙ h.wide;
        done = below_more (λ i. get_or (set code u r) i Inner ≡ code_by graph steps levels v top a i) u
            (λ i b. get_or-set_other code u i r Inner (λ z. omega arith) ∙ h.done i b)
            (get_or-set_same code u r Inner m ∙ e);
        own = get_or-set_other code u v r Inner (λ z. omega arith) ∙ h.own;
      }

module _ {S : Sheet} {graph : List ℕ} {v : ℕ} {limits : R.Header} (placed : Placed S graph v limits) where
  pub placed-in : v < 256
  placed-in = omega (arith, placed.node, placed.well.size.most)

  module _ (steps levels : List ℕ) where
    -- the arrivals of the tables are the sheet's
    pub arrives_in : (u : ℕ) → u < 256 → arrival_in graph steps levels limits.top (delay_in graph v) u ≡ arrives S (label_in steps levels) v u
    unfolding arrival_in
    arrives_in u l =
        let a = label_in steps levels u in
        ap (λ (d : ℕ). plus limits.top (ready (latency_in graph u) (clock_in graph u) a) d) (placed.tabled.delays v placed-in)
        ∙ ap (λ (lat : ℕ). plus limits.top (ready lat (clock_in graph u) a) (node S v).delay) (placed.tabled.latencies u l)
        ∙ ap (λ (q : ℕ). plus limits.top (ready (latency S u) q a) (node S v).delay) (placed.tabled.clocks u l)
        ∙ ap (λ (t : ℕ). plus t (ready (latency S u) (clock_to_q S u) a) (node S v).delay) placed.tops

    module _ (a : Label) where
      pub asked_by : {code : List Code} → CodesBy graph steps levels code v limits.top a → Asked S (in_time graph steps levels v limits.top a) v graph code
      asked_by h =
          record {
            well = placed.well;
            tabled = placed.tabled;
            node = placed.node;
            logic = placed.logic;
            below = λ u l.
                h.below u l
                ∙ ap (λ (b : Bool). code_for b (in_time graph steps levels v limits.top a u))
                (ap is_logic (kind-tabled S graph placed.tabled u (omega (arith, placed-in))));
            own = h.own;
          }

      pub tried-by : (kept : List ℕ) (r : Bool) → TriedCut S (in_time graph steps levels v limits.top a) v limits.leaves kept r → TriedLevel S graph steps levels kept v limits.top a r
      tried-by kept true h =
          let row = h.3 in (
            record {
              leaves = h.0;
              fitting = record { cone = h.1.cone; is_cone = h.1.is_cone; is_cut = h.1.is_cut; fits = omega (arith, h.2, placed.leaves) };
              row = row;
            },
            λ j l.
                let m : j < length h.0 = omega (arith, row.count) in
                subst (λ (u : ℕ). arrival_in graph steps levels limits.top (delay_in graph v) u ≼ a) (sym (row.leaves j m))
                (leq-true (All-get (λ u. in_time graph steps levels v limits.top a u ≡ true) 0 h.0 h.1.allowed j m)),
          )
      tried-by kept false h = λ by.
          h (cut S by.cone)
          (record {
            cone = by.cone;
            is_cone = by.is_cone;
            is_cut = refl;
            allowed = All-of _ (cut S by.cone) (λ u m.
                let l : u < 256 = omega (arith, (leaf-read S by.cone u m).0, placed.well.size.most) in
                ≼-leq (subst (λ (b : Label). b ≼ a) (sym (arrives_in u l)) (All-at (λ u. arrives S (label_in steps levels) v u ≼ a) _ by.carries m)));
          })
          (omega (arith, by.fits, placed.leaves))
