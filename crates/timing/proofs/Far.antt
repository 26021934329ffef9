-- The labels of any horizon, found within the farthest one that least labels need.
use Prim.Native.Nat.{ℕ, ◌≤◌, ◌<◌}
use mathlib.Core.Path.{◌≡◌, refl, sym, subst, ap, ◌∙◌}
use mathlib.Core.Bool.{Bool, true, false}
use mathlib.Core.List.{List, []}
use native.Mathlib.Omega.{arith}
use lib.Dec.{eqb}
use borrow.Author.Tests.{eqb-true, eqb-false}
use Rattle.maps.specs.Label.{Label, label}
use Rattle.maps.specs.Sheet.{Sheet}
use Rattle.maps.specs.Least.{late, least, least_within, ready_bound, least_ever}
use Rattle.maps.specs.Outcome.{cutless}
use Rattle.maps.proofs.Over.{get_d_over}
use Rattle.rows.specs.Cells.{Ends}
use Rattle.rows.specs.declared.Header as R
use Rattle.never.proofs.ReadyBounds.{ready-most}
use Rattle.never.proofs.Horizons.{far-ever}
use Rattle.bound.specs.Lookup.{label_in, labels_in, Soon}
use Rattle.bound.specs.Going.{Given}
use Rattle.bound.proofs.Safety.{node_in, latency-is}
use Rattle.schedule.proofs.Exact.{labels-exact}
use Rattle.timing.specs.Timing.{Far, Searched}

-- labels were found within the horizon of the limits, or there are none
abbrev pub Sought : (S : Sheet) (limits : R.Header) (steps levels : List ℕ) → Bool → Type 0
Sought S limits steps levels b =
    Ends b (least_within S limits.horizon ≡ least (labels_in limits.nodes steps levels)) (least_within S limits.horizon ≡ late)

module _ {S : Sheet} {graph differences : List ℕ} {limits : R.Header} (g : Given S graph differences limits) {far : R.Header} (f : Far limits far) where
  pub far-given : Given S graph differences far
  far-given =
      record {
        well = g.well;
        tabled = g.tabled;
        listed = g.listed;
        leaves = f.leaves ∙ g.leaves;
        top = f.top ∙ g.top;
        near = f.near;
        nodes = f.nodes ∙ g.nodes;
        count = f.differences ∙ g.count;
        period = f.period ∙ g.period;
        windows = f.windows ∙ g.windows;
      }

  -- no least label is later
  ready-near : ready_bound S ≤ far.horizon
  ready-near = omega (arith, ready-most S g.well, f.farthest)

  module _ (free : S.windows ≡ []) (cuts : cutless S ≡ []) where
    -- what is found within it are the labels of any horizon
    pub far-late : least_within S far.horizon ≡ late → least_ever S ≡ late
    far-late e = sym (far-ever S g.well free cuts far.horizon ready-near) ∙ e

    module _ (steps levels : List ℕ) (e : least_within S far.horizon ≡ least (labels_in far.nodes steps levels)) where
      found : least_within S far.horizon ≡ least (labels_in limits.nodes steps levels)
      found = e ∙ ap (λ (n : ℕ). least (labels_in n steps levels)) f.nodes

      pub far-least : least_ever S ≡ least (labels_in limits.nodes steps levels)
      far-least = sym (far-ever S g.well free cuts far.horizon ready-near) ∙ found

      -- and they are ready in time for the code's numbers
      pub far-soon : (u : ℕ) → u < limits.nodes → Soon graph steps u
      far-soon u l =
          let h = labels-exact S g.well cuts far.horizon (labels_in limits.nodes steps levels) true found in
          omega (
            arith,
            f.near,
            (h.legal.nodes u (node_in g u l).0).ends,
            ap (λ (a : Label). a.step) (get_d_over (label_in steps levels) (label 0 0) limits.nodes u l),
            latency-is g u l,
          )

    -- so are what is found and what is not
    pub far-ends : (steps levels : List ℕ) (b : Bool) → Sought S far steps levels b → Ends b (least_ever S ≡ least (labels_in limits.nodes steps levels)) (least_ever S ≡ late)
    far-ends steps levels true e = far-least steps levels e
    far-ends steps levels false e = far-late e

-- the limits within which labels are sought are the sheet's, but for the horizon
pub searched-given : {S : Sheet} {graph differences : List ℕ} {limits within : R.Header} → Given S graph differences limits → Searched limits within
    → Given S graph differences within
searched-given {S} {graph} {differences} {limits} {within} g s = go (eqb limits.windows 0) refl
  where
    go : (b : Bool) → eqb limits.windows 0 ≡ b → Given S graph differences within
    go true e = far-given g (s.far (eqb-true limits.windows 0 e))
    go false e = subst (Given S graph differences) (sym (s.own (eqb-false limits.windows 0 e))) g
