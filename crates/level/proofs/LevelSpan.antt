-- The search for a logic node's level: the span of levels narrows, and a cut that carries its high end is kept.
use Prim.Native.Nat.{ℕ, ◌+◌, ◌≤◌, ◌<◌, max}
use mathlib.Core.Path.{◌≡◌, refl, sym, subst, ap, ◌∙◌}
use mathlib.Core.Bool.{Bool, true, false}
use mathlib.Core.List.{List}
use native.Mathlib.Omega.{arith}
use lib.ListN.{length, get_or}
use Rattle.maps.specs.Label.{Label, label}
use Rattle.maps.specs.Sheet.{Sheet, Kind, input, logic, box, is_logic, node}
use Rattle.maps.specs.Lists.{All}
use Rattle.maps.specs.Cut.{cut}
use Rattle.maps.proofs.Member.{All-of, All-get}
use Rattle.maps.proofs.Planned.{ordered}
use Rattle.maps.proofs.UsedNodes.{leaf-below}
use Rattle.rows.specs.Table.{delay_in}
use Rattle.rows.specs.declared.Header as R
use Rattle.relax.specs.Guard.{Forced}
use Rattle.relax.proofs.Closed.{well-closed}
use Rattle.relax.proofs.Forced.{forced-level}
use Rattle.bound.specs.Lookup.{label_in, arrival_in, Soon, count_of, leaf_of, Beside}
use Rattle.bound.specs.Bound.{Carrying}
use Rattle.bound.specs.Going.{Keeps}
use Rattle.level.specs.Carry.{Leaves, Placed, Arrive, Between}
use Rattle.level.specs.Span.{TriedLevel, Narrowed, Levelled}
use Rattle.level.proofs.LevelCodes.{placed-in}

logic-kind : (k : Kind) → is_logic k ≡ true → k ≡ logic
logic-kind input e = let z : ◌≡◌ {A = ℕ} 0 1 = cc in absurd (omega arith)
logic-kind logic e = refl
logic-kind (box lat q) e = let z : ◌≡◌ {A = ℕ} 0 1 = cc in absurd (omega arith)

module _ {S : Sheet} {graph : List ℕ} {v : ℕ} {limits : R.Header} (placed : Placed S graph v limits) where
  pub placed-kind : (node S v).kind ≡ logic
  placed-kind = logic-kind (node S v).kind placed.logic

  module _ {kept : List ℕ} (h : Keeps S kept v) where
    -- the kept leaves are below v
    pub kept-below : (j : ℕ) → j < length h.leaves → get_or h.leaves j 0 < v
    kept-below j m =
        let f = h.fitting in
        All-get (λ u. u < v) 0 h.leaves
        (subst (All (λ u. u < v)) (sym f.is_cut)
        (All-of _ (cut S f.cone) (λ u i. leaf-below S (ordered S placed.well) v f.cone f.is_cone u i)))
        j m

    pub kept_leaves : {steps : List ℕ} → ((u : ℕ) → u < v → Soon graph steps u) → Leaves graph steps kept v
    kept_leaves soon =
        record {
          node = placed-in placed;
          few = omega (arith, h.row.count, h.fitting.fits, placed.well.leaves.most);
          ids = λ j l. omega (arith, under j l, placed-in placed);
          soon = λ j l. soon (leaf_of kept v j) (under j l);
        }
      where
        under : (j : ℕ) → j < count_of kept v → leaf_of kept v j < v
        under j l =
            let m : j < length h.leaves = omega (arith, h.row.count) in
            omega (arith, h.row.leaves j m, kept-below j m)

-- the label at which leaf j of v's kept cut arrives
abbrev pub arrival_of : (graph steps levels kept : List ℕ) (v top : ℕ) → ℕ → Label
arrival_of graph steps levels kept v top j = arrival_in graph steps levels top (delay_in graph v) (leaf_of kept v j)

pub leaf-arrives : (graph steps levels kept : List ℕ) (v top j delay u : ℕ) → {a : Label} → delay ≡ delay_in graph v → u ≡ leaf_of kept v j → a ≡ arrival_in graph steps levels top delay u
    → a ≡ arrival_of graph steps levels kept v top j
leaf-arrives graph steps levels kept v top j delay u d l e =
    e ∙ ap (λ (n : ℕ). arrival_in graph steps levels top n u) d ∙ ap (arrival_in graph steps levels top (delay_in graph v)) l

module _ (graph steps levels : List ℕ) (v : ℕ) (limits : R.Header) (s : ℕ) where
  -- what the question about level l answers of each sheet
  abbrev pub Tried : List ℕ → ℕ → Bool → Type 0
  Tried kept l r = (S : Sheet) → Placed S graph v limits → TriedLevel S graph steps levels kept v limits.top (label s l) r

  -- the question was about the label of level l
  pub tried-at : (kept : List ℕ) (l : ℕ) (r : Bool) (a : Label) → a ≡ label s l
      → ((S : Sheet) → Placed S graph v limits → TriedLevel S graph steps levels kept v limits.top a r) → Tried kept l r
  tried-at kept l r a e tried S p = subst (λ (b : Label). TriedLevel S graph steps levels kept v limits.top b r) e (tried S p)

  pub tried-true : (kept : List ℕ) (l : ℕ) (r : Bool) → r ≡ true → Tried kept l r → (S : Sheet) → Placed S graph v limits → Keeps S kept v × Arrive graph steps levels kept v limits.top (label s l)
  tried-true kept l r e tried S p = subst (TriedLevel S graph steps levels kept v limits.top (label s l)) e (tried S p)

  -- the span from a to b, some turns on
  pub record Spanned (kept more : List ℕ) (low a b : ℕ) : Type 0 where
    pub order : a ≤ b
    pub most : b ≤ limits.top + 1
    pub from : low ≤ a
    pub between : (S : Sheet) → Placed S graph v limits → Keeps S kept v → Forced S (label_in steps levels) v (label s low) → Between S graph steps levels more v limits.top s a b
    pub beside : Beside v kept more

module _ {graph steps levels kept more : List ℕ} {v : ℕ} {limits : R.Header} {s low high l : ℕ} where
  -- no cut carries level l: the next one is the low end
  pub narrowed-up : low ≤ l → l < high → high ≤ limits.top + 1 → (r : Bool) → r ≡ false → more ≡ kept → Tried graph steps levels v limits s more l r
      → Narrowed graph steps levels kept more v limits s low high (l + 1) high
  narrowed-up a b c r f e tried =
      record {
        order = omega arith;
        most = c;
        from = omega arith;
        less = omega arith;
        between = λ S p h.
            record {
              forced = forced-level S (well-closed S p.well) (label_in steps levels) v p.node (placed-kind p) (label s l)
                  (subst (TriedLevel S graph steps levels more v limits.top (label s l)) f (tried S p));
              keeps = subst (λ (m : List ℕ). Keeps S m v) (sym e) h.keeps;
              by = λ g. subst (λ (m : List ℕ). Arrive graph steps levels m v limits.top (label s high)) (sym e) (h.by g);
            };
        beside = λ i o. ap (λ (m : List ℕ). get_or m i 0) e;
      }

  -- a cut that carries level l is kept: the least level that it carries is the high end
  pub narrowed-down : {r q : ℕ} → low < high → l < high → high ≤ limits.top + 1 → Carrying limits.top s (count_of more v) (arrival_of graph steps levels more v limits.top) r → q ≡ max r low
      → ((S : Sheet) → Placed S graph v limits → Keeps S more v × Arrive graph steps levels more v limits.top (label s l))
      → (S : Sheet) → Placed S graph v limits → Beside v kept more
      → Narrowed graph steps levels kept more v limits s low high low q
  narrowed-down {r} {q} a b c carries e some one placed beside =
      let early : r ≤ l = carries.least l (omega arith) (some one placed).1 in
      record {
        order = omega arith;
        most = omega arith;
        from = omega arith;
        less = omega arith;
        between = λ S p h.
            record { forced = h.forced; keeps = (some S p).0; by = λ g. carries.by q g (omega arith) };
        beside = beside;
      }

module _ {graph steps levels kept : List ℕ} {v : ℕ} {limits : R.Header} {s low : ℕ} where
  pub spanned-first : {r q : ℕ} → low ≤ limits.top + 1 → Carrying limits.top s (count_of kept v) (arrival_of graph steps levels kept v limits.top) r → q ≡ max r low → Spanned graph steps levels v limits s kept kept low low q
  spanned-first {r} {q} l carries e =
      record {
        order = omega arith;
        most = omega (arith, carries.most);
        from = omega arith;
        between = λ S p keeps forced.
            record { forced = forced; keeps = keeps; by = λ g. carries.by q g (omega arith) };
        beside = λ i o. refl;
      }

  pub spanned-more : {mid more : List ℕ} {a b a' b' : ℕ} → Spanned graph steps levels v limits s kept mid low a b → Narrowed graph steps levels mid more v limits s a b a' b'
      → Spanned graph steps levels v limits s kept more low a' b'
  spanned-more h n =
      record {
        order = n.order;
        most = n.most;
        from = omega (arith, h.from, n.from);
        between = λ S p keeps forced. n.between S p (h.between S p keeps forced);
        beside = λ i o. n.beside i o ∙ h.beside i o;
      }

  pub spanned-last : {more : List ℕ} {a b : ℕ} → b ≤ a → Spanned graph steps levels v limits s kept more low a b → Levelled graph steps levels kept more v limits s low b
  spanned-last {more} {a} {b} l h =
      let e : a ≡ b = omega (arith, h.order) in
      record {
        from = omega (arith, h.from);
        most = h.most;
        between = λ S p keeps forced.
            subst (λ (x : ℕ). Between S graph steps levels more v limits.top s x b) e (h.between S p keeps forced);
        beside = h.beside;
      }
