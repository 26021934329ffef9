-- Labels in the arrays, and arrivals: what the code's answers are held to.
use Prim.Native.Nat.{ℕ, ◌+◌, ◌≤◌, ◌<◌, max}
use mathlib.Core.Path.{◌≡◌, refl, sym, subst, ap, ◌∙◌}
use mathlib.Core.Bool.{Bool, true, false, cond}
use mathlib.Core.List.{List}
use mathlib.Core.Logic.{◌⊎◌, inl, inr}
use native.Mathlib.Omega.{arith}
use native.Mathlib.Nat.{mod-lt}
use lib.Dec.{leb}
use borrow.Author.Tests.{eq-eqb}
use Rattle.maps.specs.Label.{Label, label, later, plus, ready, ◌≼◌}
use Rattle.maps.specs.Window.{between, next_open, open_label}
use Rattle.maps.proofs.Order.{≼_trans, later-is, later-left, later-right, ready-step}
use Rattle.maps.proofs.Windows.{code_here}
use Rattle.maps.proofs.Over.{last_or}
use Rattle.maps.proofs.Fix.{label-path}
use Rattle.types.specs.Code.{fitted}
use Rattle.rows.specs.Table.{latency_in, clock_in, delay_in, operand_in}
use Rattle.bound.specs.Lookup.{label_in, arrival_in, Soon, step_limit}
use Rattle.bound.specs.Bound.{Carrying, Latest}

-- a label whose step fits is as it was
fitted-same : (a : Label) → a.step ≤ 4294967295 → fitted a ≡ a
fitted-same a h = label-path (omega arith) refl

plus_step : (top d : ℕ) (a : Label) → (plus top a d).step ≤ a.step + 1
plus_step top d a = go (leb (a.level + d) top)
  where
    go : (t : Bool) → (cond t (label a.step (a.level + d)) (label (a.step + 1) d)).step ≤ a.step + 1
    go true = omega arith
    go false = omega arith

pub arrival-is : (graph steps levels : List ℕ) (top delay u lat clock : ℕ) (own mid r : Label) → own ≡ label_in steps levels u
    → lat ≡ latency_in graph u → clock ≡ clock_in graph u → mid ≡ fitted (ready lat clock own) → r ≡ fitted (plus top mid delay) → Soon graph steps u → r ≡ arrival_in graph steps levels top delay u
unfolding arrival_in
arrival-is graph steps levels top delay u lat clock own mid r p f k q e soon =
    let R = ready (latency_in graph u) (clock_in graph u) (label_in steps levels u) in
    let s = ready-step (latency_in graph u) (clock_in graph u) (label_in steps levels u) in
    let a : mid ≡ R = q ∙ rw (f, k, p) (fitted-same R (omega (arith, s))) in
    e ∙ ap (λ (x : Label). fitted (plus top x delay)) a ∙ fitted-same (plus top R delay) (omega (arith, plus_step top delay R, s))

-- what arrives fits
pub arrival-small : (graph steps levels : List ℕ) (top delay u : ℕ) → Soon graph steps u → (arrival_in graph steps levels top delay u).step ≤ step_limit
unfolding arrival_in
arrival-small graph steps levels top delay u soon =
    omega (
      arith,
      plus_step top delay (ready (latency_in graph u) (clock_in graph u) (label_in steps levels u)),
      ready-step (latency_in graph u) (clock_in graph u) (label_in steps levels u),
    )

-- a label where every step is open
pub open-whole : (p f t d : ℕ) (a : Label) → 0 < p → f ≡ 0 → t ≡ p → a ≡ open_label p (between 0 f t) d a
open-whole p f t d a l e h =
    let n = code_here p 0 f t a.step (omega arith) (omega (arith, mod-lt a.step l)) in
    sym (rw (eq-eqb (next_open p (between 0 f t) a.step) a.step (sym n)))

-- one more label
pub carrying-none : (top s : ℕ) (a : ℕ → Label) → Carrying top s 0 a 0
carrying-none top s a =
    record { most = omega arith; by = λ l m k j w. absurd (omega arith); least = λ l m w. omega arith }

pub carrying-more : (top s count : ℕ) (a : ℕ → Label) (r x q : ℕ) → Carrying top s count a r → Carrying top s 1 (λ j. a count) x → q ≡ max r x → Carrying top s (count + 1) a q
carrying-more top s count a r x q h g e =
    record {
      most = omega (arith, h.most, g.most);
      by = λ l m k j w. at l m k j (last_or j count (omega arith));
      least = λ l m w. omega (arith, h.least l m (λ j z. w j (omega arith)), g.least l m (λ j z. w count (omega arith)));
    }
  where
    at : (l : ℕ) → l ≤ top → q ≤ l → (j : ℕ) → (j < count) ⊎ (j ≡ count) → a j ≼ label s l
    at l m k j (inl w) = h.by l m (omega arith) j w
    at l m k j (inr w) = subst (λ (i : ℕ). a i ≼ label s l) (sym w) (g.by l m (omega arith) 0 (omega arith))

-- the latest of a label and the operands' arrivals, an operand at a time
module _ (graph steps levels : List ℕ) (v top : ℕ) (a : Label) where
  pub latest-more : (count : ℕ) (r x q : Label) (delay u : ℕ) → Latest graph steps levels v top count a r → delay ≡ delay_in graph v → u ≡ operand_in graph v count
      → x ≡ arrival_in graph steps levels top delay u → q ≡ later r x → Latest graph steps levels v top (count + 1) a q
  latest-more count r x q delay u h d o c p =
      subst (Latest graph steps levels v top (count + 1) a) (sym p)
      (record {
        from = ≼_trans h.from (later-left r x);
        all = λ j w. at j (last_or j count (omega arith));
        one = pick (later-is r x) h.one;
      })
    where
      e : x ≡ arrival_in graph steps levels top (delay_in graph v) (operand_in graph v count)
      e = c ∙ ap (λ (n : ℕ). arrival_in graph steps levels top n u) d ∙ ap (arrival_in graph steps levels top (delay_in graph v)) o

      at : (j : ℕ) → (j < count) ⊎ (j ≡ count) → arrival_in graph steps levels top (delay_in graph v) (operand_in graph v j) ≼ later r x
      at j (inl w) = ≼_trans (h.all j w) (later-left r x)
      at j (inr w) =
          subst (λ (b : Label). b ≼ later r x) (e ∙ ap (λ (i : ℕ). arrival_in graph steps levels top (delay_in graph v) (operand_in graph v i)) (sym w)) (later-right r x)

      One : ℕ → Label → Type 0
      One n b = (b ≡ a) ⊎ ((j : ℕ) × (j < n) × (b ≡ arrival_in graph steps levels top (delay_in graph v) (operand_in graph v j)))

      wider : One count r → One (count + 1) r
      wider (inl w) = inl w
      wider (inr w) = inr (w.0, omega (arith, w.1), w.2)

      pick : ((later r x ≡ x) × (r ≼ x)) ⊎ ((later r x ≡ r) × (x ≼ r)) → One count r → One (count + 1) (later r x)
      pick (inl w) g = inr (count, omega arith, w.0 ∙ e)
      pick (inr w) g = subst (One (count + 1)) (sym w.0) (wider g)
