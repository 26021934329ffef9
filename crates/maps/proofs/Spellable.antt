-- Every number that the sheet's form lets pass has a spelling.
use Prim.Native.Nat.{ℕ, zero, suc, ◌+◌, ◌≤◌, ◌<◌}
use mathlib.Core.Path.{◌≡◌}
use mathlib.Core.Bool.{Bool, true}
use mathlib.Core.List.{List, [], ◌∷◌}
use native.Mathlib.Omega.{arith}
use borrow.Author.Tests.{ltb-true}
use Rattle.maps.specs.Lists.{All}
use Rattle.maps.specs.Sheet.{Sheet, box_in}
use Rattle.maps.specs.Number.{values}
use Rattle.maps.specs.Limits.{Range, leaves_range, top_range, horizon_range, size_range, count_range, kind_range, mark_range, id_range, weight_range, ranges_of, period_range, windows_range, box_range, from_range, to_range}
use Rattle.maps.specs.Form.{among, under, passes, Form, done, ask, ◌>>=◌, asked, each, times, chain, Leads}
use Rattle.maps.specs.Read.{node_of, head_form, node_form, difference_form, window_form, next_id, cycle_of, cycle_form, Header, header_form, sheet_of, sheet_form}
use Rattle.maps.proofs.Parse.{in-range, in-boxed}
use Rattle.maps.proofs.Along.{after_differences, after_nodes, after_header}

-- each number that passes has a spelling, and what the form ends in has the property
abbrev Spells : {A : Type 0} → (A → Type 0) → Form A → Type 0
Spells P (done a) = P a
Spells P (ask r f) = (x : ℕ) → passes r x ≡ true → (x < values) × Spells P (f x)

abbrev Any : {A : Type 0} → A → Type 0
Any a = Unit {0}

spells-bind : {A B : Type 0} (P : A → Type 0) (Q : B → Type 0) (f : Form A) (g : A → Form B) → Spells P f → ((a : A) → P a → Spells Q (g a)) → Spells Q (◌>>=◌ f g)
spells-bind P Q (done a) g h k = k a h
spells-bind P Q (ask r f) g h k = λ x p. let t = h x p in (t.0, spells-bind P Q (f x) g t.1 k)

spells-each : {A : Type 0} (f : ℕ → Form A) (i n : ℕ) → ((j : ℕ) → j < i + n → Spells Any (f j)) → Spells Any (each f i n)
spells-each f i zero h = tt
spells-each f i (suc n) h =
    spells-bind Any Any (f i) (λ a. ◌>>=◌ (each f (i + 1) n) (λ rest. done (a ∷ rest))) (h i (omega arith)) λ a u.
    spells-bind Any Any (each f (i + 1) n) (λ rest. done (a ∷ rest)) (spells-each f (i + 1) n (λ j l. h j (omega arith))) λ rest v. tt

spells-chain : {A : Type 0} (next : A → ℕ) (f : ℕ → Form A) → ((j : ℕ) → Spells Any (f j)) → (i n : ℕ) → Spells Any (chain next f i n)
spells-chain next f h i zero = tt
spells-chain next f h i (suc n) =
    spells-bind Any Any (f i) (λ a. ◌>>=◌ (chain next f (next a) n) (λ rest. done (a ∷ rest))) (h i) λ a u.
    spells-bind Any Any (chain next f (next a) n) (λ rest. done (a ∷ rest)) (spells-chain next f h (next a) n) λ rest v. tt

-- a range whose values can be spelled
fits : (r : Range) (x : ℕ) → r.high < values → passes (among r) x ≡ true → x < values
fits r x l p = omega (arith, (in-range r x p).most)

-- a node's ranges, of any kind
pub ranges-fit : (top kind lat : ℕ) → top ≤ top_range.high
    → ((ranges_of top kind).delay.high < values) × ((ranges_of top kind).latency.high < values) × (((ranges_of top kind).clock_to_q lat).high < values)
    × ((ranges_of top kind).operands.high < values)
ranges-fit top zero lat l = omega arith
ranges-fit top (suc zero) lat l = omega arith
ranges-fit top (suc (suc k)) zero l = omega arith
ranges-fit top (suc (suc k)) (suc lat) l = omega arith

spells-head : (top : ℕ) → top ≤ top_range.high → Spells Any (head_form top)
unfolding head_form
spells-head top l = λ kind pk. (
  fits kind_range kind (omega arith) pk,
  λ mark pm. (
    fits mark_range mark (omega arith) pm,
    λ d pd. (
      fits (ranges_of top kind).delay d (ranges-fit top kind 0 l).0 pd,
      λ lat pl. (
        fits (ranges_of top kind).latency lat (ranges-fit top kind 0 l).1 pl,
        λ q pq. (
          fits ((ranges_of top kind).clock_to_q lat) q (ranges-fit top kind lat l).2 pq,
          λ count pc. (fits (ranges_of top kind).operands count (ranges-fit top kind lat l).3 pc, tt),
        ),
      ),
    ),
  ),
)

-- operand ids lie below that of a node
spells-node : (top own : ℕ) → top ≤ top_range.high → own < size_range.high → Spells Any (node_form top own)
unfolding node_form
spells-node top own lt lo =
    spells-bind Any Any (head_form top) (λ h. ◌>>=◌ (times h.count (asked (under own))) (λ ids. done (node_of h ids))) (spells-head top lt) λ h u.
    spells-bind Any Any (times h.count (asked (under own))) (λ ids. done (node_of h ids))
    (spells-each (λ i. asked (under own)) 0 h.count (λ j l x p. (omega (arith, ltb-true x own p), tt))) λ ids v. tt

spells-difference : (n : ℕ) → n ≤ size_range.high → Spells Any (difference_form n)
unfolding difference_form
spells-difference n l = λ u pu. (
  fits (id_range n) u (omega arith) pu,
  λ v pv. (fits (id_range n) v (omega arith) pv, λ c pc. (fits weight_range c (omega arith) pc, tt)),
)

-- an id lies below n, and from and to within the period
spells-window : (n : ℕ) (is_box : ℕ → Bool) (p low : ℕ) → n ≤ size_range.high → p ≤ period_range.high → Spells Any (window_form n is_box p low)
unfolding window_form
spells-window n is_box p low ln lp = λ id pi. (
  omega (arith, (in-boxed (box_range n low) is_box id pi).0.most),
  λ from pf. (fits (from_range p) from (omega arith) pf, λ to pt. (fits (to_range p from) to (omega arith) pt, tt)),
)

spells-cycle : (n : ℕ) (is_box : ℕ → Bool) → n ≤ size_range.high → Spells Any (cycle_form n is_box)
unfolding cycle_form
spells-cycle n is_box l = λ p pp. (
  fits period_range p (omega arith) pp,
  λ count pc. (
    fits (windows_range n) count (omega arith) pc,
    spells-bind Any Any (chain next_id (window_form n is_box p) 0 count) (λ ws. done (cycle_of p ws))
        (spells-chain next_id (window_form n is_box p) (λ j. spells-window n is_box p j l (in-range period_range p pp).most) 0 count) λ ws v. tt,
  ),
)

-- T and n bound what comes after the header
abbrev Bounded : Header → Type 0
Bounded h = (h.top ≤ top_range.high) × (h.nodes ≤ size_range.high)

spells-header : Spells Bounded header_form
unfolding header_form
spells-header = λ k pk. (
  fits leaves_range k (omega arith) pk,
  λ t pt. (
    fits top_range t (omega arith) pt,
    λ h ph. (
      fits horizon_range h (omega arith) ph,
      λ n pn. (
        fits size_range n (omega arith) pn,
        λ m pm. (fits count_range m (omega arith) pm, ((in-range top_range t pt).most, (in-range size_range n pn).most)),
      ),
    ),
  ),
)

spells-sheet : Spells Any sheet_form
unfolding sheet_form
spells-sheet =
    spells-bind Bounded Any header_form after_header spells-header λ h b.
    spells-bind Any Any (each (node_form h.top) 0 h.nodes) (after_nodes h)
    (spells-each (node_form h.top) 0 h.nodes (λ j l. spells-node h.top j b.0 (omega (arith, b.1)))) λ vs u.
    spells-bind Any Any (times h.differences (difference_form h.nodes)) (after_differences h vs)
    (spells-each (λ i. difference_form h.nodes) 0 h.differences (λ j l. spells-difference h.nodes b.1)) λ ds v.
    spells-bind Any Any (cycle_form h.nodes (box_in vs)) (λ c. done (sheet_of h vs ds c)) (spells-cycle h.nodes (box_in vs) b.1) λ c w. tt

leads-spelled : {A : Type 0} (P : A → Type 0) (f g : Form A) (ns : List ℕ) → Spells P f → Leads f ns g → All (λ n. n < values) ns
leads-spelled P f g [] h l = tt
leads-spelled P (done a) g (n ∷ ns) h l = absurd l
leads-spelled P (ask r f) g (n ∷ ns) h l = let t = h n l.0 in (t.0, leads-spelled P (f n) g ns t.1 l.1)

-- the ranges and the operands' bounds all lie below the least number without a spelling
pub leads-small : (ns : List ℕ) (g : Form Sheet) → Leads sheet_form ns g → All (λ n. n < values) ns
leads-small ns g = leads-spelled Any sheet_form g ns spells-sheet
