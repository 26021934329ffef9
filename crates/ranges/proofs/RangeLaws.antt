-- The code's tables of field ranges are document 01's.
use Prim.Native.Nat.{ℕ, zero, suc, ◌+◌, ◌-◌, ◌≤◌, min, max}
use mathlib.Core.Path.{◌≡◌, refl, ap, ◌∙◌}
use native.Mathlib.Omega.{arith}
use Rattle.maps.specs.Limits.{Range, range, ranges_of, top_range, size_range, id_range, period_range, windows_range, box_range, from_range, to_range}
use Rattle.ranges.specs.Ranges.{span_of, span_meant, field_range, kind_ranges, up_to, clock_meant}
use Rattle.ranges.specs.declared.Span.{Span}
use Rattle.ranges.specs.declared.Ranges.{Ranges}
use Rattle.ranges.specs.declared.Field.TheVariants.{Id, Windows, From, To}

pub no-latency : (top lat : ℕ) (s : Span) → lat ≡ 0 → span_of (range 0 0) ≡ span_of (clock_meant top s lat)
no-latency top lat s e = rw e

pub some-latency : (top lat : ℕ) (r s : Span) → (lat ≡ 0 → ⊥) → (r.low ≡ s.low) × (r.high ≡ min top s.high) → r ≡ span_of (clock_meant top s lat)
some-latency top zero r s n h = absurd (n refl)
some-latency top (suc l) r s n h = rw (← h.0, ← h.1)

pub box-row : (code : ℕ) → (code ≡ 0 → ⊥) → (code ≡ 1 → ⊥) → kind_ranges 2 ≡ kind_ranges code
box-row zero n m = absurd (n refl)
box-row (suc zero) n m = absurd (m refl)
box-row (suc (suc k)) n m = refl

-- the table's row of a kind, for every T and every lat
record Right (top code lat : ℕ) (r : Ranges) : Type 0 where
  delay : up_to top r.delay ≡ (ranges_of top code).delay
  latency : span_meant r.latency ≡ (ranges_of top code).latency
  clock : clock_meant top r.clock lat ≡ (ranges_of top code).clock_to_q lat
  operands : span_meant r.operands ≡ (ranges_of top code).operands

ranges-right : (top code lat : ℕ) → top ≤ top_range.high → Right top code lat (kind_ranges code)
ranges-right top code lat l = go code lat
  where
    none : (lat : ℕ) → clock_meant top (span_of (range 0 0)) lat ≡ range 0 0
    none zero = refl
    none (suc lat) = ap (range 0) (omega arith)

    clocks : (lat : ℕ) → clock_meant top (span_of (range 0 top_range.high)) lat ≡ (ranges_of top 2).clock_to_q lat
    clocks zero = refl
    clocks (suc lat) = ap (range 0) (omega arith)

    go : (code lat : ℕ) → Right top code lat (kind_ranges code)
    go zero lat = record { delay = ap (range 0) (omega arith); latency = refl; clock = none lat; operands = refl }
    go (suc zero) lat = record { delay = ap (range 1) (omega arith); latency = refl; clock = none lat; operands = refl }
    go (suc (suc k)) lat = record { delay = ap (range 0) (omega arith); latency = refl; clock = clocks lat; operands = refl }

-- a span has a range's ends: `rw` finds these two numbers, and not the range
abbrev pub Ends : Span → Range → Type 0
Ends s r = (s.low ≡ r.low) × (s.high ≡ r.high)

ends : {r s : Range} → r ≡ s → Ends (span_of r) s
ends p = (ap (λ (x : Range). x.low) p, ap (λ (x : Range). x.high) p)

fielded : (all : Span) (r : Range) → all ≡ span_of r → Ends all r
fielded all r e = (ap (λ (s : Span). s.low) e, ap (λ (s : Span). s.high) e)

-- the ids of a sheet of n nodes; document 02, U8: the id of an entry, from low on; how many entries there may be; from and to where the period is p
module _ (all r : Span) where
  abbrev UpTo : ℕ → Type 0
  UpTo most = (r.low ≡ all.low) × (r.high ≡ min most all.high)

  abbrev AtLeast : ℕ → Type 0
  AtLeast least = (r.low ≡ max least all.low) × (r.high ≡ all.high)

  pub ids-right : (n : ℕ) → n ≤ size_range.high → all ≡ span_of (field_range Id) → UpTo (n - 1) → Ends r (id_range n)
  ids-right n l e h = let f = fielded all _ e in (h.0 ∙ f.0, omega (arith, h.1, f.1))

  pub boxes-right : (n low : ℕ) → Ends all (id_range n) → AtLeast low → Ends r (box_range n low)
  boxes-right n low f h = (omega (arith, h.0, f.0), h.1 ∙ f.1)

  pub windows-right : (n : ℕ) → n ≤ size_range.high → all ≡ span_of (field_range Windows) → UpTo n → Ends r (windows_range n)
  windows-right n l e h = let f = fielded all _ e in (h.0 ∙ f.0, omega (arith, h.1, f.1))

  pub from-right : (p : ℕ) → p ≤ period_range.high → all ≡ span_of (field_range From) → UpTo (p - 1) → Ends r (from_range p)
  from-right p l e h = let f = fielded all _ e in (h.0 ∙ f.0, omega (arith, h.1, f.1))

  pub ends-right : (p : ℕ) → p ≤ period_range.high → all ≡ span_of (field_range To) → UpTo p → Ends r (to_range p 0)
  ends-right p l e h = let f = fielded all _ e in (h.0 ∙ f.0, omega (arith, h.1, f.1))

  pub to-right : (p from : ℕ) → Ends all (to_range p 0) → AtLeast (from + 1) → Ends r (to_range p from)
  to-right p from f h = (omega (arith, h.0, f.0), h.1 ∙ f.1)

-- the delays of a kind where a step has the levels up to top, its latencies, its clock-to-Q levels by latency and its operand counts
module _ (top code : ℕ) (all : Ranges) (l : top ≤ top_range.high) (e : all ≡ kind_ranges code) where
  meant : (lat : ℕ) → Right top code lat all
  meant lat = rw e (ranges-right top code lat l)

  pub delays-right : (r : Span) → (r.low ≡ all.delay.low) × (r.high ≡ min top all.delay.high) → Ends r (ranges_of top code).delay
  delays-right r h = let m = ends (meant 0).delay in (h.0 ∙ m.0, h.1 ∙ m.1)

  pub latencies-right : Ends all.latency (ranges_of top code).latency
  latencies-right = ends (meant 0).latency

  pub clocks-right : (lat : ℕ) (r : Span) → r ≡ span_of (clock_meant top all.clock lat) → Ends r ((ranges_of top code).clock_to_q lat)
  clocks-right lat r h =
      let m = ends (meant lat).clock in
      (ap (λ (s : Span). s.low) h ∙ m.0, ap (λ (s : Span). s.high) h ∙ m.1)

  pub operands-right : Ends all.operands (ranges_of top code).operands
  operands-right = ends (meant 0).operands
