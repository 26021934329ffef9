-- The tests of the caller's numbers, one by one.
use Prim.Native.Nat.{ℕ, ◌≤◌, ◌<◌}
use mathlib.Core.Path.{◌≡◌, ap}
use mathlib.Core.Bool.{Bool, true, false}
use native.Mathlib.Omega.{arith}
use native.Mathlib.Nat.{le-mul_of_pos_right}
use lib.Dec.{leb}
use borrow.Author.Tests.{le-leb, lt-leb}
use Rattle.std.proofs.Math.Bool.{and-false}
use Rattle.maps.specs.Limits.{Range, leaves_range, top_range, horizon_range}
use Rattle.maps.specs.Form.{among, passes}
use Rattle.ranges.specs.declared.Span.{Span}
use Rattle.ranges.specs.Ranges.{span_of}
use Rattle.blif.specs.Limits.{Caller, delay_of, delay, callable}
use Rattle.blif.proofs.Rounding.{rounded-up}

-- A table fits in as many levels as it has picoseconds, and d is the least such number.
pub delay-most : (table level : ℕ) → 1 ≤ level → delay_of table level ≤ table
delay-most table level h = (rounded-up table level h).least table (le-mul_of_pos_right table h)

-- a number below its range, and any other
module _ (s : Span) (r : Range) (x : ℕ) (e : s ≡ span_of r) where
  pub passes-low : x < s.low → passes (among r) x ≡ false
  passes-low l = let k : x < r.low = omega (arith, ap (λ (t : Span). t.low) e) in rw (lt-leb r.low x k)

  pub passes-from : s.low ≤ x → leb x s.high ≡ passes (among r) x
  passes-from l =
      let k : r.low ≤ x = omega (arith, ap (λ (t : Span). t.low) e) in
      rw (le-leb r.low x k) (ap (λ (t : Span). leb x t.high) e)

module _ (c : Caller) where
  -- the tests of K, T, H and d
  abbrev k : Bool
  k = passes (among leaves_range) c.leaves

  abbrev t : Bool
  t = passes (among top_range) c.top

  abbrev h : Bool
  h = passes (among horizon_range) c.horizon

  abbrev d : Bool
  d = leb (delay c) c.top

  -- a test that fails, whatever the others are
  pub leaves-fail : k ≡ false → callable c ≡ false
  leaves-fail e = rw e

  pub top-fail : t ≡ false → callable c ≡ false
  top-fail e = rw (e, and-false)

  pub horizon-fail : h ≡ false → callable c ≡ false
  horizon-fail e = rw (e, and-false)

  pub table-fail : c.table < 1 → callable c ≡ false
  table-fail l = rw (lt-leb 1 c.table l, and-false)

  pub level-fail : c.level < 1 → callable c ≡ false
  level-fail l = rw (lt-leb 1 c.level l, and-false)

  -- where the others hold, d decides
  pub delay-decides : k ≡ true → t ≡ true → h ≡ true → 1 ≤ c.table → 1 ≤ c.level → callable c ≡ d
  delay-decides a b e f g = rw (a, b, e, le-leb 1 c.table f, le-leb 1 c.level g)
