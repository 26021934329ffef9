-- The number at a position, byte by byte: each way that reading it ends.
use Prim.Native.Nat.{ℕ, ◌+◌, ◌-◌, ◌*◌, ◌<◌, ◌≤◌}
use mathlib.Core.Path.{◌≡◌}
use mathlib.Core.List.{List}
use native.Mathlib.Omega.{arith}
use lib.ListN.{length}
use borrow.Author.Tests.{le-ltb, lt-ltb, ne_eqb}
use Rattle.std.proofs.Common.{◌≢◌}
use Rattle.maps.specs.Number.{got, refusal, byte_at, groups, number_up_to, number}

module _ (s : List ℕ) (at : ℕ) where
  two : at + 1 + 1 ≡ at + 2
  two = omega arith

  three : at + 2 + 1 ≡ at + 3
  three = omega arith

  pub no-first : length s ≤ at → refusal 1 (length s) ≡ number s at
  unfolding number_up_to
  no-first e = rw (le-ltb _ _ e)

  module _ (low : ℕ) (first : (at < length s) × (low ≡ byte_at s at)) where
    pub one-byte : low < 128 → got low (at + 1) ≡ number s at
    unfolding number_up_to
    one-byte l = rw (lt-ltb _ _ first.0, ← first.1, lt-ltb _ _ l)

    module _ (more : 128 ≤ low) where
      pub no-second : length s ≤ at + 1 → refusal 1 (length s) ≡ number s at
      unfolding number_up_to groups
      no-second e = rw (lt-ltb _ _ first.0, ← first.1, le-ltb _ _ more, le-ltb _ _ e)

      module _ (middle : ℕ) (second : (at + 1 < length s) × (middle ≡ byte_at s (at + 1))) where
        pub second-zero : middle ≡ 0 → refusal 2 at ≡ number s at
        unfolding number_up_to groups
        second-zero z = rw (lt-ltb _ _ first.0, ← first.1, le-ltb _ _ more, lt-ltb _ _ second.0, ← second.1, z)

        pub two-bytes : middle ≢ 0 → middle < 128 → got (low - 128 + 128 * middle) (at + 2) ≡ number s at
        unfolding number_up_to groups
        two-bytes n l = rw (two, lt-ltb _ _ first.0, ← first.1, le-ltb _ _ more, lt-ltb _ _ second.0, ← second.1, lt-ltb _ _ l, ne_eqb _ _ n)

        module _ (most : 128 ≤ middle) where
          pub no-third : length s ≤ at + 2 → refusal 1 (length s) ≡ number s at
          unfolding number_up_to groups
          no-third e = rw (two, lt-ltb _ _ first.0, ← first.1, le-ltb _ _ more, lt-ltb _ _ second.0, ← second.1, le-ltb _ _ most, le-ltb _ _ e)

          module _ (high : ℕ) (third : (at + 2 < length s) × (high ≡ byte_at s (at + 2))) where
            pub third-zero : high ≡ 0 → refusal 2 at ≡ number s at
            unfolding number_up_to groups
            third-zero z =
                rw (two, lt-ltb _ _ first.0, ← first.1, le-ltb _ _ more, lt-ltb _ _ second.0, ← second.1, le-ltb _ _ most, lt-ltb _ _ third.0, ← third.1, z)

            pub third-large : 128 ≤ high → refusal 2 at ≡ number s at
            unfolding number_up_to groups
            third-large l =
                rw (
                  two,
                  lt-ltb _ _ first.0,
                  ← first.1,
                  le-ltb _ _ more,
                  lt-ltb _ _ second.0,
                  ← second.1,
                  le-ltb _ _ most,
                  lt-ltb _ _ third.0,
                  ← third.1,
                  le-ltb _ _ l,
                )

            pub three-bytes : high ≢ 0 → high < 128 → got (low - 128 + 128 * (middle - 128 + 128 * high)) (at + 3) ≡ number s at
            unfolding number_up_to groups
            three-bytes n l =
                rw (
                  two,
                  three,
                  lt-ltb _ _ first.0,
                  ← first.1,
                  le-ltb _ _ more,
                  lt-ltb _ _ second.0,
                  ← second.1,
                  le-ltb _ _ most,
                  lt-ltb _ _ third.0,
                  ← third.1,
                  lt-ltb _ _ l,
                  ne_eqb _ _ n,
                )
