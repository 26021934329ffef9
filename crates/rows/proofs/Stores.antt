-- Laws of storing numbers one after the other.
use Prim.Native.Nat.{ℕ, ◌+◌}
use mathlib.Core.Path.{◌≡◌, refl}
use mathlib.Core.List.{List, [], ◌∷◌}
use native.Mathlib.Omega.{arith}
use lib.ListN.{set}
use Rattle.rows.specs.Table.{store_from}

pub store_two : (g : List ℕ) (p a b : ℕ) → set (set g p a) (p + 1) b ≡ store_from g p (a ∷ b ∷ [])
unfolding store_from
store_two g p a b = refl

pub store-four : (g : List ℕ) (p a b c d : ℕ) → set (set (set (set g p a) (p + 1) b) (p + 2) c) (p + 3) d ≡ store_from g p (a ∷ b ∷ c ∷ d ∷ [])
unfolding store_from
store-four g p a b c d =
    let two : p + 1 + 1 ≡ p + 2 = omega arith in
    let three : p + 2 + 1 ≡ p + 3 = omega arith in
    rw (two, three)

pub store-six : (g : List ℕ) (p a b c d e f : ℕ)
    → set (set (set (set (set (set g p a) (p + 1) b) (p + 2) c) (p + 3) d) (p + 4) e) (p + 5) f ≡ store_from g p (a ∷ b ∷ c ∷ d ∷ e ∷ f ∷ [])
unfolding store_from
store-six g p a b c d e f =
    let two : p + 1 + 1 ≡ p + 2 = omega arith in
    let three : p + 2 + 1 ≡ p + 3 = omega arith in
    let four : p + 3 + 1 ≡ p + 4 = omega arith in
    let five : p + 4 + 1 ≡ p + 5 = omega arith in
    rw (two, three, four, five)
