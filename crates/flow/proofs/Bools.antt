-- Tests: their cases, and what `&&`, `||` and `not` make of them.
use mathlib.Core.Path.{◌≡◌, refl, sym, ap, ◌∙◌}
use mathlib.Core.Logic.{◌⊎◌, inl, inr}
use mathlib.Core.Bool.{Bool, true, false, not, ◌&&◌, ◌||◌}
use Prim.Native.Nat.{ℕ, ◌≤◌}
use native.Mathlib.Omega.{arith}
use Rattle.flow.specs.Search.{bit}

pub bool : (b : Bool) → (b ≡ true) ⊎ (b ≡ false)
bool true = inl refl
bool false = inr refl

pub differ : (b : Bool) → b ≡ true → b ≡ false → ⊥
differ b t f = let z : ◌≡◌ {A = ℕ} 0 1 = ap bit (sym f ∙ t) in omega arith

pub bit-true : (b : Bool) → 1 ≤ bit b → b ≡ true
bit-true true h = refl
bit-true false h = absurd (omega arith)

pub and_yes : (a b : Bool) → a ≡ true → b ≡ true → (a && b) ≡ true
and_yes a b t u = ap (λ (x : Bool). x && b) t ∙ u

pub or_left : (a b : Bool) → a ≡ true → (a || b) ≡ true
or_left a b t = ap (λ (x : Bool). x || b) t

-- not the first, but the second
pub out-yes : (a b : Bool) → a ≡ false → b ≡ true → (not a && b) ≡ true
out-yes a b e f = ap (λ (a : Bool). not a && b) e ∙ f

pub out-no : (a b : Bool) → (not a && b) ≡ true → (a ≡ false) × (b ≡ true)
out-no true b t = absurd (differ false t refl)
out-no false b t = (refl, t)
