-- The order of words is that in which `cmp` puts their bytes.
use Prim.Native.Nat.{ℕ}
use mathlib.Core.Path.{◌≡◌, refl, ap, ◌∙◌}
use mathlib.Core.Bool.{Bool, true, false, cond}
use mathlib.Core.List.{List, [], ◌∷◌}
use native.Mathlib.Omega.{arith}
use lib.Dec.{ltb}
use borrow.Author.Tests.{ltb-true, ltb-false, ne_eqb, eq-eqb}
use Rattle.std.specs.Ordering.{nat_cmp, ordering_then}
use Rattle.std.specs.Cmp.Lexicographic.{slice_cmp}
use Rattle.std.specs.declared.cmp.Ordering.{Ordering}
use Rattle.std.specs.declared.cmp.Ordering.TheVariants as Is
use Rattle.distinct.specs.Sorting.{order}

first : (x y : ℕ) (o : Ordering) → ordering_then (nat_cmp x y) o ≡ cond (ltb x y) Is.Less (cond (ltb y x) Is.Greater o)
first x y o = go (ltb x y) refl (ltb y x) refl
  where
    go : (s : Bool) → ltb x y ≡ s → (t : Bool) → ltb y x ≡ t → ordering_then (nat_cmp x y) o ≡ cond s Is.Less (cond t Is.Greater o)
    go true e t f = rw e refl
    go false e true f = rw (e, ne_eqb x y (λ q. absurd (omega (arith, ltb-true y x f, q)))) refl
    go false e false f = rw (e, eq-eqb x y (omega (arith, ltb-false x y e, ltb-false y x f))) refl

pub order_by-bytes : (v w : List ℕ) → slice_cmp nat_cmp v w ≡ order v w
order_by-bytes [] [] = refl
order_by-bytes [] (y ∷ w) = refl
order_by-bytes (x ∷ v) [] = refl
order_by-bytes (x ∷ v) (y ∷ w) = first x y (slice_cmp nat_cmp v w) ∙ ap (λ o. cond (ltb x y) Is.Less (cond (ltb y x) Is.Greater o)) (order_by-bytes v w)
