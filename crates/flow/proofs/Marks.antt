-- Marks read as tests: the nodes inside, and the leaves.
use mathlib.Core.Path.{◌≡◌, refl, sym, ap}
use mathlib.Core.List.{List}
use mathlib.Core.Bool.{Bool, true, false, not, ◌&&◌}
use Prim.Native.Nat.{ℕ, ◌+◌, ◌<◌}
use lib.Dec.{ltb}
use lib.ListN.{get_or}
use borrow.Author.Tests.{lt-ltb, ltb-true}
use Rattle.maps.proofs.Over.{and-true}
use Rattle.flow.specs.Search.{Seen, member, leaf_mark}
use Rattle.flow.proofs.Bools.{differ, and_yes}

pub member-yes : (s : List Bool) (u : ℕ) → u < 256 → Seen s u → member s u ≡ true
unfolding member
member-yes s u lt n = and_yes (ltb u 256) (get_or s u false) (lt-ltb u 256 lt) n

pub member-no : (s : List Bool) (u : ℕ) → member s u ≡ true → (u < 256) × Seen s u
unfolding member
member-no s u t = let h = and-true (ltb u 256) (get_or s u false) t in (ltb-true u 256 h.0, h.1)

-- x is inside
pub mark-inside : (s : List Bool) (x : ℕ) → x < 256 → Seen s x → leaf_mark s x ≡ false
mark-inside s x lt n = ap (λ (b : Bool). not b && get_or s (x + 256) false) (member-yes s x lt n)

-- x is not inside: it is a leaf exactly if it was entered
pub mark-entered : (s : List Bool) (x : ℕ) → get_or s x false ≡ false → get_or s (x + 256) false ≡ leaf_mark s x
mark-entered s x z = ap (λ (b : Bool). not b && get_or s (x + 256) false) (sym (outside (member s x) (λ t. differ (get_or s x false) (member-no s x t).1 z)))
  where
    outside : (b : Bool) → (b ≡ true → ⊥) → b ≡ false
    outside true f = absurd (f refl)
    outside false f = refl
