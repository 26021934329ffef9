-- Room for the count: a node that is met is no longer among those that are not.
use Prim.Native.Nat.{ℕ, ◌+◌, ◌≤◌, ◌<◌}
use mathlib.Core.Path.{◌≡◌, refl, ap}
use mathlib.Core.Bool.{Bool, false, cond}
use mathlib.Core.List.{List}
use native.Mathlib.Omega.{arith}
use lib.ListN.{length, get_or, set, replicate, get_or-replicate}
use Rattle.std.specs.List.{count_by}
use Rattle.std.proofs.lemmas.List.Sums.{sum_by-set}
use Rattle.std.proofs.lemmas.List.Folds.{sum_by-replicate}
use Rattle.maps.specs.Limits.{operands_most}
use Rattle.cone.specs.declared.Part.{Part}
use Rattle.cone.specs.declared.Part.TheVariants.{Unmet, Member}
use Rattle.cone.specs.Room.{is_unmet, in_end, looks_most}

-- 1 at a node that is not met
abbrev ones : Part → ℕ
ones y = cond (is_unmet y) 1 0

-- one node less is not met
pub unmet-set : (l : List Part) (i : ℕ) (x : Part) → i < length l → get_or l i Unmet ≡ Unmet → is_unmet x ≡ false
    → count_by is_unmet (set l i x) + 1 ≡ count_by is_unmet l
unmet-set l i x h e n =
    let was : ones (get_or l i Unmet) ≡ 1 = ap ones e in
    let now : ones x ≡ 0 = ap (λ (b : Bool). cond {A = ℕ} b 1 0) n in
    omega (arith, sum_by-set ones l i x Unmet h, was, now)

unmet-all : (n : ℕ) → count_by is_unmet (replicate n Unmet) ≡ n
unmet-all n = omega (arith, sum_by-replicate ones n Unmet)

-- at the beginning v alone is met
pub begun-room : (v looks : ℕ) → v < 256 → looks ≡ 0 → in_end looks (set (replicate 256 Unmet) v Member) + operands_most ≤ looks_most
begun-room v looks l none =
    omega (arith, none, unmet-all 256, unmet-set (replicate 256 Unmet) v Member l (get_or-replicate {A = Part} 256 v Unmet Unmet l) refl)
