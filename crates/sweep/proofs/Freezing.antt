-- Which differences are heeded after a freeze and a thaw: the lists of some nodes, whole.
use Prim.Native.Nat.{ℕ, ◌<◌}
use mathlib.Core.Path.{◌≡◌, refl, sym, subst, ◌∙◌}
use mathlib.Core.Bool.{Bool, true, false, cond}
use mathlib.Core.List.{List}
use mathlib.Core.Logic.{inl, inr}
use native.Mathlib.Omega.{arith}
use lib.Dec.{eqb, ltb}
use lib.ListN.{get_or, replicate, length-replicate}
use borrow.Author.Count.{below_none}
use borrow.Author.Tests.{ltb-true, ltb-false}
use Rattle.maps.proofs.Member.{zeros-at}
use Rattle.bound.specs.Lookup.{Linked, Heeding}
use Rattle.bound.proofs.Asking.{linked-heeding}
use Rattle.sweep.specs.Sweep.{SomeFails, Frozen, Thawed}

module _ {first steps since : List ℕ} where
  pub frozen-none : Frozen first steps since (replicate 256 0) 0
  frozen-none = record { wide = length-replicate {A = ℕ} 256 0; heads = below_none _; rest = λ v h. zeros-at 256 v }

  pub frozen-heeding : {differences heeded next : List ℕ} {m n : ℕ} → Linked differences m first next → Frozen first steps since heeded n → Heeding differences m heeded next
  frozen-heeding {heeded = heeded} {n = n} k f = record { heads = λ v l h. kept v h (ltb v n) refl ∙ k.heads v l; nexts = k.nexts }
    where
      kept : (v : ℕ) → 0 < get_or heeded v 0 → (t : Bool) → ltb v n ≡ t → get_or heeded v 0 ≡ get_or first v 0
      kept v h true e = go (eqb (get_or steps v 0) (get_or since v 0)) (f.heads v (ltb-true v n e))
        where
          go : (t : Bool) → get_or heeded v 0 ≡ cond t 0 (get_or first v 0) → get_or heeded v 0 ≡ get_or first v 0
          go true z = absurd (omega arith)
          go false z = z
      kept v h false e = absurd (omega (arith, f.rest v (ltb-false v n e)))

-- after a thaw: lists of some nodes, and where a difference fails a heeded one does
pub thawed-heeding : {differences first next steps : List ℕ} {m : ℕ} (heeded heeded' : List ℕ) → Linked differences m first next → Heeding differences m heeded next
    → SomeFails differences first steps m → Thawed differences first steps heeded heeded' m
    → Heeding differences m heeded' next × SomeFails differences heeded' steps m
thawed-heeding {differences} {first} {next} {steps} {m} heeded heeded' linked heeding fails (inl w) =
    subst (λ (h : List ℕ). Heeding differences m h next × SomeFails differences h steps m) (sym w.1) (linked-heeding differences linked, fails)
thawed-heeding {differences} {first} {next} {steps} {m} heeded heeded' linked heeding fails (inr w) =
    subst (λ (h : List ℕ). Heeding differences m h next × SomeFails differences h steps m) (sym w.1) (heeding, w.0)
