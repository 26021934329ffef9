-- How many operands the walk of a cone looks at: as many as the members have.
use Prim.Native.Nat.{ℕ, zero, suc, ◌+◌, ◌≤◌, ◌<◌}
use mathlib.Core.Path.{◌≡◌, refl, sym, ap, ◌∙◌, fun_ext}
use mathlib.Core.Bool.{Bool, true, false, cond, not, ◌&&◌, and-false}
use mathlib.Core.List.{List, [], ◌∷◌, ◌++◌}
use native.Mathlib.Decide.{ℕ_discrete, dec_lt}
use native.Mathlib.Omega.{arith}
use lib.ListN.{length, length-append, get_or-eq_default}
use borrow.Author.Tests.{ne_eqb}
use Rattle.maps.specs.Lists.{mem}
use Rattle.maps.specs.Sheet.{Sheet, Node, node, no_node, size}
use Rattle.maps.specs.Cut.{reads}
use Rattle.cone.specs.Walk.{ConeInside}
use Rattle.cone.specs.Looks.{looks, operands_of}
use Rattle.cone.proofs.LookLaws.{members, root-member, in-last, others-as, next, Looked, done, more, looks-go, looks-low}
use Rattle.cone.proofs.Cones.{cone-found}

-- D has the members of C, and x, which C has not
record Joined (C D : ℕ → Bool) (x : ℕ) : Type 0 where
  new : C x ≡ false
  here : D x ≡ true
  others : (u : ℕ) → (u ≡ x → ⊥) → D u ≡ C u

module _ (S : Sheet) where
  -- no members have no operands
  none_of : (n : ℕ) → operands_of S (λ u. false) n ≡ 0
  none_of zero = refl
  none_of (suc n) = omega (arith, none_of n)

  same-below : {C D : ℕ → Bool} {x : ℕ} → Joined C D x → (n : ℕ) → n ≤ x → operands_of S D n ≡ operands_of S C n
  same-below j zero l = refl
  same-below j (suc n) l = rw (same-below j n (omega arith), j.others n (λ q. omega arith))

  more-above : {C D : ℕ → Bool} {x : ℕ} → Joined C D x → (n : ℕ) → x < n → operands_of S D n ≡ operands_of S C n + length (node S x).operands
  more-above j zero l = absurd (omega arith)
  more-above {C} {D} {x} j (suc n) l = go (more-above j n) (ℕ_discrete n x)
    where
      go : (x < n → operands_of S D n ≡ operands_of S C n + length (node S x).operands) → Dec (n ≡ x)
          → operands_of S D (suc n) ≡ operands_of S C (suc n) + length (node S x).operands
      go rec (yes q) = rw (q, j.here, j.new, same-below j x (omega arith)) (omega arith)
      go rec (no f) = rw (j.others n f) (omega (arith, rec (omega arith)))

  -- one member more, in the sheet or not: past its end nodes have no operands
  more-all : {C D : ℕ → Bool} {x : ℕ} → Joined C D x → operands_of S D (size S) ≡ operands_of S C (size S) + length (node S x).operands
  more-all {C} {D} {x} j = go (dec_lt x (size S))
    where
      go : Dec (x < size S) → operands_of S D (size S) ≡ operands_of S C (size S) + length (node S x).operands
      go (yes l) = more-above j (size S) l
      go (no f) =
          let absent : node S x ≡ no_node = get_or-eq_default S.nodes no_node (omega arith) in
          omega (arith, same-below j (size S) (omega arith), ap (λ (a : Node). length a.operands) absent)

module _ (S : Sheet) (marked : ℕ → Bool) where
  -- how many operands the marked nodes in t have
  abbrev had : (t : List ℕ) → ℕ
  had t = operands_of S (λ u. marked u && mem u t) (size S)

  -- an operand that is looked at adds its own operands, if it is a member that is met for the first time
  had-more : (t : List ℕ) (x : ℕ) → had (t ++ (x ∷ [])) ≡ had t + length (next S marked t x)
  had-more t x = go (marked x) (mem x t) refl refl
    where
      others : (u : ℕ) → (u ≡ x → ⊥) → (marked u && mem u (t ++ (x ∷ []))) ≡ (marked u && mem u t)
      others u f = rw (others-as u x t f)

      same : (marked x && mem x (t ++ (x ∷ []))) ≡ (marked x && mem x t) → had (t ++ (x ∷ [])) ≡ had t + 0
      same h = ap (λ (C : ℕ → Bool). operands_of S C (size S)) (fun_ext (λ u. at u (ℕ_discrete u x))) ∙ omega arith
        where
          at : (u : ℕ) → Dec (u ≡ x) → (marked u && mem u (t ++ (x ∷ []))) ≡ (marked u && mem u t)
          at u (yes q) = rw q h
          at u (no f) = others u f

      go : (b c : Bool) → marked x ≡ b → mem x t ≡ c → had (t ++ (x ∷ [])) ≡ had t + length (cond (b && not c) (node S x).operands [])
      go true false e f = more-all S (record { new = rw (e, f); here = rw (e, in-last x t); others = others })
      go true true e f = same (rw (in-last x t, f))
      go false c e f = same (rw e)

  -- each operand that is looked at stands for one of those that were to be, or of those that members have
  counted : (v : ℕ) {t us r : List ℕ} → Looked S marked v t us r → length r + had t ≡ length t + length us + had r
  counted v done = omega arith
  counted v (more {t = t} {us = us} {q = q} {r = r} {u = x} l i k) =
      omega (arith, counted v i, counted v k, had-more t x, length-append t (x ∷ []))

  module _ (v : ℕ) (falls : (m u : ℕ) → m ≤ v → reads S m u ≡ true → u < m) where
    -- the members are v and the marked nodes that are looked at
    rooted : Joined (λ u. marked u && mem u (looks S marked v)) (members marked v (looks S marked v)) v
    rooted = record { new = go (mem v (looks S marked v)) refl; here = root-member marked v (looks S marked v); others = λ u f. rw (ne_eqb u v f) }
      where
        go : (b : Bool) → mem v (looks S marked v) ≡ b → (marked v && b) ≡ false
        go true e = absurd (omega (arith, looks-low S marked v falls v e))
        go false e = and-false (marked v)

    -- the walk looks at each operand of each member once: a member's operands follow where it is met for the first time
    pub looks-all : (C : ℕ → Bool) → ConeInside S marked v C → length (looks S marked v) ≡ operands_of S C (size S)
    looks-all C c =
        let a = counted v (looks-go S marked v falls) in
        let none : had [] ≡ 0 = ap (λ (D : ℕ → Bool). operands_of S D (size S)) (fun_ext (λ u. and-false (marked u))) ∙ none_of S (size S) in
        let whole = more-all S rooted in
        let found : length (looks S marked v) ≡ operands_of S (members marked v (looks S marked v)) (size S) = omega arith in
        found ∙ ap (λ (D : ℕ → Bool). operands_of S D (size S)) (sym (fun_ext (cone-found S marked v falls C c)))
