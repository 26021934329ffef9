-- How many distinct leaves are met: none less with more operands, one more at an operand that is a leaf and new.
use Prim.Native.Nat.{ℕ, zero, suc, ◌+◌, ◌≤◌, ◌<◌}
use mathlib.Core.Path.{◌≡◌, refl, sym, ap, ◌∙◌, fun_ext}
use mathlib.Core.Bool.{Bool, true, false, cond, not, ◌&&◌, ◌||◌, or-false}
use mathlib.Core.List.{List, [], ◌∷◌, ◌++◌}
use mathlib.Core.Logic.{◌⊎◌, inl, inr}
use native.Mathlib.Decide.{ℕ_discrete}
use native.Mathlib.Omega.{arith}
use lib.ListN.{length, length-append}
use borrow.Author.Tests.{eq-eqb, ne_eqb}
use Rattle.maps.specs.Lists.{mem, keep, below}
use Rattle.maps.specs.Sheet.{Sheet, size}
use Rattle.maps.proofs.Over.{last_or}
use Rattle.maps.proofs.Member.{mem-append, keep_append}
use Rattle.cone.specs.Looks.{leaves_met}

-- how many numbers below n pass a test
abbrev pub passing : (ℕ → Bool) → ℕ → ℕ
passing p n = length (keep p (below n))

passing-turn : (p : ℕ → Bool) (n : ℕ) → passing p (suc n) ≡ passing p n + cond (p n) 1 0
passing-turn p n = ap length (keep_append p (below n) (n ∷ [])) ∙ length-append (keep p (below n)) (keep p (n ∷ [])) ∙ go (p n)
  where
    go : (b : Bool) → passing p n + length (cond b (n ∷ []) []) ≡ passing p n + cond b 1 0
    go true = refl
    go false = refl

pub passing-few : (p : ℕ → Bool) (n : ℕ) → passing p n ≤ n
passing-few p zero = omega arith
passing-few p (suc n) = rw (passing-turn p n) (omega (arith, passing-few p n, go (p n)))
  where
    go : (b : Bool) → cond b 1 0 ≤ 1
    go true = omega arith
    go false = omega arith

passing-more : (p q : ℕ → Bool) → ((u : ℕ) → p u ≡ true → q u ≡ true) → (n : ℕ) → passing p n ≤ passing q n
passing-more p q h zero = omega arith
passing-more p q h (suc n) = rw (passing-turn p n, passing-turn q n) (omega (arith, passing-more p q h n, go (p n) (q n) (h n)))
  where
    go : (a b : Bool) → (a ≡ true → b ≡ true) → cond a 1 0 ≤ cond b 1 0
    go true b f = rw (f refl) (omega arith)
    go false b f = omega arith

-- x passes the second test alone, and everything else both or none
passing-one : (p q : ℕ → Bool) (x : ℕ) → p x ≡ false → q x ≡ true → ((u : ℕ) → (u ≡ x → ⊥) → q u ≡ p u) → (n : ℕ)
    → ((n ≤ x → passing q n ≡ passing p n) × (x < n → passing q n ≡ passing p n + 1))
passing-one p q x a b same zero = (λ l. refl, λ l. absurd (omega arith))
passing-one p q x a b same (suc n) = let ih = passing-one p q x a b same n in
    (λ l. rw (passing-turn p n, passing-turn q n, same n (λ e. omega arith), ih.0 (omega arith)), λ l. rw (passing-turn p n, passing-turn q n) (past ih (last_or x n l)))
  where
    past : (n ≤ x → passing q n ≡ passing p n) × (x < n → passing q n ≡ passing p n + 1) → (x < n) ⊎ (x ≡ n) → passing q n + cond (q n) 1 0 ≡ passing p n + cond (p n) 1 0 + 1
    past ih (inl l) = rw (same n (λ e. omega arith), ih.1 l) (omega arith)
    past ih (inr e) = rw (ap p (sym e) ∙ a, ap q (sym e) ∙ b, ih.0 (omega arith)) (omega arith)

module _ (S : Sheet) (marked : ℕ → Bool) where
  -- u is a leaf among the operands t
  abbrev is_met : List ℕ → ℕ → Bool
  is_met t u = mem u t && not (marked u)

  pub met-none : leaves_met S marked [] ≡ 0
  unfolding leaves_met
  met-none = none (size S)
    where
      none : (n : ℕ) → passing (is_met []) n ≡ 0
      none zero = refl
      none (suc n) = passing-turn (is_met []) n ∙ rw (none n)

  -- more operands have no fewer leaves
  pub met-grows : (t s : List ℕ) → leaves_met S marked t ≤ leaves_met S marked (t ++ s)
  unfolding leaves_met
  met-grows t s = passing-more (is_met t) (is_met (t ++ s)) (λ u e. rw (mem-append u t s) (go (mem u t) (mem u s) (not (marked u)) e)) (size S)
    where
      go : (a b c : Bool) → (a && c) ≡ true → ((a || b) && c) ≡ true
      go true b c e = e
      go false b c e = cc

  -- the operand u more
  beside : (t : List ℕ) (u w : ℕ) → (w ≡ u → ⊥) → is_met (t ++ (u ∷ [])) w ≡ is_met t w
  beside t u w f = rw (mem-append w t (u ∷ []), ne_eqb w u f, or-false (mem w t))

  -- one that was met or is marked adds nothing
  pub met-again : (t : List ℕ) (u : ℕ) → (mem u t || marked u) ≡ true → leaves_met S marked (t ++ (u ∷ [])) ≡ leaves_met S marked t
  unfolding leaves_met
  met-again t u e = ap (λ (p : ℕ → Bool). passing p (size S)) (fun_ext (λ w. go w (ℕ_discrete w u)))
    where
      at : (a m : Bool) → (a || m) ≡ true → ((a || true) && not m) ≡ (a && not m)
      at true m h = refl
      at false true h = refl
      at false false h = cc

      go : (w : ℕ) → Dec (w ≡ u) → is_met (t ++ (u ∷ [])) w ≡ is_met t w
      go w (yes q) = rw (q, mem-append u t (u ∷ []), eq-eqb u u refl) (at (mem u t) (marked u) e)
      go w (no f) = beside t u w f

  -- a new leaf adds one
  pub met-new : (t : List ℕ) (u : ℕ) → (mem u t || marked u) ≡ false → u < size S → leaves_met S marked (t ++ (u ∷ [])) ≡ leaves_met S marked t + 1
  unfolding leaves_met
  met-new t u e l = (passing-one (is_met t) (is_met (t ++ (u ∷ []))) u (before (mem u t) (marked u) e) after (beside t u) (size S)).1 l
    where
      before : (a m : Bool) → (a || m) ≡ false → (a && not m) ≡ false
      before true m h = cc
      before false m h = refl

      at : (a m : Bool) → (a || m) ≡ false → ((a || true) && not m) ≡ true
      at true m h = cc
      at false true h = cc
      at false false h = refl

      after : is_met (t ++ (u ∷ [])) u ≡ true
      after = rw (mem-append u t (u ∷ []), eq-eqb u u refl) (at (mem u t) (marked u) e)
