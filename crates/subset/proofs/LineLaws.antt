-- What a line is, by its first word, and what a row is.
use Prim.Native.Nat.{ℕ, zero, suc}
use mathlib.Core.Path.{◌≡◌, refl, sym, ap, ◌∙◌}
use mathlib.Core.Bool.{true, false, cond, ◌&&◌}
use mathlib.Core.List.{List, [], ◌∷◌}
use native.Mathlib.Omega.{arith}
use lib.ListN.{length, get_or}
use Rattle.blif.specs.Words.{Word, is}
use Rattle.blif.specs.Subset.{Statement, first, head, cover, latched, last, inputs, outputs, row, outside, model_line, literals, bit, row_line, body_line, statement}

-- a row is one word where there are no inputs, and else two
row-two : (n : ℕ) (w : Word) (ws : List Word) → (n ≡ 0 → ⊥) → length ws ≡ 1 → cond (literals n w && bit (get_or ws 0 [])) row outside ≡ row_line n (w ∷ ws)
row-two zero w ws z e = absurd (z refl)
row-two (suc n) w [] z e = absurd (omega (arith, e))
row-two (suc n) w (x ∷ []) z e = refl
row-two (suc n) w (x ∷ y ∷ ws) z e = absurd (omega (arith, e))

module _ (n : ℕ) (w : Word) (ws : List Word) (z : n ≡ 0 → ⊥) (e : length ws ≡ 1) where
  pub row-yes : literals n w ≡ true → bit (get_or ws 0 []) ≡ true → row ≡ row_line n (w ∷ ws)
  row-yes l i = ap (λ b. cond b row outside) (sym (ap (λ b. b && bit (get_or ws 0 [])) l ∙ i)) ∙ row-two n w ws z e

  pub row-no-cover : literals n w ≡ false → outside ≡ row_line n (w ∷ ws)
  row-no-cover l = ap (λ b. cond b row outside) (sym (ap (λ b. b && bit (get_or ws 0 [])) l)) ∙ row-two n w ws z e

  pub row-no-bit : literals n w ≡ true → bit (get_or ws 0 []) ≡ false → outside ≡ row_line n (w ∷ ws)
  row-no-bit l i = ap (λ b. cond b row outside) (sym (ap (λ b. b && bit (get_or ws 0 [])) l ∙ i)) ∙ row-two n w ws z e

pub row_other : (n : ℕ) (w : Word) (ws : List Word) → (n ≡ 0 → ⊥) → (length ws ≡ 1 → ⊥) → outside ≡ row_line n (w ∷ ws)
row_other zero w ws z h = absurd (z refl)
row_other (suc n) w [] z h = refl
row_other (suc n) w (x ∷ []) z h = absurd (h refl)
row_other (suc n) w (x ∷ y ∷ ws) z h = refl

-- by the first word
module _ (w : Word) (ws : List Word) where
  pub first-model : (s : Statement) → is ".model" w ≡ true → s ≡ model_line ws → s ≡ statement first (w ∷ ws)
  unfolding statement
  first-model s e q = q ∙ rw e refl

  pub first-other : is ".model" w ≡ false → outside ≡ statement first (w ∷ ws)
  unfolding statement
  first-other e = rw e refl

  pub head-inputs : is ".inputs" w ≡ true → inputs ws ≡ statement head (w ∷ ws)
  unfolding statement
  head-inputs e = rw e refl

  pub head-outputs : is ".inputs" w ≡ false → is ".outputs" w ≡ true → outputs ws ≡ statement head (w ∷ ws)
  unfolding statement
  head-outputs e f = rw (e, f) refl

  pub head-other : (s : Statement) → is ".inputs" w ≡ false → is ".outputs" w ≡ false → s ≡ body_line w ws outside → s ≡ statement head (w ∷ ws)
  unfolding statement
  head-other s e f q = q ∙ rw (e, f) refl

  pub cover-line : (n : ℕ) (s other : Statement) → other ≡ row_line n (w ∷ ws) → s ≡ body_line w ws other → s ≡ statement (cover n) (w ∷ ws)
  unfolding statement
  cover-line n s other o q = q ∙ ap (body_line w ws) o

  pub latched-line : (s : Statement) → s ≡ body_line w ws outside → s ≡ statement latched (w ∷ ws)
  unfolding statement
  latched-line s q = q

  pub last_line : outside ≡ statement last (w ∷ ws)
  unfolding statement
  last_line = refl
