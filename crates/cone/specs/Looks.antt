-- The operands of a cone in the order in which the walk looks at them, and where the walk ends.
use Rattle.std.specs.Prelude.{ℕ, zero, suc, ◌+◌, ◌≤◌, ◌≡◌, Bool, cond, not, ◌&&◌, length}
use mathlib.Core.List.{List, [], ◌∷◌, ◌++◌, foldl}
use Rattle.maps.specs.Lists.{mem, keep, below}
use Rattle.maps.specs.Sheet.{Sheet, node, size}

module _ (S : Sheet) (marked : ℕ → Bool) where
  -- The operands in t have been looked at, and then u is. If u is marked and met for the first time, its own operands follow, one after the other.
  -- Ids fall, so that a number n above u is enough.
  abbrev pub look : (n : ℕ) → (t : List ℕ) → (u : ℕ) → List ℕ
  look zero t u = t ++ (u ∷ [])
  look (suc n) t u = cond (marked u && not (mem u t)) (foldl (look n) (t ++ (u ∷ [])) (node S u).operands) (t ++ (u ∷ []))

  -- the operands us, one after the other
  abbrev pub look_all : (n : ℕ) → (t us : List ℕ) → List ℕ
  look_all n = foldl (look n)

  -- all operands of the cone of v inside the marks
  unfoldable pub looks : (v : ℕ) → List ℕ
  looks v = look_all v [] (node S v).operands

  -- how many distinct leaves are among the operands t
  unfoldable pub leaves_met : (t : List ℕ) → ℕ
  leaves_met t = length (keep (λ u. mem u t && not (marked u)) (below (size S)))

  -- "no operand after it has met K + 1 distinct leaves": of the operands `whole` those in t are looked at, which are all,
  -- or those up to and with the one at which leaf k + 1 is met
  pub data Stops (k : ℕ) (whole t : List ℕ) : Type 0 where
    all : t ≡ whole → leaves_met t ≤ k → Stops k whole t
    wide : (before : List ℕ) (u : ℕ) (rest : List ℕ) → t ≡ before ++ (u ∷ []) → whole ≡ t ++ rest → leaves_met before ≡ k → leaves_met t ≡ k + 1 → Stops k whole t

  -- E holds of how many operands the test of the cut of v looks at
  abbrev pub Looked : (v k : ℕ) → (E : ℕ → Type 0) → Type 0
  Looked v k E = (t : List ℕ) × Stops k (looks v) t × E (length t)

  -- c is how many operands the test of the cut of v looks at
  pub record LookedAt (v k c : ℕ) : Type 0 where
    pub operands : List ℕ
    pub stops : Stops k (looks v) operands
    pub count : c ≡ length operands

-- how many operands the members below n have
abbrev pub operands_of : (S : Sheet) → (members : ℕ → Bool) → (n : ℕ) → ℕ
operands_of S C zero = 0
operands_of S C (suc n) = operands_of S C n + cond (C n) (length (node S n).operands) 0
