-- The positions of the words of a line, collected one after the other.
use Prim.Native.Nat.{ℕ, suc, ◌+◌, ◌<◌}
use mathlib.Core.Path.{◌≡◌, sym, ap, ◌∙◌}
use mathlib.Core.List.{List, [], ◌∷◌, ◌++◌, map-append}
use native.Mathlib.Omega.{arith}
use native.Mathlib.Numerals.{add-one}
use lib.ListN.{length, get_or, take, drop, set, length-drop}
use lib.Seq.{drop-cons}
use Rattle.blif.specs.Words.{Word}
use Rattle.blif.specs.Scan.{name_at, words_at}
use Rattle.blif.proofs.Positions.{take_next}
use Rattle.distinct.specs.Sorting.{names}
use Rattle.distinct.proofs.Filling.{take-write}

-- the positions of the first i words stand in the list, and the other words from `at` on
pub record Collected (s : List ℕ) (start : ℕ) (list : List ℕ) (at i : ℕ) : Type 0 where
  pub words : names s (take i list) ≡ take i (words_at s start)
  pub rest : words_at s at ≡ drop i (words_at s start)

module _ (s : List ℕ) (start : ℕ) (list : List ℕ) (at i : ℕ) (c : Collected s start list at i) (e : length list ≡ length (words_at s start)) where
  -- the next word stands at `first`, and the others from `rest` on
  module _ (first rest : ℕ) (f : words_at s at ≡ name_at s first ∷ words_at s rest) where
    given : name_at s first ∷ words_at s rest ≡ drop i (words_at s start)
    given = sym f ∙ c.rest

    pub collected-inside : i < length list
    collected-inside = omega (arith, e, ap (length {A = Word}) given, length-drop i (words_at s start))

    here : name_at s first ∷ words_at s rest ≡ get_or (words_at s start) i [] ∷ drop (suc i) (words_at s start)
    here = let l : i < length (words_at s start) = omega (arith, e, collected-inside) in given ∙ drop-cons (words_at s start) i [] l

    pub collected-next : Collected s start (set list i first) rest (i + 1)
    collected-next = record {
      words =
          ap (names s) (take-write list i first collected-inside) ∙ map-append (name_at s) (take i list) (first ∷ []) ∙ ap (λ (ws : List Word). ws ++ (name_at s first ∷ [])) c.words
          ∙ ap (λ (w : Word). take i (words_at s start) ++ (w ∷ [])) (ap (λ (ws : List Word). get_or ws 0 []) here)
          ∙ sym (take_next (words_at s start) i [] (omega (arith, e, collected-inside)));
      rest = ap (λ (ws : List Word). drop 1 ws) here ∙ ap (λ (k : ℕ). drop k (words_at s start)) (sym (add-one i));
    }

-- one turn of a loop over an iterator of the words: its text before, u, and after, v, is the text
pub collected-turn : (s u v : List ℕ) (start : ℕ) (list : List ℕ) (at next i k n first : ℕ) → Collected s start list at i → length list ≡ length (words_at s start) → u ≡ s → v ≡ u
    → words_at u at ≡ name_at u first ∷ words_at v next → k ≡ i → n ≡ i + 1 → Collected s start (set list k first) next n
collected-turn s u v start list at next i k n first c e p q f g h =
    let x : words_at s at ≡ name_at s first ∷ words_at s next =
    sym (ap (λ t. words_at t at) p) ∙ f ∙ ap (λ t. name_at t first ∷ words_at v next) p ∙ ap (λ t. name_at s first ∷ words_at t next) (q ∙ p) in
    rw (g, h) (collected-next s start list at i c e first next x)
