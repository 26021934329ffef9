-- The words of a line by their places, from position to position.
use Prim.Native.Nat.{ℕ, suc, ◌<◌}
use mathlib.Core.Path.{◌≡◌, sym, ap, ◌∙◌}
use mathlib.Core.List.{List, []}
use native.Mathlib.Omega.{arith}
use lib.ListN.{length, get_or, drop}
use Rattle.blif.specs.Words.{Word}
use Rattle.blif.specs.Scan.{from, ends_word, ends_blanks, name_at, words_at}
use Rattle.blif.proofs.Walking.{first_word, words_more}

-- from the end of the first word on, there is one word less and each stands one place earlier
next_place : (s : List ℕ) (at first rest : ℕ) → drop first s ≡ from ends_blanks (drop at s) → 0 < length (words_at s at) → drop rest s ≡ from ends_word (drop first s)
    → (length (words_at s at) ≡ suc (length (words_at s rest))) × ((i : ℕ) → get_or (words_at s at) (suc i) [] ≡ get_or (words_at s rest) i [])
next_place s at first rest e l r =
    let q = words_more s at first rest e l r in
    (ap (length {A = Word}) q, λ i. ap (λ ws. get_or ws (suc i) []) q)

-- the third word, by the positions where the words before it begin and end
pub third-place : (s : List ℕ) (at a b c d third : ℕ) → length (words_at s at) ≡ 3
    → drop a s ≡ from ends_blanks (drop at s) → drop b s ≡ from ends_word (drop a s)
    → drop c s ≡ from ends_blanks (drop b s) → drop d s ≡ from ends_word (drop c s)
    → drop third s ≡ from ends_blanks (drop d s) → name_at s third ≡ get_or (words_at s at) 2 []
third-place s at a b c d third l ea eb ec ed et =
    let p = next_place s at a b ea (omega (arith, l)) eb in
    let q = next_place s b c d ec (omega (arith, l, p.0)) ed in
    (first_word s d third et (omega (arith, l, p.0, q.0))).0 ∙ sym (q.1 0) ∙ sym (p.1 1)
