-- Names and words by position: what stands from a position on, for whoever walks a line from word to word.
use Prim.Native.Nat.{ℕ, suc, ◌+◌, ◌-◌, ◌*◌, ◌≤◌, ◌<◌}
use mathlib.Core.Path.{◌≡◌, refl, sym, ap, ◌∙◌}
use mathlib.Core.Bool.{Bool, true, false, cond}
use mathlib.Core.List.{List, [], ◌∷◌}
use native.Mathlib.Omega.{arith}
use native.Mathlib.Numerals.{add-one}
use lib.ListN.{length, get_or, drop, length-drop, drop_of_length-le}
use lib.Dec.{eqb, ltb}
use lib.Seq.{drop-cons}
use borrow.Author.Tests.{ltb-true, ltb-false}
use Rattle.blif.proofs.Ordering.{clash}
use Rattle.maps.specs.Number.{byte_at}
use Rattle.blif.specs.Lines.{newline, onto, lines}
use Rattle.blif.specs.Words.{Word, blank, words}
use Rattle.blif.specs.Scan.{joins_here, until, from, ends_line, ends_word, ends_blanks, at_line_end, name_at, words_at, join_at}
use Rattle.blif.proofs.Positions.{until-at, until_end}
use Rattle.blif.proofs.Wording.{next_word}

-- the name and the words at a position, by the rest of the text from there
name-rest : (s : List ℕ) (at : ℕ) → name_at s at ≡ until ends_word (drop at s)
unfolding until
name-rest s at = refl

pub words-rest : (s : List ℕ) (at : ℕ) → words_at s at ≡ words (until ends_line (drop at s))
unfolding until words
words-rest s at = refl

-- a name from a position on, by the byte there
pub name-turn : (s : List ℕ) (at : ℕ) → at < length s → name_at s at ≡ cond (join_at s at) (name_at s (at + 2)) (cond (ends_word (byte_at s at)) [] (byte_at s at ∷ name_at s (at + 1)))
unfolding until
name-turn s at l = until-at ends_word s at l

pub name-none : (s : List ℕ) (at : ℕ) → length s ≤ at → name_at s at ≡ []
name-none s at l = name-rest s at ∙ until_end ends_word s at l

-- The words from a position on, where `first` is after the blanks there: none at a line's end, else the name at `first` and the words after it.
words-turn : (s : List ℕ) (at first : ℕ) → drop first s ≡ from ends_blanks (drop at s) → words_at s at ≡ cond (at_line_end (drop first s)) [] (name_at s first ∷ words (until ends_line (from ends_word (drop first s))))
unfolding until words
words-turn s at first e = next_word (drop at s) ∙ ap (λ u. cond (at_line_end u) [] (until ends_word u ∷ words (until ends_line (from ends_word u)))) (sym e)

pub words-none : (s : List ℕ) (at first : ℕ) → drop first s ≡ from ends_blanks (drop at s) → at_line_end (drop first s) ≡ true → words_at s at ≡ []
words-none s at first e h = words-turn s at first e ∙ rw h refl

pub words-some : (s : List ℕ) (at first rest : ℕ) → drop first s ≡ from ends_blanks (drop at s) → at_line_end (drop first s) ≡ false → drop rest s ≡ from ends_word (drop first s) → words_at s at ≡ name_at s first ∷ words_at s rest
words-some s at first rest e h f =
    words-turn s at first e ∙ rw h (ap (λ t. name_at s first ∷ words (until ends_line t)) (sym f)) ∙ ap (λ ws. name_at s first ∷ ws) (sym (words-rest s rest))

pub words_more : (s : List ℕ) (at first rest : ℕ) → drop first s ≡ from ends_blanks (drop at s) → 0 < length (words_at s at) → drop rest s ≡ from ends_word (drop first s) → words_at s at ≡ name_at s first ∷ words_at s rest
words_more s at first rest e l f = go (at_line_end (drop first s)) refl
  where
    go : (b : Bool) → at_line_end (drop first s) ≡ b → words_at s at ≡ name_at s first ∷ words_at s rest
    go true h = absurd (omega (arith, l, ap (length {A = Word}) (words-none s at first e h)))
    go false h = words-some s at first rest e h f

-- a position where a line does not end is inside the text
inside : (s : List ℕ) (at : ℕ) → at_line_end (drop at s) ≡ false → at < length s
inside s at h = go (ltb at (length s)) refl
  where
    go : (b : Bool) → ltb at (length s) ≡ b → at < length s
    go true e = ltb-true at (length s) e
    go false e = clash (at_line_end (drop at s)) (ap at_line_end (drop_of_length-le s (ltb-false at (length s) e))) h

-- the first word from a position on begins after the blanks there
pub first_word : (s : List ℕ) (at first : ℕ) → drop first s ≡ from ends_blanks (drop at s) → 0 < length (words_at s at)
    → (name_at s first ≡ get_or (words_at s at) 0 []) × (first < length s)
first_word s at first e l = go (at_line_end (drop first s)) refl (words-turn s at first e)
  where
    go : (b : Bool) → at_line_end (drop first s) ≡ b → words_at s at ≡ cond b [] (name_at s first ∷ words (until ends_line (from ends_word (drop first s))))
        → (name_at s first ≡ get_or (words_at s at) 0 []) × (first < length s)
    go true h q = absurd (omega (arith, l, ap (length {A = Word}) q))
    go false h q = (sym (ap (λ ws. get_or ws 0 []) q), inside s first h)

-- The walk of a line from word to word: at the i-th of the words from `start` on, that word stands at `first`, and the words after it at `rest`.
pub word-here : (s : List ℕ) (start at first i : ℕ) → words_at s at ≡ drop i (words_at s start) → i < length (words_at s start) → drop first s ≡ from ends_blanks (drop at s)
    → (name_at s first ≡ get_or (words_at s start) i []) × (first < length s)
word-here s start at first i e l f =
    let d : words_at s at ≡ get_or (words_at s start) i [] ∷ drop (suc i) (words_at s start) = e ∙ drop-cons (words_at s start) i [] l in
    let w = first_word s at first f (omega (arith, ap length d)) in
    (w.0 ∙ ap (λ (ws : List Word). get_or ws 0 []) d, w.1)

pub words-after : (s : List ℕ) (start at first rest i : ℕ) → words_at s at ≡ drop i (words_at s start) → i < length (words_at s start)
    → drop first s ≡ from ends_blanks (drop at s) → drop rest s ≡ from ends_word (drop first s) → words_at s rest ≡ drop (i + 1) (words_at s start)
words-after s start at first rest i e l f g =
    let d : words_at s at ≡ get_or (words_at s start) i [] ∷ drop (suc i) (words_at s start) = e ∙ drop-cons (words_at s start) i [] l in
    let t : words_at s at ≡ name_at s first ∷ words_at s rest = words_more s at first rest f (omega (arith, ap length d)) g in
    ap (λ (ws : List Word). drop 1 ws) (sym t ∙ d) ∙ ap (λ (k : ℕ). drop k (words_at s start)) (sym (add-one i))

-- no more bytes before a stop than bytes
until-most : (stop : ℕ → Bool) (t : List ℕ) → length (until stop t) ≤ length t
unfolding until
until-most stop [] = omega arith
until-most stop (b ∷ []) = go (joins_here b []) (stop b)
  where
    go : (x y : Bool) → length (cond x [] (cond y [] (b ∷ []))) ≤ 1
    go true y = omega arith
    go false true = omega arith
    go false false = omega arith
until-most stop (b ∷ c ∷ t) = go (joins_here b (c ∷ t)) (stop b) (until-most stop t) (until-most stop (c ∷ t))
  where
    go : (x y : Bool) → length (until stop t) ≤ length t → length (until stop (c ∷ t)) ≤ length (c ∷ t) → length (cond x (until stop t) (cond y [] (b ∷ until stop (c ∷ t)))) ≤ length (b ∷ c ∷ t)
    go true y r q = omega (arith, r)
    go false true r q = omega arith
    go false false r q = omega (arith, q)

-- between two words there is a byte
words-most : (t : List ℕ) → 2 * length (words t) ≤ length t + 1
unfolding words
words-most [] = omega arith
words-most (b ∷ []) = go (blank b)
  where
    go : (x : Bool) → 2 * length (cond x [] ((b ∷ []) ∷ [])) ≤ 2
    go true = omega arith
    go false = omega arith
words-most (b ∷ c ∷ t) = go (blank b) (blank c) refl (words-most t) (words-most (c ∷ t))
  where
    onto-few : (ws : List Word) → 2 * length ws ≤ length t + 2 → 2 * length (onto b ws) ≤ length t + 2
    onto-few [] h = omega arith
    onto-few (w ∷ ws) h = h

    after-blank : blank c ≡ true → words (c ∷ t) ≡ words t
    after-blank e = rw e refl

    go : (x y : Bool) → blank c ≡ y → 2 * length (words t) ≤ length t + 1 → 2 * length (words (c ∷ t)) ≤ length (c ∷ t) + 1
        → 2 * length (cond x (words (c ∷ t)) (cond y ((b ∷ []) ∷ words (c ∷ t)) (onto b (words (c ∷ t))))) ≤ length (b ∷ c ∷ t) + 1
    go true y e h k = omega arith
    go false true e h k = omega (arith, h, ap (length {A = Word}) (after-blank e))
    go false false e h k = omega (arith, onto-few (words (c ∷ t)) (omega (arith, k)))

-- each line has a byte
pub lines-most : (t : List ℕ) → length (lines t) ≤ length t
unfolding lines
lines-most [] = omega arith
lines-most (b ∷ t) = go (eqb b newline) (lines-most t)
  where
    onto-most : (ls : List (List ℕ)) → length (onto b ls) ≤ suc (length ls)
    onto-most [] = omega arith
    onto-most (l ∷ ls) = omega arith

    go : (x : Bool) → length (lines t) ≤ length t → length (cond x ([] ∷ lines t) (onto b (lines t))) ≤ suc (length t)
    go true r = omega (arith, r)
    go false r = omega (arith, r, onto-most (lines t))

pub name-length-most : (s : List ℕ) (at : ℕ) → length (name_at s at) ≤ length s - at
name-length-most s at = rw (name-rest s at) (omega (arith, until-most ends_word (drop at s), length-drop at s))

pub words-count-most : (s : List ℕ) (at : ℕ) → 2 * length (words_at s at) ≤ length s - at + 1
words-count-most s at = rw (words-rest s at) (omega (arith, words-most (until ends_line (drop at s)), until-most ends_line (drop at s), length-drop at s))
