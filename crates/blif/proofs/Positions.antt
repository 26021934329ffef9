-- The scanner's laws by position: what one turn of each loop over the text finds at position `at`.
use Prim.Native.Nat.{ℕ, suc, ◌+◌, ◌≤◌, ◌<◌}
use mathlib.Core.Path.{◌≡◌, refl, sym, subst, ap, ◌∙◌}
use mathlib.Core.Bool.{Bool, true, false, cond, ◌&&◌, ◌||◌, not, and-true}
use mathlib.Core.List.{List, [], ◌∷◌, ◌++◌}
use native.Mathlib.Omega.{arith}
use lib.Dec.{eqb, leb}
use native.Mathlib.Numerals.{add-one}
use lib.ListN.{length, get_or, take, drop, take-append-drop, drop_of_length-le}
use lib.Seq.{take-suc, drop-cons, drop-drop}
use borrow.Author.Tests.{leb-true, leb-false}
use Rattle.maps.specs.Number.{byte_at}
use Rattle.blif.specs.Lines.{lines, joined, onto}
use Rattle.blif.specs.Words.{words, with_words, word_lines, lines_of}
use Rattle.blif.specs.Scan.{joins_here, until, from, ends_line, past_line, newlines, join_at, open_end}
use Rattle.blif.proofs.Scanning.{FirstLine, first-line, lines-some}

-- the byte at a position, and those after it
pub at-cons : (s : List ℕ) (at : ℕ) → at < length s → drop at s ≡ byte_at s at ∷ drop (at + 1) s
at-cons s at l = drop-cons s at 0 l ∙ ap (λ n. byte_at s at ∷ drop n s) (sym (add-one at))

-- one element more of a list of which the first i are taken
pub take_next : {A : Type 0} (l : List A) (i : ℕ) (d : A) → i < length l → take (i + 1) l ≡ take i l ++ (get_or l i d ∷ [])
take_next l i d h = ap (λ (n : ℕ). take n l) (add-one i) ∙ take-suc l i d h

-- a backslash joins at a position just where it joins before the rest
join-rest : (s : List ℕ) (at : ℕ) → at < length s → joins_here (byte_at s at) (drop (at + 1) s) ≡ join_at s at
join-rest s at l = go (leb (length s) (at + 1)) refl
  where
    go : (x : Bool) → leb (length s) (at + 1) ≡ x → joins_here (byte_at s at) (drop (at + 1) s) ≡ (eqb (byte_at s at) 92 && (x || eqb (byte_at s (at + 1)) 10))
    go true e = ap (joins_here (byte_at s at)) (drop_of_length-le s (leb-true (length s) (at + 1) e)) ∙ sym (and-true (eqb (byte_at s at) 92))
    go false e = ap (joins_here (byte_at s at)) (at-cons s (at + 1) (leb-false (length s) (at + 1) e))

-- one byte further
until-cons : (stop : ℕ → Bool) (b : ℕ) (t : List ℕ) → until stop (b ∷ t) ≡ cond (joins_here b t) (until stop (drop 1 t)) (cond (stop b) [] (b ∷ until stop t))
unfolding until
until-cons stop b [] = refl
until-cons stop b (c ∷ t) = refl

from_cons : (stop : ℕ → Bool) (b : ℕ) (t : List ℕ) → from stop (b ∷ t) ≡ cond (joins_here b t) (from stop (drop 1 t)) (cond (stop b) (b ∷ t) (from stop t))
unfolding from
from_cons stop b [] = refl
from_cons stop b (c ∷ t) = refl

drop-one : (s : List ℕ) (n : ℕ) → drop 1 (drop n s) ≡ drop (n + 1) s
drop-one s n = drop-drop 1 n s

module _ (stop : ℕ → Bool) (s : List ℕ) (at : ℕ) (l : at < length s) where
  further : drop 1 (drop (at + 1) s) ≡ drop (at + 2) s
  further = let e : at + 1 + 1 ≡ at + 2 = omega arith in drop-one s (at + 1) ∙ ap (λ n. drop n s) e

  pub until-at : until stop (drop at s) ≡ cond (join_at s at) (until stop (drop (at + 2) s)) (cond (stop (byte_at s at)) [] (byte_at s at ∷ until stop (drop (at + 1) s)))
  until-at =
      ap (until stop) (at-cons s at l) ∙ until-cons stop (byte_at s at) (drop (at + 1) s)
      ∙ ap (λ b. cond b (until stop (drop 1 (drop (at + 1) s))) (cond (stop (byte_at s at)) [] (byte_at s at ∷ until stop (drop (at + 1) s)))) (join-rest s at l)
      ∙ ap (λ t. cond (join_at s at) (until stop t) (cond (stop (byte_at s at)) [] (byte_at s at ∷ until stop (drop (at + 1) s)))) further

  pub from_at : from stop (drop at s) ≡ cond (join_at s at) (from stop (drop (at + 2) s)) (cond (stop (byte_at s at)) (drop at s) (from stop (drop (at + 1) s)))
  from_at =
      ap (from stop) (at-cons s at l) ∙ from_cons stop (byte_at s at) (drop (at + 1) s)
      ∙ ap (λ b. cond b (from stop (drop 1 (drop (at + 1) s))) (cond (stop (byte_at s at)) (byte_at s at ∷ drop (at + 1) s) (from stop (drop (at + 1) s)))) (join-rest s at l)
      ∙ ap (λ t. cond (join_at s at) (from stop t) (cond (stop (byte_at s at)) (byte_at s at ∷ drop (at + 1) s) (from stop (drop (at + 1) s)))) further
      ∙ ap (λ t. cond (join_at s at) (from stop (drop (at + 2) s)) (cond (stop (byte_at s at)) t (from stop (drop (at + 1) s)))) (sym (at-cons s at l))

-- and at the text's end
pub until_end : (stop : ℕ → Bool) (s : List ℕ) (at : ℕ) → length s ≤ at → until stop (drop at s) ≡ []
unfolding until
until_end stop s at l = rw (drop_of_length-le s l) refl

pub from_end : (stop : ℕ → Bool) (s : List ℕ) (at : ℕ) → length s ≤ at → from stop (drop at s) ≡ []
unfolding from
from_end stop s at l = rw (drop_of_length-le s l) refl

-- the number of the line at a position
newlines-append : (a b : List ℕ) → newlines (a ++ b) ≡ newlines a + newlines b
unfolding newlines
newlines-append [] b = omega arith
newlines-append (x ∷ a) b = go (eqb x 10) (newlines-append a b)
  where
    go : (y : Bool) → newlines (a ++ b) ≡ newlines a + newlines b → cond y (suc (newlines (a ++ b))) (newlines (a ++ b)) ≡ cond y (suc (newlines a)) (newlines a) + newlines b
    go true e = omega (arith, e)
    go false e = e

pub newlines-at : (s : List ℕ) (at : ℕ) → newlines (take at s) + newlines (drop at s) ≡ newlines s
newlines-at s at = sym (newlines-append (take at s) (drop at s)) ∙ ap newlines (take-append-drop at s)

-- The lines with words from position `at` on, where a line begins: that line's words, and the lines from `next` on, where `next` is after it.
-- The number of a line is 1 and the bytes 10 before it.
pub lines_at : (s : List ℕ) (at next : ℕ) → at < length s → drop next s ≡ past_line (drop at s) →
    word_lines (joined (1 + newlines (take at s)) (lines (drop at s)))
    ≡ with_words (1 + newlines (take at s)) (words (until ends_line (drop at s))) (word_lines (joined (1 + newlines (take next s)) (lines (drop next s))))
unfolding word_lines
lines_at s at next l e =
    ap word_lines f.law
    ∙ ap (λ r. with_words n (words (until ends_line (drop at s))) (word_lines (joined (n + f.count) (lines r)))) (sym e)
    ∙ ap (λ k. with_words n (words (until ends_line (drop at s))) (word_lines (joined k (lines (drop next s))))) counts
  where
    n : ℕ
    n = 1 + newlines (take at s)

    f : FirstLine (1 + newlines (take at s)) (drop at s)
    f = subst (FirstLine (1 + newlines (take at s))) (sym (at-cons s at l)) (first-line (1 + newlines (take at s)) (byte_at s at) (drop (at + 1) s))

    counts : 1 + newlines (take at s) + f.count ≡ 1 + newlines (take next s)
    counts = omega (arith, newlines-at s at, newlines-at s next, f.counted, ap newlines e)

pub lines_end : (s : List ℕ) (at n : ℕ) → length s ≤ at → word_lines (joined n (lines (drop at s))) ≡ []
unfolding word_lines joined lines
lines_end s at n l = rw (drop_of_length-le s l) refl

-- the text's own lines are those from position 0 on
pub lines_start : (s : List ℕ) → lines_of s ≡ word_lines (joined (1 + newlines (take 0 s)) (lines (drop 0 s)))
unfolding lines_of newlines
lines_start [] = refl
lines_start (b ∷ s) = refl

-- how many lines a text has: a missing `.end` is one past them
pub lines-count : (s : List ℕ) → length (lines s) ≡ newlines s + cond (open_end s) 1 0
unfolding lines newlines open_end
lines-count [] = refl
lines-count (b ∷ []) = go (eqb b 10)
  where
    go : (x : Bool) → length (cond x ([] ∷ []) (onto b [])) ≡ cond x 1 0 + cond (not x) 1 0
    go true = refl
    go false = refl
lines-count (b ∷ c ∷ s) = go (eqb b 10) (lines-some c s) (lines-count (c ∷ s))
  where
    go : (x : Bool) → (l : List ℕ) × (ls : List (List ℕ)) × (lines (c ∷ s) ≡ l ∷ ls) → length (lines (c ∷ s)) ≡ newlines (c ∷ s) + cond (open_end (c ∷ s)) 1 0 → length (cond x ([] ∷ lines (c ∷ s)) (onto b (lines (c ∷ s)))) ≡ cond x (suc (newlines (c ∷ s))) (newlines (c ∷ s)) + cond (open_end (c ∷ s)) 1 0
    go true r e = omega (arith, e)
    go false r e = ap (λ k. length (onto b k)) r.2 ∙ ap length (sym r.2) ∙ e
