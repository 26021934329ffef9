-- Document 02, U3, lines: from the text's bytes to lines, without comments, joined, each with the number of its first line in the text.
use Rattle.std.specs.Prelude.{ℕ, suc, cond, List, [], ◌∷◌, ◌++◌, eqb}

-- "lines end at byte 10"
abbrev pub newline : ℕ
newline = 10

-- "`#` comments"
abbrev pub comment : ℕ
comment = 35

-- "a backslash at a line's end"
abbrev pub backslash : ℕ
backslash = 92

-- a byte more in front of the first line
abbrev pub onto : ℕ → List (List ℕ) → List (List ℕ)
onto b [] = (b ∷ []) ∷ []
onto b (l ∷ ls) = (b ∷ l) ∷ ls

-- "lines end at byte 10, a last one that is not empty also at the text's end"
unfoldable pub lines : (text : List ℕ) → List (List ℕ)
lines [] = []
lines (b ∷ text) = cond (eqb b newline) ([] ∷ lines text) (onto b (lines text))

-- what stands on a line before its comment, and whether the next line is joined to it
pub data Part : Type 0 where
  ends : (bytes : List ℕ) → Part
  joins : (bytes : List ℕ) → Part

abbrev pub after : ℕ → Part → Part
after b (ends bytes) = ends (b ∷ bytes)
after b (joins bytes) = joins (b ∷ bytes)

-- "`#` comments and a backslash at a line's end, which joins the next line"; "a backslash in a comment joins nothing". Only a backslash that is
-- the line's last byte joins: before a blank, a byte 13 or a comment it is a byte of the word, and of two at a line's end the first is one.
unfoldable pub part : (line : List ℕ) → Part
part [] = ends []
part (b ∷ []) = cond (eqb b comment) (ends []) (cond (eqb b backslash) (joins []) (ends (b ∷ [])))
part (b ∷ c ∷ line) = cond (eqb b comment) (ends []) (after b (part (c ∷ line)))

-- a line after joining: "of joined lines the first" gives the number, "from 1"
pub record Joined : Type 0 where
  pub number : ℕ
  pub bytes : List ℕ

abbrev pub numbered : ℕ → List ℕ → Joined
numbered n bytes = record { number = n; bytes = bytes }

-- "joins the next line, if any, with nothing between"
abbrev pub joined_to : ℕ → List ℕ → List Joined → List Joined
joined_to n bytes [] = numbered n bytes ∷ []
joined_to n bytes (l ∷ ls) = numbered n (bytes ++ l.bytes) ∷ ls

abbrev pub joined_after : ℕ → Part → List Joined → List Joined
joined_after n (ends bytes) ls = numbered n bytes ∷ ls
joined_after n (joins bytes) ls = joined_to n bytes ls

-- the lines of a text, of which the first has number n
unfoldable pub joined : (n : ℕ) → List (List ℕ) → List Joined
unfolding part
joined n [] = []
joined n (l ∷ ls) = joined_after n (part l) (joined (suc n) ls)
