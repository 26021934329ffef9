-- Document 02, U3, words: the lines of a text that have a word, as words.
use Rattle.std.specs.Prelude.{ℕ, Bool, true, cond, ◌||◌, List, [], ◌∷◌, eqb}
use Prim.Native.Char.{code}
use Prim.Native.String.{String, [] as none, ◌∷◌ as ◌then◌}
use Rattle.maps.specs.Lists.{equal}
use Rattle.blif.specs.Lines.{onto, lines, Joined, joined}

-- a word is its bytes: byte 13, byte 0 and bytes from 128 are bytes of words
abbrev pub Word : Type 0
Word = List ℕ

-- the bytes of a text written out in these definitions
abbrev pub bytes_of : String → Word
bytes_of none = []
bytes_of (c then s) = code c ∷ bytes_of s

abbrev pub is : String → Word → Bool
is s w = equal w (bytes_of s)

-- "Words are parted by spaces or tabs"
abbrev pub space : ℕ
space = 32

abbrev pub tab : ℕ
tab = 9

abbrev pub blank : ℕ → Bool
blank b = eqb b space || eqb b tab

-- a word ends before these bytes
abbrev pub ending : List ℕ → Bool
ending [] = true
ending (b ∷ bytes) = blank b

unfoldable pub words : (bytes : List ℕ) → List Word
words [] = []
words (b ∷ bytes) = cond (blank b) (words bytes) (cond (ending bytes) ((b ∷ []) ∷ words bytes) (onto b (words bytes)))

-- a line with its words
pub record Line : Type 0 where
  pub number : ℕ
  pub words : List Word

abbrev pub line_of : ℕ → List Word → Line
line_of n ws = record { number = n; words = ws }

-- lines "may hold no word": such lines may stand anywhere
abbrev pub with_words : ℕ → List Word → List Line → List Line
with_words n [] ls = ls
with_words n (w ∷ ws) ls = line_of n (w ∷ ws) ∷ ls

unfoldable pub word_lines : List Joined → List Line
unfolding words
word_lines [] = []
word_lines (l ∷ ls) = with_words l.number (words l.bytes) (word_lines ls)

-- the lines of a text that have a word
unfoldable pub lines_of : (text : List ℕ) → List Line
unfolding lines joined word_lines
lines_of text = word_lines (joined 1 (lines text))
