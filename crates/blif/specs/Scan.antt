-- For the code: the same lines and words, found from a position in the text. A position `at` stands for the bytes from it on, `drop at text`, and
-- each function here takes such a rest of the text and goes over it once, byte by byte. `proofs/Scanning.antt` has the laws.
use Rattle.std.specs.Prelude.{ℕ, suc, ◌+◌, Bool, true, false, cond, ◌&&◌, ◌||◌, not, List, [], ◌∷◌, eqb, leb, length, drop}
use Rattle.maps.specs.Number.{byte_at}
use Rattle.blif.specs.Lines.{newline, comment, backslash}
use Rattle.blif.specs.Words.{Word, blank, words}

-- a backslash that joins stands before this rest: "at a line's end", also at the text's
abbrev pub joins_here : ℕ → (rest : List ℕ) → Bool
joins_here b [] = eqb b backslash
joins_here b (c ∷ rest) = eqb b backslash && eqb c newline

-- the bytes before the first one that stops, without the joins between lines
unfoldable pub until : (stop : ℕ → Bool) → (rest : List ℕ) → List ℕ
until stop [] = []
until stop (b ∷ []) = cond (joins_here b []) [] (cond (stop b) [] (b ∷ []))
until stop (b ∷ c ∷ rest) = cond (joins_here b (c ∷ rest)) (until stop rest) (cond (stop b) [] (b ∷ until stop (c ∷ rest)))

-- the rest of the text from that byte on
unfoldable pub from : (stop : ℕ → Bool) → (rest : List ℕ) → List ℕ
from stop [] = []
from stop (b ∷ []) = cond (joins_here b []) [] (cond (stop b) (b ∷ []) [])
from stop (b ∷ c ∷ rest) = cond (joins_here b (c ∷ rest)) (from stop rest) (cond (stop b) (b ∷ c ∷ rest) (from stop (c ∷ rest)))

-- a joined line ends at a byte 10 or at its comment; a word also at a blank; blanks end at what is no blank
abbrev pub ends_line : ℕ → Bool
ends_line b = eqb b newline || eqb b comment

abbrev pub ends_word : ℕ → Bool
ends_word b = blank b || ends_line b

abbrev pub ends_blanks : ℕ → Bool
ends_blanks b = not (blank b)

-- a line has no more words here
abbrev pub at_line_end : (rest : List ℕ) → Bool
at_line_end [] = true
at_line_end (b ∷ rest) = ends_line b

-- after the next byte 10
unfoldable pub past : (rest : List ℕ) → List ℕ
past [] = []
past (b ∷ rest) = cond (eqb b newline) rest (past rest)

-- the rest of the text after the joined line that begins here
unfoldable pub past_line : (rest : List ℕ) → List ℕ
unfolding from past
past_line rest = past (from ends_line rest)

-- the name that begins at a position, and the words of the line from a position on
abbrev pub name_at : (text : List ℕ) → (at : ℕ) → Word
unfolding until
name_at text at = until ends_word (drop at text)

abbrev pub words_at : (text : List ℕ) → (at : ℕ) → List Word
unfolding until words
words_at text at = words (until ends_line (drop at text))

-- how many bytes are 10: the line at position `at` of a text has the number 1 + newlines (take at text)
unfoldable pub newlines : List ℕ → ℕ
newlines [] = 0
newlines (b ∷ rest) = cond (eqb b newline) (suc (newlines rest)) (newlines rest)

-- the same at a position: a backslash joins there
abbrev pub join_at : (text : List ℕ) → (at : ℕ) → Bool
join_at text at = eqb (byte_at text at) backslash && (leb (length text) (at + 1) || eqb (byte_at text (at + 1)) newline)

-- the text's last line has no byte 10: the text has so many lines as bytes 10, and one more if this holds
unfoldable pub open_end : List ℕ → Bool
open_end [] = false
open_end (b ∷ []) = not (eqb b newline)
open_end (b ∷ c ∷ rest) = open_end (c ∷ rest)
