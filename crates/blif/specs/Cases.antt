-- Document 02, U3: a row for every sentence and for every point that was decided, one table, proved together by computation.
use Rattle.std.specs.Prelude.{ℕ, ◌+◌, ◌/◌, ◌%◌, Bool, false, ◌&&◌, List, [], ◌∷◌, ◌++◌, map, T, eqb, replicate}
use Prim.Native.String.{String}
use Rattle.maps.specs.Lists.{all, equal, below, concat}
use Rattle.maps.specs.Outcome.{Outcome, accepted, refusal}
use Rattle.blif.specs.Words.{bytes_of}
use Rattle.blif.specs.Limits.{Caller, caller}
use Rattle.blif.specs.Import.{importing}

-- K = 4, T = 8, H = 9, and d = 2
abbrev usual : Caller
usual = caller 4 8 9 1000 500

-- what stands in each row
pub data Case : Type 0 where
  -- a text, and the outcome for the usual caller with enough room
  imports : (text : String) → Outcome → Case
  -- the same for the line `.model m`, the text, and the line `.end`
  holding : (text : String) → Outcome → Case
  -- the same for a text as bytes, a caller and a room
  given : (text : List ℕ) → Caller → (room : ℕ) → Outcome → Case

abbrev is_outcome : Outcome → Outcome → Bool
is_outcome (accepted p) (accepted q) = equal p q
is_outcome (accepted p) (refusal k a) = false
is_outcome (refusal k a) (accepted p) = false
is_outcome (refusal k a) (refusal j b) = eqb k j && eqb a b

abbrev framed : List ℕ → List ℕ
framed text = bytes_of ".model m\n" ++ text ++ bytes_of "\n.end\n"

unfoldable pub holds : Case → Bool
unfolding importing
holds (imports text o) = is_outcome (importing (bytes_of text) usual 2000) o
holds (holding text o) = is_outcome (importing (framed (bytes_of text)) usual 2000) o
holds (given text c room o) = is_outcome (importing text c room) o

-- the sheet of n nodes for the usual caller; it ends with P = 1 and no entries
abbrev sheet : (n : ℕ) → (nodes : List ℕ) → Outcome
sheet n nodes = accepted ((4 ∷ 8 ∷ 9 ∷ n ∷ 0 ∷ []) ++ nodes ++ (1 ∷ 0 ∷ []))

-- an input, a table, a latch, each with q = 0; o is 1 if it is put out
abbrev input : (o : ℕ) → List ℕ
input o = 0 ∷ o ∷ 0 ∷ 0 ∷ 0 ∷ 0 ∷ []

abbrev table : (o count : ℕ) → (operands : List ℕ) → List ℕ
table o n us = 1 ∷ o ∷ 2 ∷ 0 ∷ 0 ∷ n ∷ us

abbrev box : (o operand : ℕ) → List ℕ
box o u = 2 ∷ o ∷ 0 ∷ 1 ∷ 0 ∷ 1 ∷ u ∷ []

-- an input a, no more
abbrev one : Outcome
one = sheet 1 (input 0)

-- n words of two letters, all different, each after a blank
abbrev many : (n : ℕ) → List ℕ
many n = concat (map (λ i. 32 ∷ (97 + i / 16) ∷ (97 + i % 16) ∷ []) (below n))

-- a name of n letters
abbrev long : (n : ℕ) → List ℕ
long n = replicate n 97

-- a model with one table, for sheets that go by the caller's numbers
abbrev single : List ℕ
single = framed (bytes_of ".inputs a\n.outputs y\n.names a y\n1 1")

-- its sheet for K, T, H and d, where all are below 128
abbrev single_sheet : (k t h d : ℕ) → Outcome
single_sheet k t h d = accepted ((k ∷ t ∷ h ∷ 2 ∷ 0 ∷ []) ++ input 0 ++ (1 ∷ 1 ∷ d ∷ 0 ∷ 0 ∷ 1 ∷ 0 ∷ []) ++ (1 ∷ 0 ∷ []))

unfoldable pub cases : List Case
cases =
    -- the parts of a model: inputs, a table, a latch; "A `.names` is logic, or an input if it reads nothing"
    imports ".model m\n.inputs a b\n.outputs y\n.names a b y\n11 1\n.end\n" (sheet 3 (input 0 ++ input 0 ++ table 1 2 (0 ∷ 1 ∷ [])))
    ∷ holding ".inputs a\n.latch a q 0\n.names q y\n0 1" (sheet 3 (input 0 ++ box 0 0 ++ table 0 1 (1 ∷ [])))
    ∷ holding ".names k\n1" (sheet 1 (input 0))
    -- "Nodes are numbered in the order in which their names are defined", not in that of `.outputs`
    ∷ holding ".outputs z y\n.inputs b a\n.names a y\n.names b a z" (sheet 4 (input 0 ++ input 0 ++ table 1 1 (1 ∷ []) ++ table 1 2 (0 ∷ 1 ∷ [])))
    -- lines: the empty text has none, `x` and `x` with its byte 10 one, and with another byte 10 two
    ∷ imports "" (refusal 9 1)
    ∷ imports "\n" (refusal 9 2)
    ∷ imports ".model m" (refusal 9 2)
    ∷ imports ".model m\n" (refusal 9 2)
    ∷ imports ".model m\n\n" (refusal 9 3)
    ∷ imports ".model m\n.inputs a\n.end" one
    -- a comment, also inside a word; lines without a word, before `.model`, between a `.names` and its rows, after `.end`
    ∷ imports ".model m # it\n.inputs a#b c\n.end#" one
    ∷ imports "\n \t\n# c\n.model m\n.names k\n\n # c\n1\n.end\n\n# x\n\t" one
    -- "joins the next line, if any, with nothing between"
    ∷ imports ".model m\n.inp\\\nuts a\n.end" one
    ∷ holding ".inputs a\\\nb\n.names ab y" (sheet 2 (input 0 ++ table 0 1 (0 ∷ [])))
    ∷ holding ".inputs a\\\n b" (sheet 2 (input 0 ++ input 0))
    ∷ holding ".inputs \\\na \\\n# c" one
    -- the place is "of joined lines the first", and lines are counted as they stand in the text
    ∷ holding ".inputs a\n.names \\\na \\\nb y" (refusal 10 3)
    ∷ imports ".model \\\nm\n.bad" (refusal 9 3)
    ∷ imports ".model \\\nm\n" (refusal 9 3)
    -- only a backslash that is the line's last byte joins: not before a blank, byte 13 or a comment, nor in a comment
    ∷ holding ".inputs a\\ \nb" (refusal 9 3)
    ∷ imports ".model m\\\r\n.inputs a\n.end" one
    ∷ imports ".model m\\#c\n.inputs a\n.end" one
    ∷ imports ".model m #c\\\n.inputs a\n.end" one
    -- at the last line's end it is taken away and joins nothing; of two the first is a byte of the word
    ∷ imports ".model m\n.inputs a\n.end\\" one
    ∷ imports ".model m\n.inputs a\n.end\\\n" one
    ∷ imports ".model m\n.inputs a\n.end\\\nx" (refusal 9 3)
    ∷ holding ".inputs a\\\\\nb\n.names a\\b y" (sheet 2 (input 0 ++ table 0 1 (0 ∷ [])))
    -- "Words are parted by spaces or tabs" alone: bytes 13, 0, 11 and those from 128 are bytes of words
    ∷ imports " \t.model\t m \n\t.inputs  \ta\t\n .end " one
    ∷ imports ".model m\n.inputs a\n.end\r\n" (refusal 9 3)
    ∷ holding ".inputs a\r a \0 \u{b} ÿ" (sheet 5 (input 0 ++ input 0 ++ input 0 ++ input 0 ++ input 0))
    -- "`.model` with one name comes first", and once
    ∷ imports ".inputs a\n.model m\n.end" (refusal 9 1)
    ∷ imports "# c\n.end" (refusal 9 2)
    ∷ imports ".model\n.inputs a\n.end" (refusal 9 1)
    ∷ imports ".model m n\n.inputs a\n.end" (refusal 9 1)
    ∷ holding ".model m" (refusal 9 2)
    ∷ holding ".inputs a\n.model n" (refusal 9 3)
    -- "`.inputs` and `.outputs`, each with any number of names, in any number and order, before any `.names` or `.latch`"
    ∷ holding ".outputs\n.inputs\n.outputs y\n.inputs a\n.inputs\n.names a y" (sheet 2 (input 0 ++ table 1 1 (0 ∷ [])))
    ∷ holding ".inputs a\n.names a y\n.inputs b" (refusal 9 4)
    ∷ holding ".inputs a\n.names a y\n1 1\n.inputs" (refusal 9 5)
    ∷ holding ".inputs a\n.latch a y\n.outputs" (refusal 9 4)
    -- `.names` has a word at least; any number of rows, none too
    ∷ holding ".inputs a\n.names" (refusal 9 3)
    ∷ holding ".inputs a\n.names a y\n0 1\n1 0\n- 1\n.names a z" (sheet 3 (input 0 ++ table 0 1 (0 ∷ []) ++ table 0 1 (0 ∷ [])))
    -- "a row is a 0, 1 or - for each input, then 0 or 1 as its own word": too short, too long, parted, other bytes, one word, three
    ∷ holding ".inputs a b\n.names a b y\n01 1\n-0 0" (sheet 3 (input 0 ++ input 0 ++ table 0 2 (0 ∷ 1 ∷ [])))
    ∷ holding ".inputs a b\n.names a b y\n1 1" (refusal 9 4)
    ∷ holding ".inputs a b\n.names a b y\n111 1" (refusal 9 4)
    ∷ holding ".inputs a b\n.names a b y\n1 1 1" (refusal 9 4)
    ∷ holding ".inputs a b\n.names a b y\n12 1" (refusal 9 4)
    ∷ holding ".inputs a b\n.names a b y\n11 -" (refusal 9 4)
    ∷ holding ".inputs a b\n.names a b y\n11 2" (refusal 9 4)
    ∷ holding ".inputs a b\n.names a b y\n11 11" (refusal 9 4)
    ∷ holding ".inputs a b\n.names a b y\n111" (refusal 9 4)
    ∷ holding ".inputs a b\n.names a b y\n11" (refusal 9 4)
    -- a row without inputs is one word
    ∷ holding ".names k\n0\n1" one
    ∷ holding ".names k\n1 1" (refusal 9 3)
    ∷ holding ".names k\n-" (refusal 9 3)
    -- a row belongs to the `.names` before it: none before, or a `.latch` between
    ∷ holding "1 1" (refusal 9 2)
    ∷ holding ".inputs a\n1 1" (refusal 9 3)
    ∷ holding ".inputs a\n.names a y\n.latch a q\n1 1" (refusal 9 5)
    ∷ holding ".inputs a b\n.names a b y\n.names a z\n11 1" (refusal 9 5)
    -- "A `.latch` has its input, its output and at most an initial value from 0 to 3"
    ∷ holding ".inputs a\n.latch a q" (sheet 2 (input 0 ++ box 0 0))
    ∷ holding ".inputs a\n.latch a q 1\n.latch a r 2\n.latch q s 3" (sheet 4 (input 0 ++ box 0 0 ++ box 0 0 ++ box 0 1))
    ∷ holding ".inputs a\n.latch a" (refusal 9 3)
    ∷ holding ".inputs a\n.latch" (refusal 9 3)
    ∷ holding ".inputs a\n.latch a q 4" (refusal 9 3)
    ∷ holding ".inputs a\n.latch a q 00" (refusal 9 3)
    ∷ holding ".inputs a\n.latch a q re c 0" (refusal 9 3)
    -- "`.end` last", without a word after it, and no word on a later line
    ∷ imports ".model m\n.inputs a\n.end m" (refusal 9 3)
    ∷ imports ".model m\n.inputs a\n.end\n\n.end" (refusal 9 5)
    ∷ imports ".model m\n.inputs a\n.end\n# c\n.model n\n.end" (refusal 9 5)
    -- other directives, other cases; any word may be a name
    ∷ holding ".inputs a\n.subckt a" (refusal 9 3)
    ∷ holding ".inputs a\n.Names a y" (refusal 9 3)
    ∷ imports ".MODEL m\n.inputs a\n.end" (refusal 9 1)
    ∷ holding ".inputs .names .end 0\n.names .names 0 y\n11 1" (sheet 4 (input 0 ++ input 0 ++ input 0 ++ table 0 2 (0 ∷ 2 ∷ [])))
    -- 10: read before it is defined: nowhere, on the same line, on a later one; `.model` and `.outputs` define nothing
    ∷ holding ".names a y" (refusal 10 2)
    ∷ holding ".inputs a\n.names a y y" (refusal 10 3)
    ∷ holding ".inputs a\n.names a b y\n.names b" (refusal 10 3)
    ∷ holding ".inputs a\n.latch q q" (refusal 10 3)
    ∷ holding ".inputs a\n.names m y" (refusal 10 3)
    ∷ holding ".inputs a\n.outputs y\n.names y z" (refusal 10 4)
    -- defined twice: on one line, on two, by `.names`, by `.latch`
    ∷ holding ".inputs a a" (refusal 10 2)
    ∷ holding ".inputs a b\n.inputs b" (refusal 10 3)
    ∷ holding ".inputs a\n.names a y\n.names a y" (refusal 10 4)
    ∷ holding ".inputs a\n.names a" (refusal 10 3)
    ∷ holding ".inputs a\n.latch a a" (refusal 10 3)
    -- an operand may repeat; an output may be defined later, repeat, and be an input
    ∷ holding ".inputs a\n.names a a y" (sheet 2 (input 0 ++ table 0 2 (0 ∷ 0 ∷ [])))
    ∷ holding ".outputs y y a\n.inputs a\n.outputs y\n.names a y" (sheet 2 (input 1 ++ table 1 1 (0 ∷ [])))
    ∷ holding ".inputs a\n.outputs q\n.latch a q" (sheet 2 (input 0 ++ box 1 0))
    -- an undefined output is found last of all, the first such line in the text
    ∷ holding ".inputs a\n.outputs a\n.outputs a y z\n.outputs z" (refusal 10 4)
    ∷ holding ".outputs y\n.inputs a\n.bad" (refusal 9 4)
    ∷ imports ".model m\n.outputs y\n.inputs a\n.end\n1" (refusal 9 5)
    ∷ imports ".model m\n.outputs y\n.inputs a" (refusal 9 4)
    -- 11: names of 31 bytes, for inputs, the model and outputs too
    ∷ given (framed (bytes_of ".inputs " ++ long 31)) usual 2000 one
    ∷ given (framed (bytes_of ".inputs " ++ long 32)) usual 2000 (refusal 11 2)
    ∷ given (framed (bytes_of ".inputs a\n.outputs " ++ long 32)) usual 2000 (refusal 11 3)
    ∷ given (bytes_of ".model " ++ long 32 ++ bytes_of "\n.inputs a\n.end") usual 2000 (refusal 11 1)
    ∷ given (bytes_of ".model " ++ long 31 ++ bytes_of "\n.inputs a\n.end") usual 2000 one
    -- 6 operands, repeated ones counted each time
    ∷ holding ".inputs a b\n.names a a a a b b y" (sheet 3 (input 0 ++ input 0 ++ table 0 6 (0 ∷ 0 ∷ 0 ∷ 0 ∷ 1 ∷ 1 ∷ [])))
    ∷ holding ".inputs a\n.names a a a a a a a y" (refusal 11 3)
    -- 256 nodes: the line that would define one more
    ∷ given (framed (bytes_of ".inputs" ++ many 256)) usual 2000 (accepted ((4 ∷ 8 ∷ 9 ∷ 128 ∷ 2 ∷ 0 ∷ []) ++ concat (replicate 256 (input 0)) ++ (1 ∷ 0 ∷ [])))
    ∷ given (framed (bytes_of ".inputs" ++ many 257)) usual 2000 (refusal 11 2)
    ∷ given (framed (bytes_of ".inputs" ++ many 256 ++ bytes_of "\n.names k")) usual 2000 (refusal 11 3)
    -- "on one line 9, 10, 11 in that order"
    ∷ holding ".inputs a\n.latch q q 4" (refusal 9 3)
    ∷ given (framed (bytes_of ".model " ++ long 32)) usual 2000 (refusal 9 2)
    ∷ holding ".inputs a\n.names a a a a a a b y" (refusal 10 3)
    ∷ given (framed (bytes_of ".inputs" ++ many 256 ++ bytes_of " aa")) usual 2000 (refusal 10 2)
    ∷ given (framed (bytes_of ".names " ++ long 32 ++ bytes_of " y")) usual 2000 (refusal 10 2)
    -- "the first faulty line decides"
    ∷ holding ".inputs a\n.names a a a a a a a y\n.names z\n.names z\n.bad" (refusal 11 3)
    ∷ holding ".inputs a a\n.bad" (refusal 10 2)
    -- "A model without nodes is 11 at `.end`", before anything after it and before undefined outputs
    ∷ imports ".model m\n.end" (refusal 11 2)
    ∷ imports ".model m\n.outputs y\n.inputs\n\n.end\n.end" (refusal 11 5)
    ∷ imports ".model m\n.end x" (refusal 9 2)
    -- "0 for the caller's numbers": K from 2 to 6, T from 1 to 64, H to 65,535, picoseconds at least 1
    ∷ given single (caller 1 8 9 1000 500) 2000 (refusal 11 0)
    ∷ given single (caller 2 8 9 1000 500) 2000 (single_sheet 2 8 9 2)
    ∷ given single (caller 6 8 9 1000 500) 2000 (single_sheet 6 8 9 2)
    ∷ given single (caller 7 8 9 1000 500) 2000 (refusal 11 0)
    ∷ given single (caller 4 0 9 1000 500) 2000 (refusal 11 0)
    ∷ given single (caller 4 64 9 1000 500) 2000 (single_sheet 4 64 9 2)
    ∷ given single (caller 4 65 9 1000 500) 2000 (refusal 11 0)
    ∷ given single (caller 4 8 0 1000 500) 2000 (single_sheet 4 8 0 2)
    ∷ given (bytes_of ".model m\n.inputs a\n.end") (caller 4 8 65535 1 1) 2000 (accepted ((4 ∷ 8 ∷ 255 ∷ 255 ∷ 3 ∷ 1 ∷ 0 ∷ []) ++ input 0 ++ (1 ∷ 0 ∷ [])))
    ∷ given single (caller 4 8 65536 1000 500) 2000 (refusal 11 0)
    ∷ given single (caller 4 8 9 0 500) 2000 (refusal 11 0)
    ∷ given single (caller 4 8 9 1000 0) 2000 (refusal 11 0)
    -- "d is the quotient rounded up", at most T, also if the model has no table
    ∷ given single (caller 4 8 9 1001 500) 2000 (single_sheet 4 8 9 3)
    ∷ given single (caller 4 8 9 999 1000) 2000 (single_sheet 4 8 9 1)
    ∷ given single (caller 4 8 9 4000 500) 2000 (single_sheet 4 8 9 8)
    ∷ given single (caller 4 8 9 4001 500) 2000 (refusal 11 0)
    ∷ given single (caller 4 64 9 4294967295 67108864) 2000 (single_sheet 4 64 9 64)
    ∷ given (framed (bytes_of ".inputs a")) (caller 4 8 9 4001 500) 2000 (refusal 11 0)
    -- a text of 65,537 bytes, "both looked at first"; one of 65,536 is read
    ∷ given (replicate 65537 32) usual 2000 (refusal 11 0)
    ∷ given (replicate 65536 32) usual 2000 (refusal 9 2)
    ∷ given [] (caller 1 8 9 1000 500) 0 (refusal 11 0)
    -- "and then 8": one byte short, the exact room, and no room for what is refused
    ∷ given single usual 19 (refusal 8 20)
    ∷ given single usual 20 (single_sheet 4 8 9 2)
    ∷ given (framed (bytes_of ".inputs a\n.outputs y")) usual 0 (refusal 10 3)
    ∷ given (bytes_of ".model m\n.end") usual 0 (refusal 11 2)
    ∷ []

pub marked : T (all holds cases)
unfolding holds cases
marked = tt
