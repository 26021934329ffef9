-- Document 02, U1: records, the room, and the outcome of writing them, one table, proved together by computation.
use Rattle.std.specs.Prelude.{ℕ, Bool, List, [], ◌∷◌, ◌++◌, T, ℤ, pos, negsuc, replicate}
use Rattle.maps.specs.Lists.{all}
use Rattle.maps.specs.Outcome.{Outcome, accepted, refusal}
use Rattle.maps.specs.Sheet.{Window}
use Rattle.maps.specs.Records.{NodeRecord, DifferenceRecord, Records}
use Rattle.maps.specs.Write.{writing}
use Rattle.maps.specs.Cases.{is_outcome}

pub data Case : Type 0 where
  writes : Records → (room : ℕ) → Outcome → Case

unfoldable pub holds : Case → Bool
unfolding writing
holds (writes G room o) = is_outcome (writing G room) o

-- kind, mark, d, lat, q, operands; u, v, w; K, T, H, nodes, differences, P and entries; the same with P = 1 and no entries
abbrev node : (kind mark d lat q : ℕ) → List ℕ → NodeRecord
node k o d l q us = record { kind = k; mark = o; delay = d; latency = l; clock_to_q = q; operands = us }

abbrev gap : (u v : ℕ) → ℤ → DifferenceRecord
gap u v w = record { from = u; to = v; weight = w }

abbrev window : (id from to : ℕ) → Window
window i f t = record { id = i; from = f; to = t }

abbrev timed : (k t h : ℕ) → List NodeRecord → List DifferenceRecord → ℕ → List Window → Records
timed k t h vs ds p ws = record { leaves = k; top = t; horizon = h; nodes = vs; differences = ds; period = p; windows = ws }

abbrev given : (k t h : ℕ) → List NodeRecord → List DifferenceRecord → Records
given k t h vs ds = timed k t h vs ds 1 []

abbrev input_node : NodeRecord
input_node = node 0 0 0 0 0 []

abbrev hall_nodes : List NodeRecord
hall_nodes =
    input_node ∷ input_node ∷ input_node ∷ node 1 0 1 0 0 (0 ∷ 1 ∷ []) ∷ node 1 0 1 0 0 (3 ∷ 2 ∷ []) ∷ node 1 1 1 0 0 (4 ∷ 3 ∷ []) ∷ []

abbrev hall : Records
hall = given 3 2 4 hall_nodes (gap 0 5 (pos 1) ∷ [])

-- "The hall sheet in hexadecimal, 44 bytes", and q = 0 in each of its six nodes, and P = 1 and no entries
abbrev hall_sheet : List ℕ
hall_sheet =
    (0x03 ∷ 0x02 ∷ 0x04 ∷ 0x06 ∷ 0x01 ∷ [])
    ++ replicate 18 0x00
    ++ (0x01 ∷ 0x00 ∷ 0x01 ∷ 0x00 ∷ 0x00 ∷ 0x02 ∷ 0x00 ∷ 0x01 ∷ [])
    ++ (0x01 ∷ 0x00 ∷ 0x01 ∷ 0x00 ∷ 0x00 ∷ 0x02 ∷ 0x03 ∷ 0x02 ∷ [])
    ++ (0x01 ∷ 0x01 ∷ 0x01 ∷ 0x00 ∷ 0x00 ∷ 0x02 ∷ 0x04 ∷ 0x03 ∷ [])
    ++ (0x00 ∷ 0x05 ∷ 0x02 ∷ [])
    ++ (0x01 ∷ 0x00 ∷ [])

-- an input and one more node; an input and one difference
abbrev two : NodeRecord → Records
two v = given 2 1 0 (input_node ∷ v ∷ []) []

abbrev apart : DifferenceRecord → Records
apart d = given 2 1 65535 (input_node ∷ []) (d ∷ [])

abbrev apart_sheet : List ℕ → List ℕ
apart_sheet w = (2 ∷ 1 ∷ 0xff ∷ 0xff ∷ 0x03 ∷ 1 ∷ 1 ∷ 0 ∷ 0 ∷ 0 ∷ 0 ∷ 0 ∷ 0 ∷ 0 ∷ 0 ∷ []) ++ w ++ (1 ∷ 0 ∷ [])

-- an input and a box, with P and entries: P is number 17
abbrev sensed : ℕ → List Window → Records
sensed p ws = timed 2 1 0 (input_node ∷ node 2 0 0 0 0 [] ∷ []) [] p ws

unfoldable pub cases : List Case
cases =
    -- the hall sheet; 8 one byte short
    writes hall 52 (accepted hall_sheet)
    ∷ writes hall 51 (refusal 8 52)
    -- the header: the first in the sheet's order decides; n and m are numbers 3 and 4; a number without a spelling
    ∷ writes (given 7 2 4 [] []) 64 (refusal 3 0)
    ∷ writes (given 3 2 4 [] []) 64 (refusal 3 3)
    ∷ writes (given 3 2 4 (replicate 257 input_node) (replicate 1025 (gap 0 0 (pos 0)))) 64 (refusal 3 3)
    ∷ writes (given 3 2 4 (input_node ∷ []) (replicate 1025 (gap 0 0 (pos 0)))) 64 (refusal 3 4)
    ∷ writes (given 3 3000000 4 [] []) 64 (refusal 3 1)
    ∷ writes (given 3 2 65536 [] []) 64 (refusal 3 2)
    -- a node: kind, mark, d, lat, q; an operand on an input and seven on a table, at the count
    ∷ writes (two (node 3 0 0 0 0 [])) 64 (refusal 3 11)
    ∷ writes (two (node 0 2 0 0 0 [])) 64 (refusal 3 12)
    ∷ writes (two (node 1 0 2 0 0 (0 ∷ []))) 64 (refusal 3 13)
    ∷ writes (two (node 1 0 1 1 0 (0 ∷ []))) 64 (refusal 3 14)
    ∷ writes (given 2 1 0 (node 0 0 0 0 1 [] ∷ []) []) 64 (refusal 3 9)
    ∷ writes (given 2 1 0 (node 0 0 0 0 0 (0 ∷ []) ∷ []) []) 64 (refusal 3 10)
    ∷ writes (two (node 1 0 1 0 1 (0 ∷ []))) 64 (refusal 3 15)
    ∷ writes (two (node 2 0 0 0 1 (0 ∷ []))) 64 (refusal 3 15)
    ∷ writes (two (node 2 0 0 1 2 (0 ∷ []))) 64 (refusal 3 15)
    ∷ writes (two (node 2 0 0 255 1 (0 ∷ []))) 64
    (accepted (2 ∷ 1 ∷ 0 ∷ 2 ∷ 0 ∷ 0 ∷ 0 ∷ 0 ∷ 0 ∷ 0 ∷ 0 ∷ 2 ∷ 0 ∷ 0 ∷ 0xff ∷ 0x01 ∷ 1 ∷ 1 ∷ 0 ∷ 1 ∷ 0 ∷ []))
    ∷ writes (two (node 0 0 0 0 0 (9 ∷ []))) 64 (refusal 3 16)
    ∷ writes (two (node 1 0 1 0 0 (9 ∷ 9 ∷ 9 ∷ 9 ∷ 9 ∷ 9 ∷ 9 ∷ []))) 64 (refusal 3 16)
    ∷ writes (two (node 1 0 1 0 0 [])) 64 (refusal 3 16)
    -- operands: the node itself, an id without a spelling, the second of two; 4 before 8
    ∷ writes (two (node 1 0 1 0 0 (1 ∷ []))) 64 (refusal 4 17)
    ∷ writes (two (node 1 0 1 0 0 (3000000 ∷ []))) 64 (refusal 4 17)
    ∷ writes (two (node 1 0 1 0 0 (0 ∷ 1 ∷ []))) 0 (refusal 4 18)
    -- differences: u, v, w; the least and the greatest w
    ∷ writes (apart (gap 1 0 (pos 0))) 64 (refusal 3 11)
    ∷ writes (apart (gap 0 1 (pos 0))) 64 (refusal 3 12)
    ∷ writes (apart (gap 0 0 (pos 65536))) 64 (refusal 3 13)
    ∷ writes (apart (gap 0 0 (negsuc 65535))) 64 (refusal 3 13)
    ∷ writes (apart (gap 0 0 (pos 65535))) 64 (accepted (apart_sheet (0xfe ∷ 0xff ∷ 0x07 ∷ [])))
    ∷ writes (apart (gap 0 0 (negsuc 65534))) 64 (accepted (apart_sheet (0xfd ∷ 0xff ∷ 0x07 ∷ [])))
    -- the greatest code of two bytes and the least of three
    ∷ writes (apart (gap 0 0 (negsuc 8191))) 64 (accepted (apart_sheet (0xff ∷ 0x7f ∷ [])))
    ∷ writes (apart (gap 0 0 (pos 8192))) 64 (accepted (apart_sheet (0x80 ∷ 0x80 ∷ 0x01 ∷ [])))
    ∷ writes (apart (gap 0 0 (negsuc 0))) 64 (accepted (apart_sheet (1 ∷ [])))
    -- document 02, U8: P, the count, an id that is an input, of no node, without a spelling, not above the one before; from, to
    ∷ writes (sensed 0 []) 64 (refusal 3 17)
    ∷ writes (sensed 65 []) 64 (refusal 3 17)
    ∷ writes (sensed 8 (window 0 9 9 ∷ window 0 9 9 ∷ window 0 9 9 ∷ [])) 64 (refusal 3 18)
    ∷ writes (sensed 8 (window 0 2 4 ∷ [])) 64 (refusal 3 19)
    ∷ writes (sensed 8 (window 2 2 4 ∷ [])) 64 (refusal 3 19)
    ∷ writes (sensed 8 (window 3000000 2 4 ∷ [])) 64 (refusal 3 19)
    ∷ writes (sensed 8 (window 1 2 4 ∷ window 1 2 4 ∷ [])) 64 (refusal 3 22)
    ∷ writes (sensed 8 (window 1 8 9 ∷ [])) 64 (refusal 3 20)
    ∷ writes (sensed 8 (window 1 2 2 ∷ [])) 64 (refusal 3 21)
    ∷ writes (sensed 8 (window 1 2 9 ∷ [])) 64 (refusal 3 21)
    ∷ writes (sensed 8 (window 1 2 4 ∷ [])) 64
    (accepted (2 ∷ 1 ∷ 0 ∷ 2 ∷ 0 ∷ 0 ∷ 0 ∷ 0 ∷ 0 ∷ 0 ∷ 0 ∷ 2 ∷ 0 ∷ 0 ∷ 0 ∷ 0 ∷ 0 ∷ 8 ∷ 1 ∷ 1 ∷ 2 ∷ 4 ∷ []))
    ∷ []

pub marked : T (all holds cases)
unfolding holds cases
marked = tt
