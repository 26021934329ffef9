-- Earlier sheets: document 01's, whose nodes have no q, and those of document 02 before U8, which end after the differences. Their form, their spelling,
-- and the outcome of planning them. What they read as has P = 1 and no entries; document 01's has q = 0 in every node besides.
use Rattle.std.specs.Prelude.{ℕ, ◌+◌, cond, List, [], ◌∷◌, ◌++◌, map, eqb, length}
use Rattle.maps.specs.Lists.{concat}
use Rattle.maps.specs.Label.{Label, label}
use Rattle.maps.specs.Sheet.{Sheet, Node}
use Rattle.maps.specs.Number.{encoded_up_to}
use Rattle.maps.specs.Limits.{kind_range, mark_range, ranges_of}
use Rattle.maps.specs.Form.{Form, done, among, under, ◌>>=◌, asked, each, times, read}
use Rattle.maps.specs.Read.{kind_of, Head, node_of, node_form, difference_form, header_form, cycle_of, sheet_of, Parsed, whole}
use Rattle.maps.specs.Records.{NodeRecord, Records, records_of}
use Rattle.maps.specs.Write.{Entry, entry, header_numbers, node_numbers, difference_numbers, each_numbers, values_of, spelled}
use Rattle.maps.specs.Outcome.{Outcome}
use Rattle.former.specs.Plain.{plain_parsed}

-- "kind (0 input, 1 logic, 2 box), output mark (0 or 1), d, lat, operand count"
unfoldable pub former_head_form : (top : ℕ) → Form Head
former_head_form top = do
  kind ← asked (among kind_range)
  mark ← asked (among mark_range)
  d ← asked (among (ranges_of top kind).delay)
  lat ← asked (among (ranges_of top kind).latency)
  count ← asked (among (ranges_of top kind).operands)
  done (record { kind = kind_of kind lat 0; output = eqb mark 1; delay = d; count = count })

-- ".. operand ids": the node `own`
unfoldable pub former_node_form : (top own : ℕ) → Form Node
unfolding former_head_form
former_node_form top own = do
  h ← former_head_form top
  ids ← times h.count (asked (under own))
  done (node_of h ids)

-- a sheet that ends after the differences, its nodes of the form given
unfoldable pub earlier_form : (nodes : (top own : ℕ) → Form Node) → Form Sheet
unfolding header_form difference_form
earlier_form nodes = do
  h ← header_form
  vs ← each (nodes h.top) 0 h.nodes
  ds ← times h.differences (difference_form h.nodes)
  done (sheet_of h vs ds (cycle_of 1 []))

unfoldable pub earlier_parse : (nodes : (top own : ℕ) → Form Node) → List ℕ → Parsed
unfolding earlier_form
earlier_parse nodes bytes = whole bytes (read (earlier_form nodes) bytes 0)

-- document 01's, and that before U8
abbrev pub former_parse : List ℕ → Parsed
former_parse = earlier_parse former_node_form

abbrev pub unwindowed_parse : List ℕ → Parsed
unwindowed_parse = earlier_parse node_form

-- the numbers of such a sheet in its order: those of today's without q
abbrev pub former_node_numbers : (top own : ℕ) → NodeRecord → List Entry
former_node_numbers top own v =
    entry (among kind_range) v.kind
    ∷ entry (among mark_range) v.mark
    ∷ entry (among (ranges_of top v.kind).delay) v.delay
    ∷ entry (among (ranges_of top v.kind).latency) v.latency
    ∷ entry (among (ranges_of top v.kind).operands) (length v.operands)
    ∷ map (entry (under own)) v.operands

unfoldable pub earlier_numbers : (nodes : (top own : ℕ) → NodeRecord → List Entry) → Records → List Entry
earlier_numbers nodes R =
    header_numbers R ++ (each_numbers (nodes R.top) 0 R.nodes ++ concat (map (difference_numbers (length R.nodes)) R.differences))

unfoldable pub earlier_spelling : (nodes : (top own : ℕ) → NodeRecord → List Entry) → Sheet → List ℕ
unfolding earlier_numbers encoded_up_to
earlier_spelling nodes S = spelled (values_of (earlier_numbers nodes (records_of S)))

abbrev pub former_spelling : Sheet → List ℕ
former_spelling = earlier_spelling former_node_numbers

abbrev pub unwindowed_spelling : Sheet → List ℕ
unwindowed_spelling = earlier_spelling node_numbers

-- "The ready label of u is its own label if lat is 0, otherwise (s + lat, 0)"
abbrev pub former_ready : (lat : ℕ) → Label → Label
former_ready lat a = cond (eqb lat 0) a (label (a.step + lat) 0)

-- the outcome of planning `bytes`, read by each form, into a buffer of `room` bytes
abbrev pub former_outcome : (bytes : List ℕ) → (room : ℕ) → Outcome
former_outcome bytes room = plain_parsed room (former_parse bytes)

abbrev pub unwindowed_outcome : (bytes : List ℕ) → (room : ℕ) → Outcome
unwindowed_outcome bytes room = plain_parsed room (unwindowed_parse bytes)
