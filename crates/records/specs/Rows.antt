-- The records as C hands them over: flat rows of 32-bit numbers.
use Rattle.std.specs.Prelude.{ℕ, zero, suc, ◌+◌, ◌-◌, ◌*◌, ◌/◌, min, Bool, false, cond, List, [], ◌∷◌, map, ltb, ℤ, pos, negsuc, length, get_or, take, drop}
use Rattle.maps.specs.Lists.{below}
use Rattle.maps.specs.Sheet.{Window, is_box}
use Rattle.maps.specs.Read.{kind_of, next_id}
use Rattle.maps.specs.Records.{NodeRecord, DifferenceRecord, Records}
use Rattle.maps.specs.Write.{Entry, node_numbers, difference_numbers, window_numbers}
use Rattle.records.specs.declared.NodeRow.{NodeRow}
use Rattle.records.specs.declared.DifferenceRow.{DifferenceRow}
use Rattle.records.specs.declared.WindowRow.{WindowRow}
use Rattle.records.specs.declared.Records as Given

-- where the row of a node begins
abbrev pub node_place : ℕ → ℕ
node_place v = v * 6

-- where its mark stands
abbrev pub mark_place : ℕ → ℕ
mark_place v = node_place v + 1

-- where the row of a difference begins
abbrev pub difference_place : ℕ → ℕ
difference_place j = j * 3

-- where the row of a window begins
abbrev pub window_place : ℕ → ℕ
window_place j = j * 3

-- how many whole rows there are
abbrev pub rows_in : (place : ℕ → ℕ) → List ℕ → ℕ
rows_in place rows = length rows / place 1

-- kind, output mark, d, lat, where the operands end, q
abbrev pub node_row : List ℕ → ℕ → NodeRow
node_row nodes v =
    record {
      kind = get_or nodes (node_place v) 0;
      output = get_or nodes (mark_place v) 0;
      delay = get_or nodes (node_place v + 2) 0;
      latency = get_or nodes (node_place v + 3) 0;
      end = get_or nodes (node_place v + 4) 0;
      clock = get_or nodes (node_place v + 5) 0;
    }

abbrev pub row_numbers : NodeRow → List ℕ
row_numbers r = r.kind ∷ r.output ∷ r.delay ∷ r.latency ∷ r.end ∷ r.clock ∷ []

-- u, v, w
abbrev pub difference_row : List ℕ → ℕ → DifferenceRow
difference_row differences j =
    record {
      from = get_or differences (difference_place j) 0;
      to = get_or differences (difference_place j + 1) 0;
      weight = get_or differences (difference_place j + 2) 0;
    }

-- the signed number of 32 bits
abbrev pub signed : ℕ → ℤ
signed bits = cond (ltb bits 2147483648) (pos bits) (negsuc (4294967295 - bits))

abbrev pub difference_in : (differences : List ℕ) → ℕ → DifferenceRecord
difference_in differences j =
    let row = difference_row differences j in
    record { from = row.from; to = row.to; weight = signed row.weight }

-- its numbers among n nodes
abbrev pub difference_entries : (size : ℕ) (differences : List ℕ) → ℕ → List Entry
difference_entries n differences j = difference_numbers n (difference_in differences j)

-- document 02, U8: "box id, from, to"
abbrev pub window_row : List ℕ → ℕ → WindowRow
window_row windows j =
    record {
      id = get_or windows (window_place j) 0;
      from = get_or windows (window_place j + 1) 0;
      to = get_or windows (window_place j + 2) 0;
    }

abbrev pub window_in : (windows : List ℕ) → ℕ → Window
window_in windows j =
    let row = window_row windows j in
    record { id = row.id; from = row.from; to = row.to }

abbrev pub windows_in : (windows : List ℕ) → List Window
windows_in windows = map (window_in windows) (below (rows_in window_place windows))

-- "Entries stand in rising id order": the least id that entry j may have
abbrev pub low_in : (windows : List ℕ) → ℕ → ℕ
low_in windows zero = 0
low_in windows (suc j) = next_id (window_in windows j)

-- its numbers among n nodes, where the period is p
abbrev pub window_entries : (size : ℕ) (is_box : ℕ → Bool) (period : ℕ) (windows : List ℕ) → ℕ → List Entry
window_entries n is_box p windows j = window_numbers n is_box p (low_in windows j) (window_in windows j)

-- whether an id is that of a box: that of a row whose kind is
abbrev pub box_at : (nodes : List ℕ) → ℕ → Bool
box_at nodes v =
    let row = node_row nodes v in
    cond (ltb v (rows_in node_place nodes)) (is_box (kind_of row.kind row.latency row.clock)) false

module _ (nodes operands : List ℕ) where
  -- where the operands of the nodes before v end: those of node v are the ones "from the end of the node before to its own end", and none past the
  -- array
  abbrev pub end_of : ℕ → ℕ
  end_of zero = 0
  end_of (suc v) = min (node_row nodes v).end (length operands)

  abbrev pub operands_in : ℕ → List ℕ
  operands_in v = take (end_of (suc v) - end_of v) (drop (end_of v) operands)

  abbrev pub node_in : ℕ → NodeRecord
  node_in v =
      let row = node_row nodes v in
      record {
        kind = row.kind;
        mark = row.output;
        delay = row.delay;
        latency = row.latency;
        clock_to_q = row.clock;
        operands = operands_in v;
      }

-- its numbers
abbrev pub node_entries : (top : ℕ) (nodes operands : List ℕ) → ℕ → List Entry
node_entries top nodes operands v = node_numbers top v (node_in nodes operands v)

-- K, T, H, P and the rows as records
abbrev pub records_in : (k t h : ℕ) → (nodes operands differences : List ℕ) → (period : ℕ) → (windows : List ℕ) → Records
records_in k t h nodes operands differences p windows =
    record {
      leaves = k;
      top = t;
      horizon = h;
      nodes = map (node_in nodes operands) (below (rows_in node_place nodes));
      differences = map (difference_in differences) (below (rows_in difference_place differences));
      period = p;
      windows = windows_in windows;
    }

-- the records of a struct of them
abbrev pub records_of : Given.Records → Records
records_of r = records_in r.leaves r.top r.horizon r.nodes.now r.operands.now r.differences.now r.period r.windows.now
