-- The two tables that a sheet is read into: a row of sixteen numbers for a node, its window among them, and of four for a difference, and 0 elsewhere.
use Rattle.std.specs.Prelude.{ℕ, ◌+◌, ◌*◌, ◌≤◌, ◌<◌, ◌≡◌, Bool, cond, List, [], ◌∷◌, map, eqb, leb, length, get_or, set, replicate}
use Rattle.maps.specs.Sheet.{Sheet, Kind, Node, Difference, Window, size, node, window, latency, latency_of, clock_to_q, clock_to_q_of}
use Rattle.maps.specs.Read.{kind_of, Head, Header}
use Rattle.maps.specs.WellFormed.{code_of}
use Rattle.maps.specs.Limits.{operands_most}

abbrev pub node_stride : ℕ
node_stride = 16

abbrev pub difference_stride : ℕ
difference_stride = 4

-- where each number stands in a node's row, the kind first
abbrev pub mark_column : ℕ
mark_column = 1

abbrev pub delay_column : ℕ
delay_column = 2

abbrev pub latency_column : ℕ
latency_column = 3

abbrev pub clock_column : ℕ
clock_column = 4

abbrev pub count_column : ℕ
count_column = 5

abbrev pub operand_column : ℕ
operand_column = 6

abbrev pub window_column : ℕ
window_column = 12

-- and in a difference's, its u first
abbrev pub to_column : ℕ
to_column = 1

abbrev pub plus_column : ℕ
plus_column = 2

abbrev pub minus_column : ℕ
minus_column = 3

-- the lengths of the tables: rows for the most nodes and differences that a sheet can have
abbrev pub nodes_wide : ℕ
nodes_wide = 4096

abbrev pub differences_wide : ℕ
differences_wide = 4096

abbrev pub mark_of : Bool → ℕ
mark_of b = cond b 1 0

-- kind, output mark, d, lat, q, operand count
abbrev pub head_row : Head → List ℕ
head_row h = code_of h.kind ∷ mark_of h.output ∷ h.delay ∷ latency_of h.kind ∷ clock_to_q_of h.kind ∷ h.count ∷ []

-- the same and the operands
abbrev pub node_row : Node → List ℕ
node_row v =
    code_of v.kind ∷ mark_of v.output ∷ v.delay ∷ latency_of v.kind ∷ clock_to_q_of v.kind ∷ length v.operands ∷ v.operands

abbrev pub difference_row : Difference → List ℕ
difference_row d = d.from ∷ d.to ∷ d.plus ∷ d.minus ∷ []

-- the numbers at p, p + 1, ..
unfoldable pub store_from : (table : List ℕ) → (p : ℕ) → List ℕ → List ℕ
store_from g p [] = g
store_from g p (x ∷ xs) = store_from (set g p x) (p + 1) xs

-- the rows i, i + 1, .., each from its place on
unfoldable pub store_rows : (place : ℕ → ℕ) → (table : List ℕ) → (i : ℕ) → List (List ℕ) → List ℕ
unfolding store_from
store_rows place g i [] = g
store_rows place g i (r ∷ rs) = store_rows place (store_from g (place i) r) (i + 1) rs

abbrev pub node_place : ℕ → ℕ
node_place v = v * node_stride

-- where the operands of a node begin
abbrev pub operand_place : ℕ → ℕ
operand_place v = node_place v + operand_column

-- where its window stands
abbrev pub window_place : ℕ → ℕ
window_place v = node_place v + window_column

abbrev pub window_row : (from to : ℕ) → List ℕ
window_row f t = f ∷ t ∷ []

-- the windows, each in the row of its node
unfoldable pub store_windows : (table : List ℕ) → List Window → List ℕ
unfolding store_from
store_windows g [] = g
store_windows g (w ∷ ws) = store_windows (store_from g (window_place w.id) (window_row w.from w.to)) ws

abbrev pub difference_place : ℕ → ℕ
difference_place i = i * difference_stride

-- tables without a row
abbrev pub no_nodes : List ℕ
no_nodes = replicate nodes_wide 0

abbrev pub no_differences : List ℕ
no_differences = replicate differences_wide 0

-- the table of a sheet's nodes, first without its windows, and that of its differences
unfoldable pub nodes_of : Sheet → List ℕ
unfolding store_rows
nodes_of S = store_rows node_place no_nodes 0 (map node_row S.nodes)

unfoldable pub graph_of : Sheet → List ℕ
unfolding nodes_of store_windows
graph_of S = store_windows (nodes_of S) S.windows

unfoldable pub differences_of : Sheet → List ℕ
unfolding store_rows
differences_of S = store_rows difference_place no_differences 0 (map difference_row S.differences)

-- what stands in the table of nodes at node v
module _ (g : List ℕ) (v : ℕ) where
  abbrev pub kind_in : ℕ
  kind_in = get_or g (node_place v) 0

  abbrev pub mark_in : ℕ
  mark_in = get_or g (node_place v + mark_column) 0

  abbrev pub delay_in : ℕ
  delay_in = get_or g (node_place v + delay_column) 0

  abbrev pub latency_in : ℕ
  latency_in = get_or g (node_place v + latency_column) 0

  abbrev pub clock_in : ℕ
  clock_in = get_or g (node_place v + clock_column) 0

  abbrev pub count_in : ℕ
  count_in = get_or g (node_place v + count_column) 0

  -- from and to of the window, 0 and 0 where there is none
  abbrev pub open_in : ℕ
  open_in = get_or g (window_place v) 0

  abbrev pub close_in : ℕ
  close_in = get_or g (window_place v + 1) 0

  -- the kind, from its code, the latency and q
  abbrev pub kind_at : Kind
  kind_at = kind_of kind_in latency_in clock_in

  abbrev pub operand_in : ℕ → ℕ
  operand_in j = get_or g (operand_place v + j) 0

-- the ids that the table has as boxes; 0 stands past its end
abbrev pub boxes_in : List ℕ → ℕ → Bool
boxes_in g v = leb 2 (kind_in g v)

-- where the window closes: at the period's end where there is none
abbrev pub closing : (g : List ℕ) → (period v : ℕ) → ℕ
closing g p v = cond (eqb (close_in g v) 0) p (close_in g v)

-- the window of v is the whole period
abbrev pub WholeIn : (g : List ℕ) → (period v : ℕ) → Type 0
WholeIn g p v = (open_in g v ≡ 0) × (closing g p v ≡ p)

-- the table g holds the nodes of S: at every id below 256 the node's numbers, and 0 where the sheet has no node
pub record Tabled (S : Sheet) (g : List ℕ) : Type 0 where
  pub wide : length g ≡ nodes_wide
  pub kinds : (v : ℕ) → v < 256 → kind_in g v ≡ code_of (node S v).kind
  pub marks : (v : ℕ) → v < 256 → mark_in g v ≡ mark_of (node S v).output
  pub delays : (v : ℕ) → v < 256 → delay_in g v ≡ (node S v).delay
  pub latencies : (v : ℕ) → v < 256 → latency_in g v ≡ latency S v
  pub clocks : (v : ℕ) → v < 256 → clock_in g v ≡ clock_to_q S v
  pub counts : (v : ℕ) → v < 256 → count_in g v ≡ length (node S v).operands
  pub operands : (v j : ℕ) → v < 256 → j < length (node S v).operands → operand_in g v j ≡ get_or (node S v).operands j 0
  pub opens : (v : ℕ) → v < 256 → open_in g v ≡ (window S v).from
  pub closes : (v : ℕ) → v < 256 → closing g S.period v ≡ (window S v).to

-- what stands in the table of differences at difference i
module _ (d : List ℕ) (i : ℕ) where
  abbrev pub from_in : ℕ
  from_in = get_or d (difference_place i) 0

  abbrev pub to_in : ℕ
  to_in = get_or d (difference_place i + to_column) 0

  abbrev pub plus_in : ℕ
  plus_in = get_or d (difference_place i + plus_column) 0

  abbrev pub minus_in : ℕ
  minus_in = get_or d (difference_place i + minus_column) 0

abbrev pub no_difference : Difference
no_difference = record { from = 0; to = 0; plus = 0; minus = 0 }

abbrev pub difference_at : Sheet → ℕ → Difference
difference_at S i = get_or S.differences i no_difference

-- the table d holds the differences of S
pub record Listed (S : Sheet) (d : List ℕ) : Type 0 where
  pub wide : length d ≡ differences_wide
  pub froms : (i : ℕ) → i < length S.differences → from_in d i ≡ (difference_at S i).from
  pub tos : (i : ℕ) → i < length S.differences → to_in d i ≡ (difference_at S i).to
  pub pluses : (i : ℕ) → i < length S.differences → plus_in d i ≡ (difference_at S i).plus
  pub minuses : (i : ℕ) → i < length S.differences → minus_in d i ≡ (difference_at S i).minus

-- what code that walks the table rests on: few operands, each below its node
pub record Falling (g : List ℕ) : Type 0 where
  pub few : (v : ℕ) → v < 256 → count_in g v ≤ operands_most
  pub falls : (v j : ℕ) → v < 256 → j < count_in g v → operand_in g v j < v

abbrev pub header_of : Sheet → Header
header_of S = record { leaves = S.leaves; top = S.top; horizon = S.horizon; nodes = size S; differences = length S.differences }
