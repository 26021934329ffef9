-- Document 01, "The sheet": its limits, each said once. Whatever depends on a limit cites it here by its name.
use Rattle.std.specs.Prelude.{ℕ, zero, suc, ◌+◌, ◌-◌, ◌*◌}

-- the values from low to high
pub record Range : Type 0 where
  pub low : ℕ
  pub high : ℕ

abbrev pub range : ℕ → ℕ → Range
range l h = record { low = l; high = h }

-- "K (2 to 6), T (1 to 64), H .., n (1 to 256), m (0 to 1,024)"; document 02, U2: "H and the size of w may reach 65,535"
abbrev pub leaves_range : Range
leaves_range = range 2 6

abbrev pub top_range : Range
top_range = range 1 64

abbrev pub horizon_range : Range
horizon_range = range 0 65535

abbrev pub size_range : Range
size_range = range 1 256

abbrev pub count_range : Range
count_range = range 0 1024

-- "kind (0 input, 1 logic, 2 box), output mark (0 or 1)"
abbrev pub kind_range : Range
kind_range = range 0 2

abbrev pub mark_range : Range
mark_range = range 0 1

-- "u and v, each an id from 0 to n − 1"
abbrev pub id_range : (size : ℕ) → Range
id_range n = range 0 (n - 1)

-- the size of w
abbrev pub weight_most : ℕ
weight_most = horizon_range.high

-- "coded as 2w if w ≥ 0, otherwise −2w − 1"
abbrev pub weight_range : Range
weight_range = range 0 (weight_most + weight_most)

-- document 02, U8: "a period P (1 to 64), a count (0 to n)"; an id of an entry, "in rising id order", from low on; "from in 0 to P − 1, to in
-- from + 1 to P"
abbrev pub period_range : Range
period_range = range 1 64

abbrev pub windows_range : (size : ℕ) → Range
windows_range n = range 0 n

abbrev pub box_range : (size low : ℕ) → Range
box_range n low = range low (n - 1)

abbrev pub from_range : (period : ℕ) → Range
from_range p = range 0 (p - 1)

abbrev pub to_range : (period from : ℕ) → Range
to_range p from = range (from + 1) p

-- the most operands of a node, and the greatest lat
abbrev pub operands_most : ℕ
operands_most = 6

abbrev pub latency_most : ℕ
latency_most = 255

-- no ready label of least labels is later than this step, whatever the sheet and its horizon
abbrev pub ready_most : ℕ
ready_most = (size_range.high - 1) * weight_most + latency_most

-- document 02, U5: q is "0 to T for a box with lat of 1 or more, 0 for all others"
abbrev pub clock_to_q_range : (top lat : ℕ) → Range
clock_to_q_range top zero = range 0 0
clock_to_q_range top (suc l) = range 0 top

-- the table: d, lat, q by lat, and operands of a node
pub record Ranges : Type 0 where
  pub delay : Range
  pub latency : Range
  pub clock_to_q : (lat : ℕ) → Range
  pub operands : Range

-- by kind: 0 (input), 1 (logic), 2 (box)
abbrev pub ranges_of : (top kind : ℕ) → Ranges
ranges_of top zero = record { delay = range 0 0; latency = range 0 0; clock_to_q = λ lat. range 0 0; operands = range 0 0 }
ranges_of top (suc zero) = record { delay = range 1 top; latency = range 0 0; clock_to_q = λ lat. range 0 0; operands = range 1 operands_most }
ranges_of top (suc (suc k)) =
    record { delay = range 0 top; latency = range 0 latency_most; clock_to_q = clock_to_q_range top; operands = range 0 operands_most }
