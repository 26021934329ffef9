-- Bytes that no plan and no sheet exceeds: each number takes at most those of the greatest that it can be.
use Rattle.std.specs.Prelude.{ℕ, ◌+◌, ◌*◌, List, [], ◌∷◌}
use Rattle.maps.specs.Number.{bytes_for}
use Rattle.maps.specs.Limits.{leaves_range, top_range, horizon_range, size_range, count_range, kind_range, mark_range, id_range, weight_range, operands_most, latency_most, period_range}
use Rattle.maps.specs.Form.{Rule, among, boxed, under}
use Rattle.maps.specs.Write.{Entry}

-- an id
abbrev pub id_bytes_most : ℕ
id_bytes_most = bytes_for (id_range size_range.high).high

-- a number of the sheet that passes; several of them
abbrev pub rule_bytes : Rule → ℕ
rule_bytes (among r) = bytes_for r.high
rule_bytes (boxed r is_box) = bytes_for r.high
rule_bytes (under own) = id_bytes_most

abbrev pub bytes_most : List Entry → ℕ
bytes_most [] = 0
bytes_most (e ∷ es) = rule_bytes e.rule + bytes_most es

-- a step, or the latency: at most H
abbrev pub step_bytes_most : ℕ
step_bytes_most = bytes_for horizon_range.high

-- "step, level, 1 if used or 0", then "leaf count, leaves ascending"
abbrev pub label_bytes_most : ℕ
label_bytes_most = step_bytes_most + bytes_for top_range.high + bytes_for mark_range.high

abbrev pub cut_bytes_most : ℕ
cut_bytes_most = bytes_for leaves_range.high + leaves_range.high * id_bytes_most

abbrev pub row_bytes_most : ℕ
row_bytes_most = label_bytes_most + cut_bytes_most

-- "latency; then per node .."
abbrev pub plan_most : ℕ
plan_most = step_bytes_most + size_range.high * row_bytes_most

-- K, T, H, n, m
abbrev pub header_bytes_most : ℕ
header_bytes_most =
    bytes_for leaves_range.high + bytes_for top_range.high + bytes_for horizon_range.high + bytes_for size_range.high + bytes_for count_range.high

-- kind, mark, d, lat, q and operand count of a node of any kind, then its operand ids
abbrev pub head_bytes_most : ℕ
head_bytes_most =
    bytes_for kind_range.high + bytes_for mark_range.high + bytes_for top_range.high + bytes_for latency_most + bytes_for top_range.high + bytes_for operands_most

abbrev pub node_bytes_most : ℕ
node_bytes_most = head_bytes_most + operands_most * id_bytes_most

-- u, v, w
abbrev pub difference_bytes_most : ℕ
difference_bytes_most = id_bytes_most + id_bytes_most + bytes_for weight_range.high

-- box id, from, to
abbrev pub window_bytes_most : ℕ
window_bytes_most = id_bytes_most + bytes_for period_range.high + bytes_for period_range.high

-- P, the count, and the entries
abbrev pub cycle_bytes_most : ℕ
cycle_bytes_most = bytes_for period_range.high + bytes_for size_range.high + size_range.high * window_bytes_most

abbrev pub sheet_most : ℕ
sheet_most = header_bytes_most + size_range.high * node_bytes_most + count_range.high * difference_bytes_most + cycle_bytes_most
