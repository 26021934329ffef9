-- The code's tables of field ranges, against document 01's.
use Rattle.std.specs.Prelude.{ℕ, zero, suc, min}
use Rattle.maps.specs.Limits.{Range, range, leaves_range, top_range, horizon_range, size_range, count_range, kind_range, mark_range, id_range, weight_range, period_range, windows_range, from_range, to_range, operands_most, latency_most}
use Rattle.ranges.specs.declared.Span.{Span}
use Rattle.ranges.specs.declared.Ranges.{Ranges}
use Rattle.ranges.specs.declared.Field.{Field}
use Rattle.ranges.specs.declared.Field.TheVariants as Is

abbrev pub span_of : Range → Span
span_of r = record { low = r.low; high = r.high }

abbrev pub span_meant : Span → Range
span_meant s = range s.low s.high

-- the range of a field that every node, the header or every window has alike; ids and counts of windows are those of a sheet with as many nodes as
-- can be, from and to those of the greatest P
abbrev pub field_range : Field → Range
field_range Is.Leaves = leaves_range
field_range Is.Top = top_range
field_range Is.Horizon = horizon_range
field_range Is.Nodes = size_range
field_range Is.Differences = count_range
field_range Is.Kind = kind_range
field_range Is.Mark = mark_range
field_range Is.Id = id_range size_range.high
field_range Is.Weight = weight_range
field_range Is.Period = period_range
field_range Is.Windows = windows_range size_range.high
field_range Is.From = from_range period_range.high
field_range Is.To = to_range period_range.high 0

abbrev row : (delay latency clock operands : Range) → Ranges
row d l c o = record { delay = span_of d; latency = span_of l; clock = span_of c; operands = span_of o }

-- by the kind's code: input, logic, box; a delay and a q are at most the greatest T
abbrev pub kind_ranges : ℕ → Ranges
kind_ranges zero = row (range 0 0) (range 0 0) (range 0 0) (range 0 0)
kind_ranges (suc zero) = row (range 1 top_range.high) (range 0 0) (range 0 0) (range 1 operands_most)
kind_ranges (suc (suc k)) = row (range 0 top_range.high) (range 0 latency_most) (range 0 top_range.high) (range 0 operands_most)

-- the values of a row's range that are also at most top
abbrev pub up_to : (top : ℕ) → Span → Range
up_to top s = range s.low (min top s.high)

-- the range of q where a step has the levels up to top, by lat
abbrev pub clock_meant : (top : ℕ) → Span → (lat : ℕ) → Range
clock_meant top s zero = range 0 0
clock_meant top s (suc l) = up_to top s
