-- The numbers of the sheet's fields can be spelled.
use Prim.Native.Nat.{◌<◌}
use mathlib.Core.Path.{◌≡◌, ap}
use native.Mathlib.Omega.{arith}
use Rattle.maps.specs.Number.{values}
use Rattle.ranges.specs.Ranges.{span_of, field_range}
use Rattle.ranges.specs.declared.Span.{Span}
use Rattle.ranges.specs.declared.Field.{Field}
use Rattle.ranges.specs.declared.Field.TheVariants as Is

pub field-small : (f : Field) {s : Span} → s ≡ span_of (field_range f) → s.high < values
field-small f e = omega (arith, ap (λ (r : Span). r.high) e, go f)
  where
    go : (f : Field) → (field_range f).high < values
    go Is.Leaves = omega arith
    go Is.Top = omega arith
    go Is.Horizon = omega arith
    go Is.Nodes = omega arith
    go Is.Differences = omega arith
    go Is.Kind = omega arith
    go Is.Mark = omega arith
    go Is.Id = omega arith
    go Is.Weight = omega arith
    go Is.Period = omega arith
    go Is.Windows = omega arith
    go Is.From = omega arith
    go Is.To = omega arith
