use Prim.Native.Nat.{◌-◌}
use mathlib.Core.Path.{◌≡◌}
use Rattle.sheet.specs.Fill.{repeat_into, difference_into}
use Rattle.sheet.proofs.fill.read_differences.Given as goal

abbrev pub invariant-loop-i : goal.invariant-loop-i
invariant-loop-i l = repeat_into (difference_into l.sheet l.n) (l.m - l.i) l.i l.at.at l.table ≡ repeat_into (difference_into l.sheet l.n) l.m 0 l.initial.at.at l.initial.table
