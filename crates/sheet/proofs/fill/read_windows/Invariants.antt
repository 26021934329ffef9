use Prim.Native.Nat.{◌-◌}
use mathlib.Core.Path.{◌≡◌}
use Rattle.rows.specs.Table.{boxes_in}
use Rattle.sheet.specs.Fill.{windows_into}
use Rattle.sheet.proofs.fill.read_windows.Given as goal

abbrev pub invariant-loop : goal.invariant-loop
invariant-loop l = record {
  boxes : boxes_in l.graph ≡ boxes_in l.initial.graph;
  rest : windows_into l.sheet l.n (boxes_in l.initial.graph) l.period (l.count - l.counter) l.low l.at.at l.graph ≡ windows_into l.sheet l.n (boxes_in l.initial.graph) l.period l.count 0 l.initial.at.at l.initial.graph;
}
