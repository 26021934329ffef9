use Rattle.hold.specs.Mark.{Swept}
use Rattle.hold.proofs.HoldMarks.{turned_low, turned_high}
use Rattle.hold.proofs.Holding.hold_in_order.Given as goal

abbrev pub invariant-loop-i : goal.invariant-loop-i
invariant-loop-i l =
    Swept l.self.search.now.tables.now.graph l.self.search.now.tables.now.differences l.self.labels.now.steps l.initial.held l.held l.self.shift l.self.search.now.limits.nodes l.self.search.now.limits.differences (turned_low l.order l.i l.self.search.now.limits.nodes) (turned_high l.order l.i l.self.search.now.limits.nodes) l.grew
