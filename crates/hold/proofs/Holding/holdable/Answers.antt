-- `hold::Holding::holdable` meets its contract.
use Prim.Native.Nat.{ℕ, ◌<◌}
use mathlib.Core.Bool.{Bool, true, false}
use mathlib.Core.List.{List}
use mathlib.Core.Logic.{inl, inr, ⊎_elim}
use Rattle.rows.specs.Cells.{Ends}
use Rattle.rows.specs.Table.{count_in}
use Rattle.hold.specs.Mark.{Near, ByDifference, Holdable}
use Rattle.hold.proofs.Holding.holdable.Goals as goal

-- no operand holds v: then a difference has to
by-the-rest : (graph differences steps : List ℕ) (held : List Bool) (p m v : ℕ) → ((j : ℕ) → j < count_in graph v → Near graph steps held p v j → ⊥)
    → (r : Bool) → ByDifference differences steps held p m v r
    → Ends r (Holdable graph differences steps held p m v) (Holdable graph differences steps held p m v → ⊥)
by-the-rest graph differences steps held p m v none true by = inr by
by-the-rest graph differences steps held p m v none false by = ⊎_elim (λ w. none w.0 w.1 w.2) (λ w. by w.0 w.1)

pub returns-then-held_by_operand : goal.returns-then-held_by_operand
returns-then-held_by_operand c = rw c.if-held_by_operand.true (inl (rw c.if-held_by_operand.true at c.held_by_operand.ensures))

pub returns-else-held_by_operand : goal.returns-else-held_by_operand
returns-else-held_by_operand c =
    let a = c.args in
    by-the-rest a.self.now.search.now.tables.now.graph a.self.now.search.now.tables.now.differences a.self.now.labels.now.steps a.held.now a.self.now.shift a.self.now.search.now.limits.differences a.v (rw c.if-held_by_operand.false at c.held_by_operand.ensures)
    c.held_by_difference.result c.held_by_difference.ensures
