-- `call::make_plan` meets its contract.
use mathlib.Core.Path.{◌∙◌}
use Rattle.std.proofs.lemmas.Result.{err_from_is_err_and}
use Rattle.maps.proofs.Planned.{refused-outcome, sheet-outcome}
use Rattle.sheet.proofs.After.{was_read, was-refused}
use Rattle.planner.proofs.Drafts.{given, own}
use Rattle.planner.proofs.call.make_plan.Goals as goal

pub returns-in_err-limits-clause-made : goal.returns-in_err-limits-clause-made
returns-in_err-limits-clause-made c =
    let q = err_from_is_err_and c.from_residual.result c.from_residual.ensures.1 in
    rw (q.1, q.2) (refused-outcome _ _ _ (was-refused _ _ _ _ _ c.in_err-limits.ensures))

pub plan_tables-requires-clause-falling : goal.plan_tables-requires-clause-falling
plan_tables-requires-clause-falling c = (was_read _ _ _ _ _ _ c.in_ok-limits.ensures).walks

pub plan_tables-requires-clause-given : goal.plan_tables-requires-clause-given
plan_tables-requires-clause-given c =
    let held = was_read _ _ _ _ _ _ c.in_ok-limits.ensures in
    (held.held, given held, own held)

pub returns-clause-made : goal.returns-clause-made
returns-clause-made c room =
    let held = was_read _ _ _ _ _ _ c.in_ok-limits.ensures in
    sheet-outcome _ _ held.reads room ∙ c.plan_tables.ensures.cutless_value held.held (given held) (own held) room
