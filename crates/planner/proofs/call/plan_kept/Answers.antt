-- `call::plan_kept` meets its contract.
use Rattle.std.proofs.lemmas.Result.{err_from_is_err_and}
use Rattle.planner.proofs.Drafts.{times-outcome, found-legal, found-outcome}
use Rattle.planner.proofs.call.plan_kept.Goals as goal

pub returns-in_err-time_labels-clause-room_value : goal.returns-in_err-time_labels-clause-room_value
returns-in_err-time_labels-clause-room_value c S g own k cuts =
    let labels = c.time_labels.new.labels in
    let q = err_from_is_err_and c.from_residual.result c.from_residual.ensures.1 in
    rw (q.1, q.2) (times-outcome labels.steps labels.levels g own (c.in_err-time_labels.ensures S g k cuts))

pub plan_labels-requires-clause-by_index : goal.plan_labels-requires-clause-by_index
plan_labels-requires-clause-by_index c =
    let p = c.requires.given in
    let labels = c.time_labels.new.labels in
    (p.0, c.args.tables.now.differences, p.1, found-legal labels.steps labels.levels p.1 p.2 p.4 (c.in_ok-time_labels.ensures p.0 p.1 p.3 p.4))

pub returns-clause-room_value : goal.returns-clause-room_value
returns-clause-room_value c S g own k cuts =
    let labels = c.time_labels.new.labels in
    let t = c.in_ok-time_labels.ensures S g k cuts in
    found-outcome labels.steps labels.levels g own t _
    (c.plan_labels.ensures.bytes_after S c.args.tables.now.differences g (found-legal labels.steps labels.levels g own cuts t))
