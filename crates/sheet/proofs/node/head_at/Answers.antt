-- `node::head_at` meets its contract: one number after the other, each in the range that the table gives for the kind.
use Rattle.std.proofs.lemmas.Result.{err_from_is_err_and}
use Rattle.maps.specs.Read.{head_form}
use Rattle.ranges.proofs.RangeLaws.{delays-right, latencies-right, clocks-right, operands-right}
use Rattle.sheet.proofs.node.head_at.Goals as goal

pub returns-in_err-q : goal.returns-in_err-q
unfolding head_form
returns-in_err-q c =
    let all = c.ranges_of-ranges in
    let code = c.in_ok-code.field-0.value in
    let lat = c.in_ok-latency.field-0.value in
    let d = delays-right c.args.top code all.result c.requires all.ensures _ c.up_to.ensures in
    let l = latencies-right c.args.top code all.result c.requires all.ensures in
    let q = clocks-right c.args.top code all.result c.requires all.ensures lat _ c.clock_to_q.ensures in
    let p = err_from_is_err_and c.from_residual-in_err-q.result c.from_residual-in_err-q.ensures.1 in
    rw (
      p.1,
      p.2,
      ← c.in_ok-code.ensures,
      ← c.in_ok-mark.ensures,
      ← (rw (d.0, d.1) at c.in_ok-delay.ensures),
      ← (rw (l.0, l.1) at c.in_ok-latency.ensures),
      ← (rw (q.0, q.1) at c.in_err-q.ensures),
    )

pub returns-in_err-operands : goal.returns-in_err-operands
unfolding head_form
returns-in_err-operands c =
    let all = c.ranges_of-ranges in
    let code = c.in_ok-code.field-0.value in
    let lat = c.in_ok-latency.field-0.value in
    let d = delays-right c.args.top code all.result c.requires all.ensures _ c.up_to.ensures in
    let l = latencies-right c.args.top code all.result c.requires all.ensures in
    let q = clocks-right c.args.top code all.result c.requires all.ensures lat _ c.clock_to_q.ensures in
    let o = operands-right c.args.top code all.result c.requires all.ensures in
    let p = err_from_is_err_and c.from_residual-in_err-operands.result c.from_residual-in_err-operands.ensures.1 in
    rw (
      p.1,
      p.2,
      ← c.in_ok-code.ensures,
      ← c.in_ok-mark.ensures,
      ← (rw (d.0, d.1) at c.in_ok-delay.ensures),
      ← (rw (l.0, l.1) at c.in_ok-latency.ensures),
      ← (rw (q.0, q.1) at c.in_ok-q.ensures),
      ← (rw (o.0, o.1) at c.in_err-operands.ensures),
    )
