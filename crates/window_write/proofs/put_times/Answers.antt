-- `put_times` meets its contract: from, then to.
use native.Mathlib.Omega.{arith}
use mathlib.Core.List.{[], ◌∷◌}
use Prim.Native.Nat.{◌-◌}
use Rattle.maps.specs.Limits.{period_range, from_range, to_range}
use Rattle.maps.specs.Form.{among}
use Rattle.maps.specs.Write.{entry}
use Rattle.maps.proofs.WrittenSize.{within-bytes}
use Rattle.ranges.proofs.RangeLaws.{from-right, ends-right, to-right}
use Rattle.fields.proofs.WroteLaws.{stopped, more, room-left, room-less}
use Rattle.window_write.proofs.Within.{within}
use Rattle.window_write.proofs.put_times.Goals as goal

pub put_in-requires : goal.put_in-requires
put_in-requires c =
    let i = from-right c.range_of.result _ c.args.period c.requires.1 c.range_of.ensures c.up_to-froms.ensures in
    let most = within-bytes {n = c.args.period - 1} {most = period_range.high} (omega (arith, c.requires.1)) in
    (omega (arith, i.1, c.requires.1), rw i.1 (room-less (omega (arith, most)) c.requires.2))

pub returns-in_err-position : goal.returns-in_err-position
returns-in_err-position c =
    let f = from-right c.range_of.result _ c.args.period c.requires.1 c.range_of.ensures c.up_to-froms.ensures in
    let wrote = rw (f.0, f.1) at c.in_err-position.ensures in
    stopped (entry (among (to_range c.args.period c.args.from)) c.args.to ∷ []) c.from_residual.ensures.1 wrote

pub overflow_add-from : goal.overflow_add-from
overflow_add-from c =
    let f = from-right c.range_of.result _ c.args.period c.requires.1 c.range_of.ensures c.up_to-froms.ensures in
    let wrote = rw (f.0, f.1) at c.in_ok-position.ensures in
    let l = within (from_range c.args.period) c.args.from wrote in
    omega (arith, l, c.requires.1)

pub put_in-requires-2 : goal.put_in-requires-2
put_in-requires-2 c =
    let f = from-right c.range_of.result _ c.args.period c.requires.1 c.range_of.ensures c.up_to-froms.ensures in
    let wrote = rw (f.0, f.1) at c.in_ok-position.ensures in
    let i = to-right _ _ c.args.period c.args.from (ends-right c.range_of-2.result _ c.args.period c.requires.1 c.range_of-2.ensures c.up_to.ensures) c.at_least-tos.ensures in
    let least = within-bytes {n = c.args.period - 1} {most = period_range.high} (omega (arith, c.requires.1)) in
    let most = within-bytes {n = c.args.period} {most = period_range.high} c.requires.1 in
    (omega (arith, i.1, c.requires.1), rw i.1 (room-left wrote (omega (arith, least, most)) c.requires.2))

pub returns : goal.returns
returns c =
    let f = from-right c.range_of.result _ c.args.period c.requires.1 c.range_of.ensures c.up_to-froms.ensures in
    let wrote = rw (f.0, f.1) at c.in_ok-position.ensures in
    let i = to-right _ _ c.args.period c.args.from (ends-right c.range_of-2.result _ c.args.period c.requires.1 c.range_of-2.ensures c.up_to.ensures) c.at_least-tos.ensures in
    more wrote (rw (i.0, i.1) at c.put_in-2.ensures)
