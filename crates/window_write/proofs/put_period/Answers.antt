-- `put_period` meets its contract: the period, then the count.
use native.Mathlib.Omega.{arith}
use mathlib.Core.List.{[], ◌∷◌}
use Rattle.maps.specs.Limits.{windows_range, size_range}
use Rattle.maps.specs.Form.{among}
use Rattle.maps.specs.Write.{entry}
use Rattle.maps.proofs.WrittenSize.{within-bytes}
use Rattle.ranges.proofs.RangeLaws.{windows-right}
use Rattle.fields.proofs.WroteLaws.{stopped, more, room-left, room-less}
use Rattle.window_write.proofs.put_period.Goals as goal

pub put_field-requires : goal.put_field-requires
put_field-requires c = room-less (omega arith) c.requires.1

pub returns-in_err-position : goal.returns-in_err-position
returns-in_err-position c =
    stopped (entry (among (windows_range c.args.n)) c.args.count ∷ []) c.from_residual.ensures.1 c.in_err-position.ensures

pub put_in-requires : goal.put_in-requires
put_in-requires c =
    let i = windows-right c.range_of.result _ c.args.n c.requires.0 c.range_of.ensures c.up_to.ensures in
    let w = c.in_ok-position.ensures in
    let most = within-bytes {n = c.args.n} {most = size_range.high} c.requires.0 in
    (omega (arith, i.1, c.requires.0), rw i.1 (room-left w (omega (arith, most)) c.requires.1))

pub returns : goal.returns
returns c =
    let i = windows-right c.range_of.result _ c.args.n c.requires.0 c.range_of.ensures c.up_to.ensures in
    more c.in_ok-position.ensures (rw (i.0, i.1) at c.put_in.ensures)
