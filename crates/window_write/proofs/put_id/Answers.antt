-- `put_id` meets its contract: the id of a box in its range.
use Prim.Native.Nat.{◌-◌}
use mathlib.Core.Path.{sym}
use native.Mathlib.Omega.{arith}
use Rattle.maps.proofs.WrittenSize.{id-bytes}
use Rattle.ranges.proofs.RangeLaws.{ids-right, boxes-right}
use Rattle.records.specs.Rows.{box_at}
use Rattle.fields.proofs.WroteLaws.{room-less}
use Rattle.window_write.proofs.put_id.Goals as goal

pub put_box-requires : goal.put_box-requires
put_box-requires c =
    let i = boxes-right _ _ c.args.n c.args.low (ids-right c.range_of.result _ c.args.n c.requires.1 c.range_of.ensures c.up_to.ensures) c.at_least-boxes.ensures in
    let most = id-bytes {x = c.args.n - 1} (omega (arith, c.requires.1)) in
    (omega (arith, i.1, c.requires.1), rw i.1 (room-less most c.requires.2))

pub returns : goal.returns
returns c =
    let i = boxes-right _ _ c.args.n c.args.low (ids-right c.range_of.result _ c.args.n c.requires.1 c.range_of.ensures c.up_to.ensures) c.at_least-boxes.ensures in
    rw (i.0, i.1) at (c.put_box.ensures (box_at c.args.nodes.now) (sym c.is_box.ensures))
