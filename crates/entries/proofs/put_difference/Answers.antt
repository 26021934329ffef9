-- `put_difference` meets its contract: u, v and the code of w.
use Prim.Native.Nat.{◌-◌}
use native.Mathlib.Omega.{arith}
use mathlib.Core.List.{[], ◌∷◌}
use Rattle.maps.specs.Limits.{id_range, weight_range}
use Rattle.maps.specs.Form.{among}
use Rattle.maps.specs.Write.{entry, code_of_weight}
use Rattle.ranges.proofs.RangeLaws.{ids-right}
use Rattle.records.specs.Rows.{difference_row, signed}
use Rattle.maps.proofs.WrittenSize.{id-bytes}
use Rattle.fields.proofs.WroteLaws.{more, stopped, room-left, room-less}
use Rattle.entries.proofs.put_difference.Goals as goal

pub put_in-requires : goal.put_in-requires
put_in-requires c =
    let i = ids-right c.range_of.result _ c.args.n c.requires.2 c.range_of.ensures c.up_to-ids.ensures in
    let most = id-bytes {x = c.args.n - 1} (omega (arith, c.requires.2)) in
    (omega (arith, i.1, c.requires.2), rw i.1 (room-less (omega (arith, most)) c.requires.3))

pub returns-in_err-position : goal.returns-in_err-position
returns-in_err-position c =
    let i = ids-right c.range_of.result _ c.args.n c.requires.2 c.range_of.ensures c.up_to-ids.ensures in
    let row = c.difference_at-row.ensures in
    stopped (entry (among (id_range c.args.n)) (difference_row c.args.differences.now c.args.j).to ∷ entry (among weight_range) (code_of_weight (signed (difference_row c.args.differences.now c.args.j).weight)) ∷ []) c.from_residual.ensures.1 (rw (i.0, i.1, row) at c.in_err-position.ensures)

pub put_in-requires-2 : goal.put_in-requires-2
put_in-requires-2 c =
    let i = ids-right c.range_of.result _ c.args.n c.requires.2 c.range_of.ensures c.up_to-ids.ensures in
    let row = c.difference_at-row.ensures in
    let most = id-bytes {x = c.args.n - 1} (omega (arith, c.requires.2)) in
    let w1 = rw (i.0, i.1, row) at c.in_ok-position.ensures in
    (omega (arith, i.1, c.requires.2), rw i.1 (room-left w1 (omega (arith, most)) c.requires.3))

pub returns-in_err-position-2 : goal.returns-in_err-position-2
returns-in_err-position-2 c =
    let i = ids-right c.range_of.result _ c.args.n c.requires.2 c.range_of.ensures c.up_to-ids.ensures in
    let row = c.difference_at-row.ensures in
    let w1 = rw (i.0, i.1, row) at c.in_ok-position.ensures in
    more w1 (stopped (entry (among weight_range) (code_of_weight (signed (difference_row c.args.differences.now c.args.j).weight)) ∷ []) c.from_residual-in_err-position-2.ensures.1 (rw (i.0, i.1, row) at c.in_err-position-2.ensures))

pub put_field-requires : goal.put_field-requires
put_field-requires c =
    let i = ids-right c.range_of.result _ c.args.n c.requires.2 c.range_of.ensures c.up_to-ids.ensures in
    let row = c.difference_at-row.ensures in
    let most = id-bytes {x = c.args.n - 1} (omega (arith, c.requires.2)) in
    let w1 = rw (i.0, i.1, row) at c.in_ok-position.ensures in
    let w2 = more w1 (rw (i.0, i.1, row) at c.in_ok-position-2.ensures) in
    room-left w2 (omega (arith, most)) c.requires.3

pub returns : goal.returns
returns c =
    let i = ids-right c.range_of.result _ c.args.n c.requires.2 c.range_of.ensures c.up_to-ids.ensures in
    let row = c.difference_at-row.ensures in
    let code = c.code_of.ensures in
    let w1 = rw (i.0, i.1, row) at c.in_ok-position.ensures in
    let w2 = more w1 (rw (i.0, i.1, row) at c.in_ok-position-2.ensures) in
    more w2 (rw (code, row) at c.put_field.ensures)
