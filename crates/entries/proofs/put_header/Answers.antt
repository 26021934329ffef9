-- `put_header` meets its contract: one number after the other.
use native.Mathlib.Omega.{arith}
use mathlib.Core.List.{[], ◌∷◌}
use Rattle.maps.specs.Limits.{top_range, horizon_range, size_range, count_range}
use Rattle.maps.specs.Number.{bytes_for}
use Rattle.maps.specs.Form.{among}
use Rattle.maps.specs.Write.{entry}
use Rattle.fields.proofs.WroteLaws.{more, stopped, numbered, room-left}
use Rattle.entries.proofs.put_header.Goals as goal

pub returns-in_err-position : goal.returns-in_err-position
returns-in_err-position c =
    stopped (entry (among top_range) c.args.top ∷ entry (among horizon_range) c.args.horizon ∷ entry (among size_range) c.args.n ∷ entry (among count_range) c.args.m ∷ []) c.from_residual.ensures.1 c.in_err-position.ensures

pub put_field-requires-2 : goal.put_field-requires-2
put_field-requires-2 c =
    let w1 = c.in_ok-position.ensures in
    room-left w1 (omega arith) c.requires

pub returns-in_err-position-2 : goal.returns-in_err-position-2
returns-in_err-position-2 c =
    let w1 = c.in_ok-position.ensures in
    more w1 (stopped (entry (among horizon_range) c.args.horizon ∷ entry (among size_range) c.args.n ∷ entry (among count_range) c.args.m ∷ []) c.from_residual-in_err-position-2.ensures.1 c.in_err-position-2.ensures)

pub put_field-requires-3 : goal.put_field-requires-3
put_field-requires-3 c =
    let w1 = c.in_ok-position.ensures in
    let w2 = more w1 c.in_ok-position-2.ensures in
    room-left w2 (omega arith) c.requires

pub returns-in_err-position-3 : goal.returns-in_err-position-3
returns-in_err-position-3 c =
    let w1 = c.in_ok-position.ensures in
    let w2 = more w1 c.in_ok-position-2.ensures in
    more w2 (stopped (entry (among size_range) c.args.n ∷ entry (among count_range) c.args.m ∷ []) c.from_residual-in_err-position-3.ensures.1 c.in_err-position-3.ensures)

pub put_field-requires-4 : goal.put_field-requires-4
put_field-requires-4 c =
    let w1 = c.in_ok-position.ensures in
    let w2 = more w1 c.in_ok-position-2.ensures in
    let w3 = more w2 c.in_ok-position-3.ensures in
    room-left w3 (omega arith) c.requires

pub returns-in_err-position-4 : goal.returns-in_err-position-4
returns-in_err-position-4 c =
    let w1 = c.in_ok-position.ensures in
    let w2 = more w1 c.in_ok-position-2.ensures in
    let w3 = more w2 c.in_ok-position-3.ensures in
    more w3 (stopped (entry (among count_range) c.args.m ∷ []) c.from_residual-in_err-position-4.ensures.1 c.in_err-position-4.ensures)

pub put_field-requires-5 : goal.put_field-requires-5
put_field-requires-5 c =
    let w1 = c.in_ok-position.ensures in
    let w2 = more w1 c.in_ok-position-2.ensures in
    let w3 = more w2 c.in_ok-position-3.ensures in
    let w4 = more w3 c.in_ok-position-4.ensures in
    let r = room-left {k = bytes_for count_range.high} w4 (omega arith) c.requires in
    record { space = omega (arith, r.space); counted = omega (arith, r.counted, numbered w4) }

pub returns : goal.returns
returns c =
    let w1 = c.in_ok-position.ensures in
    let w2 = more w1 c.in_ok-position-2.ensures in
    let w3 = more w2 c.in_ok-position-3.ensures in
    let w4 = more w3 c.in_ok-position-4.ensures in
    more w4 c.put_field-5.ensures
