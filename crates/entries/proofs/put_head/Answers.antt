-- `put_head` meets its contract: one number after the other, each in the range that the table gives for the kind.
use Prim.Native.Nat.{ℕ}
use native.Mathlib.Omega.{arith}
use mathlib.Core.List.{List}
use lib.ListN.{drop}
use Rattle.maps.specs.Write.{Entry, head_entries}
use Rattle.ranges.proofs.RangeLaws.{delays-right, latencies-right, clocks-right, operands-right}
use Rattle.maps.proofs.Spellable.{ranges-fit}
use Rattle.maps.proofs.WrittenSize.{ranges-bytes}
use Rattle.records.specs.declared.NodeRow.{NodeRow}
use Rattle.fields.proofs.WroteLaws.{more, stopped, room-left}
use Rattle.entries.proofs.put_head.Goals as goal

-- the numbers after the first k
abbrev after : (k : ℕ) → NodeRow → (top count : ℕ) → List Entry
after k row top count = drop k (head_entries top row.kind row.output row.delay row.latency row.clock count)

pub returns-in_err-position : goal.returns-in_err-position
returns-in_err-position c =
    stopped (after 1 c.args.row c.args.top c.args.count) c.from_residual.ensures.1 c.in_err-position.ensures

pub put_field-requires-2 : goal.put_field-requires-2
put_field-requires-2 c =
    let w1 = c.in_ok-position.ensures in
    room-left w1 (omega arith) c.requires.1

pub returns-in_err-position-2 : goal.returns-in_err-position-2
returns-in_err-position-2 c =
    let w1 = c.in_ok-position.ensures in
    more w1 (stopped (after 2 c.args.row c.args.top c.args.count) c.from_residual-in_err-position-2.ensures.1 c.in_err-position-2.ensures)

pub put_in-requires : goal.put_in-requires
put_in-requires c =
    let all = c.ranges_of-all in
    let d = delays-right c.args.top c.args.row.kind all.result c.requires.0 all.ensures _ c.up_to.ensures in
    let small = ranges-fit c.args.top c.args.row.kind c.args.row.latency c.requires.0 in
    let most = ranges-bytes c.args.top c.args.row.kind c.args.row.latency c.requires.0 in
    let w1 = c.in_ok-position.ensures in
    let w2 = more w1 c.in_ok-position-2.ensures in
    (omega (arith, d.1, small.0), rw d.1 (room-left w2 (omega (arith, most)) c.requires.1))

pub returns-in_err-position-3 : goal.returns-in_err-position-3
returns-in_err-position-3 c =
    let all = c.ranges_of-all in
    let d = delays-right c.args.top c.args.row.kind all.result c.requires.0 all.ensures _ c.up_to.ensures in
    let w1 = c.in_ok-position.ensures in
    let w2 = more w1 c.in_ok-position-2.ensures in
    more w2 (stopped (after 3 c.args.row c.args.top c.args.count) c.from_residual-in_err-position-3.ensures.1 (rw (d.0, d.1) at c.in_err-position-3.ensures))

pub put_in-requires-2 : goal.put_in-requires-2
put_in-requires-2 c =
    let all = c.ranges_of-all in
    let d = delays-right c.args.top c.args.row.kind all.result c.requires.0 all.ensures _ c.up_to.ensures in
    let l = latencies-right c.args.top c.args.row.kind all.result c.requires.0 all.ensures in
    let small = ranges-fit c.args.top c.args.row.kind c.args.row.latency c.requires.0 in
    let most = ranges-bytes c.args.top c.args.row.kind c.args.row.latency c.requires.0 in
    let w1 = c.in_ok-position.ensures in
    let w2 = more w1 c.in_ok-position-2.ensures in
    let w3 = more w2 (rw (d.0, d.1) at c.in_ok-position-3.ensures) in
    (omega (arith, l.1, small.1), rw l.1 (room-left w3 (omega (arith, most)) c.requires.1))

pub returns-in_err-position-4 : goal.returns-in_err-position-4
returns-in_err-position-4 c =
    let all = c.ranges_of-all in
    let d = delays-right c.args.top c.args.row.kind all.result c.requires.0 all.ensures _ c.up_to.ensures in
    let l = latencies-right c.args.top c.args.row.kind all.result c.requires.0 all.ensures in
    let w1 = c.in_ok-position.ensures in
    let w2 = more w1 c.in_ok-position-2.ensures in
    let w3 = more w2 (rw (d.0, d.1) at c.in_ok-position-3.ensures) in
    more w3 (stopped (after 4 c.args.row c.args.top c.args.count) c.from_residual-in_err-position-4.ensures.1 (rw (l.0, l.1) at c.in_err-position-4.ensures))

pub put_in-requires-3 : goal.put_in-requires-3
put_in-requires-3 c =
    let all = c.ranges_of-all in
    let d = delays-right c.args.top c.args.row.kind all.result c.requires.0 all.ensures _ c.up_to.ensures in
    let l = latencies-right c.args.top c.args.row.kind all.result c.requires.0 all.ensures in
    let q = clocks-right c.args.top c.args.row.kind all.result c.requires.0 all.ensures c.args.row.latency _ c.clock_to_q.ensures in
    let small = ranges-fit c.args.top c.args.row.kind c.args.row.latency c.requires.0 in
    let most = ranges-bytes c.args.top c.args.row.kind c.args.row.latency c.requires.0 in
    let w1 = c.in_ok-position.ensures in
    let w2 = more w1 c.in_ok-position-2.ensures in
    let w3 = more w2 (rw (d.0, d.1) at c.in_ok-position-3.ensures) in
    let w4 = more w3 (rw (l.0, l.1) at c.in_ok-position-4.ensures) in
    (omega (arith, q.1, small.2), rw q.1 (room-left w4 (omega (arith, most)) c.requires.1))

pub returns-in_err-position-5 : goal.returns-in_err-position-5
returns-in_err-position-5 c =
    let all = c.ranges_of-all in
    let d = delays-right c.args.top c.args.row.kind all.result c.requires.0 all.ensures _ c.up_to.ensures in
    let l = latencies-right c.args.top c.args.row.kind all.result c.requires.0 all.ensures in
    let q = clocks-right c.args.top c.args.row.kind all.result c.requires.0 all.ensures c.args.row.latency _ c.clock_to_q.ensures in
    let w1 = c.in_ok-position.ensures in
    let w2 = more w1 c.in_ok-position-2.ensures in
    let w3 = more w2 (rw (d.0, d.1) at c.in_ok-position-3.ensures) in
    let w4 = more w3 (rw (l.0, l.1) at c.in_ok-position-4.ensures) in
    more w4 (stopped (after 5 c.args.row c.args.top c.args.count) c.from_residual-in_err-position-5.ensures.1 (rw (q.0, q.1) at c.in_err-position-5.ensures))

pub put_in-requires-4 : goal.put_in-requires-4
put_in-requires-4 c =
    let all = c.ranges_of-all in
    let d = delays-right c.args.top c.args.row.kind all.result c.requires.0 all.ensures _ c.up_to.ensures in
    let l = latencies-right c.args.top c.args.row.kind all.result c.requires.0 all.ensures in
    let q = clocks-right c.args.top c.args.row.kind all.result c.requires.0 all.ensures c.args.row.latency _ c.clock_to_q.ensures in
    let o = operands-right c.args.top c.args.row.kind all.result c.requires.0 all.ensures in
    let small = ranges-fit c.args.top c.args.row.kind c.args.row.latency c.requires.0 in
    let most = ranges-bytes c.args.top c.args.row.kind c.args.row.latency c.requires.0 in
    let w1 = c.in_ok-position.ensures in
    let w2 = more w1 c.in_ok-position-2.ensures in
    let w3 = more w2 (rw (d.0, d.1) at c.in_ok-position-3.ensures) in
    let w4 = more w3 (rw (l.0, l.1) at c.in_ok-position-4.ensures) in
    let w5 = more w4 (rw (q.0, q.1) at c.in_ok-position-5.ensures) in
    (omega (arith, o.1, small.3), rw o.1 (room-left w5 (omega (arith, most)) c.requires.1))

pub returns : goal.returns
returns c =
    let all = c.ranges_of-all in
    let d = delays-right c.args.top c.args.row.kind all.result c.requires.0 all.ensures _ c.up_to.ensures in
    let l = latencies-right c.args.top c.args.row.kind all.result c.requires.0 all.ensures in
    let q = clocks-right c.args.top c.args.row.kind all.result c.requires.0 all.ensures c.args.row.latency _ c.clock_to_q.ensures in
    let o = operands-right c.args.top c.args.row.kind all.result c.requires.0 all.ensures in
    let w1 = c.in_ok-position.ensures in
    let w2 = more w1 c.in_ok-position-2.ensures in
    let w3 = more w2 (rw (d.0, d.1) at c.in_ok-position-3.ensures) in
    let w4 = more w3 (rw (l.0, l.1) at c.in_ok-position-4.ensures) in
    let w5 = more w4 (rw (q.0, q.1) at c.in_ok-position-5.ensures) in
    more w5 (rw (o.0, o.1) at c.put_in-4.ensures)
