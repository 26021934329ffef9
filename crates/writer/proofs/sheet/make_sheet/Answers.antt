-- `sheet::make_sheet` meets its contract: header, nodes, differences, period and windows.
use Prim.Native.Nat.{ℕ, ◌+◌, ◌-◌, ◌*◌}
use mathlib.Core.Path.{◌≡◌}
use native.Mathlib.Omega.{arith}
use mathlib.Core.List.{List, ◌++◌, map}
use lib.ListN.{length}
use Rattle.maps.specs.Lists.{below, concat}
use Rattle.maps.specs.Write.{header_entries, cycle_numbers}
use Rattle.maps.specs.Sizes.{node_bytes_most, difference_bytes_most, cycle_bytes_most, sheet_most}
use Rattle.maps.proofs.WrittenSize.{id-bytes}
use Rattle.records.specs.Rows.{node_entries, difference_entries, windows_in, box_at}
use Rattle.std.specs.Prelude.{Ok}
use Rattle.fields.specs.Wrote.{start, Room, Wrote}
use Rattle.fields.specs.declared.Position.{Position}
use Rattle.fields.proofs.WroteLaws.{stopped, more, room-left, room-less, rows-most}
use Rattle.writer.proofs.NodeRows.{node-bytes}
use Rattle.writer.proofs.Sheets.{limited, parts-most, room_whole, numbers-in}
use Rattle.writer.proofs.sheet.make_sheet.Goals as goal

-- the room after the header and the nodes
room-2 : (k t h n m : ℕ) (nodes operands : List ℕ) {a b d : List ℕ} {p1 p2 : Position} → length a ≡ sheet_most → Wrote (header_entries k t h n m) a b start (Ok p1)
    → Wrote (concat (map (node_entries t nodes operands) (below n))) b d p1 (Ok p2) → Room (m * difference_bytes_most + cycle_bytes_most) d p2
room-2 k t h n m nodes operands e w1 w2 =
    let l = limited k t h n m w1 in
    let most = rows-most (node_entries t nodes operands) (node-bytes t nodes operands l.top) n w2 in
    let room = room-left {k = n * node_bytes_most + (m * difference_bytes_most + cycle_bytes_most)} w1 (omega (arith, parts-most l)) (room_whole e) in
    room-left w2 (omega (arith, most)) room

pub put_header-requires : goal.put_header-requires
put_header-requires c =
    room-less (omega arith) (room_whole c.requires)

pub returns-in_err-position : goal.returns-in_err-position
returns-in_err-position c =
    let a = c.args.records.now in
    let n = c.node_count-n.result in
    let m = c.difference_count-m.result in
    let whole = numbers-in a.leaves a.top a.horizon a.nodes.now a.operands.now a.differences.now a.period a.windows.now n m c.node_count-n.ensures c.difference_count-m.ensures in
    let node_numbers = concat (map (node_entries a.top a.nodes.now a.operands.now) (below n)) in
    let difference_numbers = concat (map (difference_entries n a.differences.now) (below m)) in
    let slot_numbers = cycle_numbers n (box_at a.nodes.now) a.period (windows_in a.windows.now) in
    rw whole (stopped (node_numbers ++ (difference_numbers ++ slot_numbers)) c.from_residual.ensures.1 c.in_err-position.ensures)

pub put_nodes-requires : goal.put_nodes-requires
put_nodes-requires c =
    let a = c.args.records.now in
    let n = c.node_count-n.result in
    let m = c.difference_count-m.result in
    let w1 = c.in_ok-position.ensures in
    let l = limited a.leaves a.top a.horizon n m w1 in
    (omega (arith, c.node_count-n.ensures), l.nodes, l.top, room-left w1 (omega (arith, parts-most l)) (room_whole c.requires))

pub returns-in_err-position-2 : goal.returns-in_err-position-2
returns-in_err-position-2 c =
    let a = c.args.records.now in
    let n = c.node_count-n.result in
    let m = c.difference_count-m.result in
    let whole = numbers-in a.leaves a.top a.horizon a.nodes.now a.operands.now a.differences.now a.period a.windows.now n m c.node_count-n.ensures c.difference_count-m.ensures in
    let difference_numbers = concat (map (difference_entries n a.differences.now) (below m)) in
    let slot_numbers = cycle_numbers n (box_at a.nodes.now) a.period (windows_in a.windows.now) in
    let w1 = c.in_ok-position.ensures in
    rw whole (more w1 (stopped (difference_numbers ++ slot_numbers) c.from_residual-in_err-position-2.ensures.1 c.in_err-position-2.ensures))

pub overflow_cast-size : goal.overflow_cast-size
overflow_cast-size c =
    let a = c.args.records.now in
    let n = c.node_count-n.result in
    let m = c.difference_count-m.result in
    let w1 = c.in_ok-position.ensures in
    let l = limited a.leaves a.top a.horizon n m w1 in
    omega (arith, l.nodes)

pub put_differences-requires : goal.put_differences-requires
put_differences-requires c =
    let a = c.args.records.now in
    let n = c.node_count-n.result in
    let m = c.difference_count-m.result in
    let w1 = c.in_ok-position.ensures in
    let w2 = c.in_ok-position-2.ensures in
    let l = limited a.leaves a.top a.horizon n m w1 in
    let room = room-2 a.leaves a.top a.horizon n m a.nodes.now a.operands.now c.requires w1 w2 in
    (omega (arith, c.difference_count-m.ensures), l.some, l.nodes, room-less (omega arith) room)

pub returns-in_err-position-3 : goal.returns-in_err-position-3
returns-in_err-position-3 c =
    let a = c.args.records.now in
    let n = c.node_count-n.result in
    let m = c.difference_count-m.result in
    let whole = numbers-in a.leaves a.top a.horizon a.nodes.now a.operands.now a.differences.now a.period a.windows.now n m c.node_count-n.ensures c.difference_count-m.ensures in
    let slot_numbers = cycle_numbers n (box_at a.nodes.now) a.period (windows_in a.windows.now) in
    let w1 = c.in_ok-position.ensures in
    let w2 = c.in_ok-position-2.ensures in
    rw whole (more w1 (more w2 (stopped slot_numbers c.from_residual-in_err-position-3.ensures.1 c.in_err-position-3.ensures)))

pub put_cycle-requires : goal.put_cycle-requires
put_cycle-requires c =
    let a = c.args.records.now in
    let n = c.node_count-n.result in
    let m = c.difference_count-m.result in
    let w1 = c.in_ok-position.ensures in
    let w2 = c.in_ok-position-2.ensures in
    let w3 = c.in_ok-position-3.ensures in
    let l = limited a.leaves a.top a.horizon n m w1 in
    let room = room-2 a.leaves a.top a.horizon n m a.nodes.now a.operands.now c.requires w1 w2 in
    let small = id-bytes {x = n - 1} (omega (arith, l.nodes, l.some)) in
    let most = rows-most (difference_entries n a.differences.now) {most = difference_bytes_most} (λ i p. omega (arith, small)) m w3 in
    (l.some, l.nodes, room-left w3 (omega (arith, most)) room)

pub returns : goal.returns
returns c =
    let a = c.args.records.now in
    let n = c.node_count-n.result in
    let m = c.difference_count-m.result in
    let whole = numbers-in a.leaves a.top a.horizon a.nodes.now a.operands.now a.differences.now a.period a.windows.now n m c.node_count-n.ensures c.difference_count-m.ensures in
    let w1 = c.in_ok-position.ensures in
    let w2 = c.in_ok-position-2.ensures in
    let w3 = c.in_ok-position-3.ensures in
    rw whole (more w1 (more w2 (more w3 c.put_cycle.ensures)))
