-- `put_window` meets its contract: the id, then from and to.
use native.Mathlib.Omega.{arith}
use Prim.Native.Nat.{◌-◌}
use lib.ListN.{drop}
use Rattle.maps.specs.Write.{window_numbers}
use Rattle.maps.proofs.WrittenSize.{id-bytes}
use Rattle.records.specs.Rows.{window_in, box_at}
use Rattle.fields.proofs.WroteLaws.{stopped, more, room-left, room-less}
use Rattle.window_write.proofs.put_window.Goals as goal

pub put_id-requires : goal.put_id-requires
put_id-requires c = let p = c.requires in (p.1, p.2, room-less (omega arith) p.5)

pub returns-in_err-position : goal.returns-in_err-position
returns-in_err-position c =
    let a = c.args in
    stopped (drop 1 (window_numbers a.n (box_at a.nodes.now) a.period a.low (window_in a.windows.now a.j))) c.from_residual.ensures.1 (rw c.window_at-row.ensures at c.in_err-position.ensures)

pub put_times-requires : goal.put_times-requires
put_times-requires c =
    let w = rw c.window_at-row.ensures at c.in_ok-position.ensures in
    let most = id-bytes {x = c.args.n - 1} (omega (arith, c.requires.2)) in
    (c.requires.3, c.requires.4, room-left w (omega (arith, most)) c.requires.5)

pub returns : goal.returns
returns c =
    more (rw c.window_at-row.ensures at c.in_ok-position.ensures) (rw c.window_at-row.ensures at c.put_times.ensures)
