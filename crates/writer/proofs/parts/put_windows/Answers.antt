-- `parts::put_windows` meets its contract: one window after the other.
use native.Mathlib.Omega.{arith}
use mathlib.Core.Path.{refl, ap}
use Rattle.records.specs.Rows.{window_in, window_entries, box_at}
use Rattle.records.specs.declared.WindowRow.{WindowRow}
use Rattle.fields.proofs.WroteLaws.{rows-room, wrote_none, rows_next, rows-stop}
use Rattle.writer.proofs.WindowRows.{window_bytes, window-id, low-next}
use Rattle.writer.proofs.parts.put_windows.Goals as goal

pub loop-j-init : goal.loop-j-init
loop-j-init c = record { least = refl; wrote = wrote_none _ _ }

pub put_window-requires : goal.put_window-requires
put_window-requires c =
    let l = c.loop-j in
    let a = c.args in
    let p = c.requires in
    let small = window_bytes a.n (box_at a.nodes.now) a.period a.windows.now p.2 p.4 in (
      omega (arith, c.loop-j-test.true, p.0),
      p.1,
      p.2,
      p.3,
      p.4,
      rows-room (window_entries a.n (box_at a.nodes.now) a.period a.windows.now) small l.j a.k c.loop-j-test.true l.invariant.wrote p.5,
    )

pub returns-in_err-to : goal.returns-in_err-to
returns-in_err-to c =
    let l = c.loop-j in
    let a = c.args in
    rows-stop (window_entries a.n (box_at a.nodes.now) a.period a.windows.now) l.j a.k c.loop-j-test.true c.from_residual.ensures.1 l.invariant.wrote
    (rw l.invariant.least at c.in_err-to.ensures)

pub overflow_add-low : goal.overflow_add-low
overflow_add-low c =
    let l = c.loop-j in
    let a = c.args in
    let small = window-id a.n (box_at a.nodes.now) a.period l.low (window_in a.windows.now l.j) c.in_ok-to.ensures in
    let e = ap (λ (r : WindowRow). r.id) c.window_at-low.ensures in
    omega (arith, small, e, c.requires.2)

pub loop-j-preserved : goal.loop-j-preserved
loop-j-preserved c =
    let l = c.loop-j in
    let a = c.args in record {
      least = low-next a.windows.now l.j c.window_at-low.result c.window_at-low.ensures;
      wrote = rows_next (window_entries a.n (box_at a.nodes.now) a.period a.windows.now) l.j l.invariant.wrote (rw l.invariant.least at c.in_ok-to.ensures);
    }
