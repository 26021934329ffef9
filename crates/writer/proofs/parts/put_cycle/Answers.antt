-- `parts::put_cycle` meets its contract: the period with the count of windows, then the windows.
use native.Mathlib.Omega.{arith}
use mathlib.Core.List.{map}
use Rattle.maps.specs.Lists.{below, concat}
use Rattle.records.specs.Rows.{window_entries, box_at}
use Rattle.fields.proofs.WroteLaws.{stopped, more, room-left, room-less}
use Rattle.writer.proofs.WindowRows.{cycle-in, cycled}
use Rattle.writer.proofs.parts.put_cycle.Goals as goal

pub put_period-requires : goal.put_period-requires
put_period-requires c = let p = c.requires in (p.1, room-less (omega arith) p.2)

pub returns-in_err-position : goal.returns-in_err-position
returns-in_err-position c =
    let a = c.args in
    rw (cycle-in a.n (box_at a.nodes.now) a.period a.windows.now c.window_count-k.result c.window_count-k.ensures)
    (stopped (concat (map (window_entries a.n (box_at a.nodes.now) a.period a.windows.now) (below c.window_count-k.result))) c.from_residual.ensures.1 c.in_err-position.ensures)

pub put_windows-requires : goal.put_windows-requires
put_windows-requires c =
    let w = c.in_ok-position.ensures in
    let h = cycled c.args.n c.args.period c.window_count-k.result c.requires.1 w in
    (omega (arith, c.window_count-k.ensures), c.requires.0, c.requires.1, h.some, h.period, room-left w h.room c.requires.2)

pub returns : goal.returns
returns c =
    let a = c.args in
    rw (cycle-in a.n (box_at a.nodes.now) a.period a.windows.now c.window_count-k.result c.window_count-k.ensures)
    (more c.in_ok-position.ensures c.put_windows.ensures)
