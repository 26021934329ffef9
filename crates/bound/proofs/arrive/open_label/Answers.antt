-- `arrive::open_label` meets its contract.
use Rattle.types.specs.Code.{label_of}
use Rattle.rows.specs.Table.{open_in, closing, delay_in}
use Rattle.bound.proofs.Arriving.{open-whole}
use Rattle.bound.proofs.arrive.open_label.Goals as goal

pub returns-then-windows-eq0 : goal.returns-then-windows-eq0
returns-then-windows-eq0 c =
    let g = c.args.graph.now in
    let v = c.args.v in
    let p = c.args.period in
    let a = label_of c.args.a in
    let w = c.requires.whole_in c.if-windows-eq0.true in
    open-whole p (open_in g v) (closing g p v) (delay_in g v) a c.requires.period_nonzero.0 w.0 w.1
