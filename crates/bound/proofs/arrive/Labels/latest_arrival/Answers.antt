-- `arrive::Labels::latest_arrival` meets its contract. The invariant: `latest` is the latest over the first j operands.
use Rattle.types.specs.Code.{label_of}
use Rattle.bound.proofs.Arriving.{latest-more}
use Rattle.bound.proofs.arrive.Labels.latest_arrival.Goals as goal

pub loop-j-preserved : goal.loop-j-preserved
loop-j-preserved c =
    let a = c.args in
    let l = c.loop-j in
    let d = c.delay_in-delay in
    let u = c.operand_in-u in
    let x = c.arrival in (
      l.invariant.0,
      latest-more a.graph.now a.self.now.steps a.self.now.levels a.v a.top.0 (label_of a.from) l.j (label_of l.latest) (label_of x.result) (label_of c.later-latest.result) d.result.0 u.result
          l.invariant.1 d.ensures u.ensures x.ensures c.later-latest.ensures,
    )
