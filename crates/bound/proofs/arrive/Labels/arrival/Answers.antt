-- `arrive::Labels::arrival` meets its contract: a node without a latency is ready at its own label.
use mathlib.Core.Path.{refl, ap}
use native.Mathlib.Omega.{arith}
use Rattle.maps.specs.Label.{Label}
use Rattle.types.specs.Code.{label_of}
use Rattle.types.proofs.LabelLaws.{ready-now}
use Rattle.rows.specs.Table.{clock_in}
use Rattle.bound.proofs.Arriving.{arrival-is}
use Rattle.bound.proofs.arrive.Labels.arrival.Goals as goal

pub returns-then-latency-eq0 : goal.returns-then-latency-eq0
returns-then-latency-eq0 c =
    let a = c.args in
    let l = c.label_of-own.result in
    let q = clock_in a.graph.now a.u in
    let at = ap (λ (x : Label). x.step) c.label_of-own.ensures in
    arrival-is a.graph.now a.self.now.steps a.self.now.levels a.top.0 a.delay.0 a.u c.latency_in-latency.result.0 q
    (label_of l) (label_of l) (label_of c.plus.result)
    c.label_of-own.ensures c.latency_in-latency.ensures refl
    (ready-now c.latency_in-latency.result.0 q l.step.0 l.level.0 (omega (arith, c.requires.soon, at)) c.if-latency-eq0.true) c.plus.ensures c.requires.soon

pub returns : goal.returns
returns c =
    let a = c.args in
    arrival-is a.graph.now a.self.now.steps a.self.now.levels a.top.0 a.delay.0 a.u c.latency_in-latency.result.0 c.clock_to_q_in-q.result.0
    (label_of c.label_of-own.result) (label_of c.ready.result) (label_of c.plus-2.result)
    c.label_of-own.ensures c.latency_in-latency.ensures c.clock_to_q_in-q.ensures c.ready.ensures c.plus-2.ensures c.requires.soon
