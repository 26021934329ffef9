-- `pass` meets its contract. The loop's invariant: the nodes below v are settled in turn.
use Prim.Native.Nat.{◌+◌}
use Rattle.relax.specs.Settle.{begin}
use Rattle.relax.proofs.Closed.{well-closed}
use Rattle.relax.proofs.Loop.{passing-pass}
use Rattle.std.proofs.lemmas.Result.{err_from_is_err_and}
use Rattle.bound.specs.Lookup.{label_in}
use Rattle.bound.proofs.Safety.{summed-all}
use Rattle.pass.proofs.Turns.{turn_on}
use Rattle.pass.proofs.pass.Goals as goal

pub loop-v-init : goal.loop-v-init
loop-v-init c S bound going p = (going, begin)

pub settle-requires-clause-underway : goal.settle-requires-clause-underway
settle-requires-clause-underway c =
    let l = c.loop-v in
    let p = c.requires in
    let i = l.invariant p.0 p.1 p.2 p.3 in
    (p.0, p.1, i.0, passing-pass p.0 (well-closed p.0 p.2.given.well) _ p.3 l.v _ i.1)

pub returns-in_err-settle : goal.returns-in_err-settle
returns-in_err-settle c S bound going p =
    let l = c.loop-v in
    let i = l.invariant S bound going p in
    let q = err_from_is_err_and c.from_residual.result c.from_residual.ensures.1 in
    rw q.1 (c.in_err-settle.ensures S bound i.0 (passing-pass S (well-closed S going.given.well) _ p l.v _ i.1) c.loop-v-test.true)

pub leads_back-requires-clause-by_index : goal.leads_back-requires-clause-by_index
leads_back-requires-clause-by_index c =
    let l = c.loop-v in
    let p = c.requires in
    let i = l.invariant p.0 p.1 p.2 p.3 in
    let x = c.in_ok-settle.ensures p.0 p.1 i.0 (passing-pass p.0 (well-closed p.0 p.2.given.well) _ p.3 l.v _ i.1) c.loop-v-test.true in
    summed-all x.0.given x.0.timed

pub returns-then-leads_back : goal.returns-then-leads_back
returns-then-leads_back c S bound going p =
    let l = c.loop-v in
    let i = l.invariant S bound going p in
    let x = c.in_ok-settle.ensures S bound i.0 (passing-pass S (well-closed S going.given.well) _ p l.v _ i.1) c.loop-v-test.true in
    record {
      going = x.0;
      turns = l.v + 1;
      passing = turn_on i.0 l.v c.loop-v-test.true x.1 (label_in c.args.labels.now.steps c.args.labels.now.levels) i.1 x.2 x.3 x.4;
      fails = c.leads_back.ensures c.if-leads_back.true;
      partly = c.if-not-whole.true;
    }

pub loop-v-preserved : goal.loop-v-preserved
loop-v-preserved c S bound going p =
    let l = c.loop-v in
    let i = l.invariant S bound going p in
    let x = c.in_ok-settle.ensures S bound i.0 (passing-pass S (well-closed S going.given.well) _ p l.v _ i.1) c.loop-v-test.true in
    (x.0, turn_on i.0 l.v c.loop-v-test.true x.1 (label_in c.args.labels.now.steps c.args.labels.now.levels) i.1 x.2 x.3 x.4)
