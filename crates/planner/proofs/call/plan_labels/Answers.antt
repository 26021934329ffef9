-- `call::plan_labels` meets its contract.
use mathlib.Core.Path.{ap}
use native.Mathlib.Omega.{arith}
use lib.ListN.{length}
use Prim.Native.Nat.{ℕ}
use mathlib.Core.List.{List}
use Rattle.std.proofs.lemmas.List.{length-take}
use Rattle.planner.proofs.Drafts.{soon, carrying, small, planned}
use Rattle.planner.proofs.call.plan_labels.Goals as goal

pub latency-last-requires-clause-by_index : goal.latency-last-requires-clause-by_index
latency-last-requires-clause-by_index c =
    let p = c.requires.by_index in
    soon c.args.labels.now.steps c.args.labels.now.levels p.2 p.3

pub cover-requires-clause-by_index : goal.cover-requires-clause-by_index
cover-requires-clause-by_index c =
    let p = c.requires.by_index in
    soon c.args.labels.now.steps c.args.labels.now.levels p.2 p.3

pub write_plan-requires-clause-small : goal.write_plan-requires-clause-small
write_plan-requires-clause-small c =
    let p = c.requires.by_index in
    let k = p.2 in
    let labels = c.args.labels.now in
    small labels.steps labels.levels k p.3 (c.latency-last.ensures p.0 labels.levels k.tabled k.nodes)

pub returns-clause-bytes_after : goal.returns-clause-bytes_after
returns-clause-bytes_after c S d k ok =
    let labels = c.args.labels.now in
    planned labels.steps labels.levels k ok (c.latency-last.ensures S labels.levels k.tabled k.nodes) _ _ _
    (c.cover.ensures.covered S d k (carrying labels.steps labels.levels k ok)) c.write_plan.ensures.written.1

pub returns-clause-upper_bound : goal.returns-clause-upper_bound
returns-clause-upper_bound c =
    let w = c.write_plan.ensures.written in
    let n = c.write_plan.new.plan in
    (w.2, omega (arith, w.0, ap (λ (bytes : List ℕ). length bytes) w.1, length-take n.len n.bytes))
