-- `cuts::lowest_cutless` meets its contract. The invariant: a fitting cut of each logic node below v is kept.
use Rattle.level.proofs.CutTests.{kept_more, lowest-found, lowest-none}
use Rattle.level.proofs.cuts.lowest_cutless.Goals as goal

pub returns-then-not-has_cut-clause-lowest : goal.returns-then-not-has_cut-clause-lowest
returns-then-not-has_cut-clause-lowest c =
    let l = c.loop-v in
    let e = c.has_cut in
    λ S. lowest-found S c.args.graph.now c.args.n c.args.k l.kept e.new.kept l.v e.result c.if-not-has_cut.true c.loop-v-test.true (e.ensures.fit_test S) (l.invariant.1 S)

pub loop-v-preserved : goal.loop-v-preserved
loop-v-preserved c =
    let l = c.loop-v in
    let e = c.has_cut in (
      e.ensures.kept_len_2,
      λ S. kept_more S c.args.graph.now c.args.n c.args.k l.kept e.new.kept l.v e.result c.if-not-has_cut.false c.loop-v-test.true e.ensures.beside (e.ensures.fit_test S) (l.invariant.1 S),
    )

pub returns-clause-lowest : goal.returns-clause-lowest
returns-clause-lowest c =
    let l = c.loop-v in
    λ S. lowest-none S c.args.graph.now c.args.n c.args.k l.kept l.v c.loop-v-test.false l.invariant.0 (l.invariant.1 S)
