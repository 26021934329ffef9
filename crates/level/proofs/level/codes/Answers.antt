-- `level::codes` meets its contract. The invariant: the codes of the nodes below u stand.
use lib.ListN.{length-replicate, get_or-replicate}
use Rattle.types.specs.Code.{label_of}
use Rattle.flow.specs.declared.Code.{Code}
use Rattle.flow.specs.declared.Code.TheVariants.{Inner}
use Rattle.level.proofs.LevelCodes.{code_is, coded_none, coded-more}
use Rattle.level.proofs.level.codes.Goals as goal

pub loop-u-init : goal.loop-u-init
loop-u-init c = coded_none (length-replicate {A = Code} 256 Inner) (get_or-replicate 256 c.args.v Inner Inner c.requires.v_bound)

pub loop-u-preserved : goal.loop-u-preserved
loop-u-preserved c =
    let a = c.args in
    let l = c.loop-u in
    let p = c.requires.v_bound in
    let t = c.loop-u-test.true in
    coded-more t p
    (code_is a.graph.now a.labels.now.steps a.labels.now.levels a.v a.top.0 l.u c.delay_in-delay.result.0 c.code_of.result (label_of a.by) c.delay_in-delay.ensures c.code_of.ensures)
    l.invariant
