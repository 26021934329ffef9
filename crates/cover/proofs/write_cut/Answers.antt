-- `cover::write_cut` meets its contract.
use Rattle.cover.proofs.CoverCut.{row-chosen}
use Rattle.cover.proofs.write_cut.Goals as goal

pub returns-clause-v_after : goal.returns-clause-v_after
returns-clause-v_after c = λ S laid l i. row-chosen laid c.args.v l i c.choose_cut-found.result _ _ (c.choose_cut-found.ensures.picked S laid l i) c.store_cut.ensures.v_after
