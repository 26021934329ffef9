-- `level::table_label` meets its contract.
use Rattle.level.proofs.LevelLabel.{label-here, label-next}
use Rattle.level.proofs.level.table_label.Goals as goal

pub returns-then-l-limits-clause-settles : goal.returns-then-l-limits-clause-settles
returns-then-l-limits-clause-settles c = λ S bound p keeps pass based. label-here p c.least_level-l.ensures.levelled keeps pass based c.if-l-limits.true c.at.ensures

pub returns-else-l-limits-clause-settles : goal.returns-else-l-limits-clause-settles
returns-else-l-limits-clause-settles c = λ S bound p keeps pass based. label-next p c.least_level-l.ensures.levelled keeps pass based c.if-l-limits.false c.delay_in.ensures c.next_step.ensures
