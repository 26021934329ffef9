-- `turn` meets its contract.
use mathlib.Core.Path.{refl}
use Rattle.flow.specs.Search.{held}
use Rattle.flow.proofs.Laws as Laws
use Rattle.cut.proofs.turn.Goals as goal

pub expand-requires-clause-under : goal.expand-requires-clause-under
expand-requires-clause-under c = Laws.under-self c.args.graph.now c.args.code.now c.args.x

pub returns-else-not-expand : goal.returns-else-not-expand
returns-else-not-expand c = held refl c.expand.new.above c.if-not-expand.ensures
