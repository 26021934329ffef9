-- `labels::some_float` meets its contract.
use Rattle.bound.proofs.Safety.{graph-falls, summed-all}
use Rattle.schedule.proofs.labels.some_float.Goals as goal

pub floats-requires-clause-falling : goal.floats-requires-clause-falling
floats-requires-clause-falling c = graph-falls c.requires.by_index.2

pub floats-requires-clause-by_index_2 : goal.floats-requires-clause-by_index_2
floats-requires-clause-by_index_2 c = let p = c.requires.by_index in summed-all p.2 p.3
