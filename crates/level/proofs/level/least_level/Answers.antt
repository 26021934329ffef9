-- `level::least_level` meets its contract. The invariant: the level lies in the span.
use Rattle.level.proofs.LevelSpan.{kept_leaves, spanned-first, spanned-more, spanned-last}
use Rattle.level.proofs.level.least_level.Goals as goal

pub carried-most-requires-clause-leaves : goal.carried-most-requires-clause-leaves
carried-most-requires-clause-leaves c = kept_leaves c.requires.placed.1 c.requires.placed.2 c.requires.by_index

pub loop-span-init : goal.loop-span-init
loop-span-init c = spanned-first c.requires.level_bound c.carried-most.ensures c.higher.ensures

pub loop-span-preserved : goal.loop-span-preserved
loop-span-preserved c = spanned-more c.loop-span.invariant c.narrow-span.ensures.narrowed

pub returns-clause-levelled : goal.returns-clause-levelled
returns-clause-levelled c = spanned-last c.loop-span-test.false c.loop-span.invariant
