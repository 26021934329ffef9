-- `labels::start` meets its contract. The loop's invariant: the nodes below v have their first labels.
use Rattle.schedule.proofs.Starts.{first-none}
use Rattle.schedule.proofs.labels.start.Goals as goal

pub loop-v-init : goal.loop-v-init
loop-v-init c = first-none c.clear.ensures.steps_after c.clear.ensures.levels_after
