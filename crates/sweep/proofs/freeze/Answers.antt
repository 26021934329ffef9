-- `freeze` meets its contract.
use Rattle.sweep.proofs.Freezing.{frozen-none}
use Rattle.sweep.proofs.freeze.Goals as goal

pub loop-v-init : goal.loop-v-init
loop-v-init c = frozen-none
