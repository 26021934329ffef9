-- `hold::Holding::hold_early` meets its contract. The invariant: of the first v nodes those of a step below the shift are marked, and no other.
use native.Mathlib.Omega.{arith}
use Rattle.hold.proofs.HoldMarks.{early-none, early-more}
use Rattle.hold.proofs.Holding.hold_early.Goals as goal

pub loop-v-init : goal.loop-v-init
loop-v-init c = early-none _ _

pub loop-v-preserved : goal.loop-v-preserved
loop-v-preserved c = let t = c.loop-v-test.true in let q = c.requires in early-more c.loop-v.invariant (omega arith) c.step_of.ensures
