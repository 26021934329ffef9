-- `asked::link` meets its contract.
use Prim.Native.Nat.{ℕ}
use lib.ListN.{length-replicate}
use Rattle.bound.proofs.Asking.{linked-none}
use Rattle.bound.proofs.asked.link.Goals as goal

pub loop-i-init : goal.loop-i-init
loop-i-init c = (linked-none c.args.differences.now, length-replicate {A = ℕ} 256 0, length-replicate {A = ℕ} 1024 0)
