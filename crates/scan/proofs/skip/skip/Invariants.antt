use Prim.Native.Nat.{ℕ, ◌+◌, ◌-◌, ◌≤◌}
use mathlib.Core.Path.{◌≡◌}
use mathlib.Core.Bool.{Bool}
use lib.ListN.{length, drop}
use Rattle.blif.specs.Scan.{from}
use Rattle.scan.proofs.skip.skip.Given as goal

abbrev pub invariant-loop-at : goal.invariant-loop-at
invariant-loop-at g l =
    ((stop : ℕ → Bool) → ((b : ℕ) (r : Bool) → goal.F-post g l.stops b r → r ≡ stop b) → from stop (drop l.start l.text) ≡ from stop (drop l.at l.text)) × (l.start ≤ l.at)

abbrev pub decreases-loop-at : goal.decreases-loop-at
decreases-loop-at g l = length l.text + 2 - l.at
