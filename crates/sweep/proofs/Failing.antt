-- A difference that fails and leads to a lower node.
use Prim.Native.Nat.{ℕ, ◌<◌}
use mathlib.Core.Path.{◌≡◌}
use mathlib.Core.Bool.{Bool, true, false}
use mathlib.Core.List.{List}
use Rattle.rows.specs.Table.{from_in, to_in}
use Rattle.rows.specs.Cells.{Ends}
use Rattle.sweep.specs.Sweep.{Fails, FailsBelow}

pub fails-below : (differences first steps : List ℕ) (v i : ℕ) → from_in differences i ≡ v → to_in differences i < v → (r : Bool)
    → Ends r (Fails differences first steps i) (Fails differences first steps i → ⊥)
    → Ends r (FailsBelow differences first steps v i) (FailsBelow differences first steps v i → ⊥)
fails-below differences first steps v i e l true f = record { from = e; lower = l; fails = f }
fails-below differences first steps v i e l false n = λ f. n f.fails
