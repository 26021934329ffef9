-- A number that was written lies in its range.
use Prim.Native.Nat.{ℕ, ◌≤◌}
use mathlib.Core.List.{List, [], ◌∷◌}
use Rattle.maps.specs.Limits.{Range}
use Rattle.maps.specs.Form.{among}
use Rattle.maps.specs.Write.{entry}
use Rattle.maps.proofs.Parse.{in-range}
use Rattle.fields.specs.Wrote.{Wrote, passed}
use Rattle.std.specs.Prelude.{Ok}
use Rattle.fields.specs.declared.Position.{Position}

pub within : (r : Range) (x : ℕ) {a b : List ℕ} {p next : Position} → Wrote (entry (among r) x ∷ []) a b p (Ok next) → x ≤ r.high
within r x (passed good f n) = (in-range r x good.0).most
