-- What an answer of `least_labels` says, over all labellings and all cuts: the labels are the least legal ones, whatever the horizon of the
-- labellings that they are compared with, or no labelling is legal within the horizon.
use Prim.Native.Nat.{ℕ}
use mathlib.Core.Path.{◌≡◌, subst}
use mathlib.Core.Bool.{Bool, true, false}
use mathlib.Core.List.{List, []}
use Rattle.maps.specs.Label.{Label}
use Rattle.maps.specs.Sheet.{Sheet}
use Rattle.maps.specs.Legal.{Least, NoneLegal}
use Rattle.maps.specs.Least.{at, Labels, late, least, least_within, Answer, none, some}
use Rattle.maps.specs.WellFormed.{WellFormed}
use Rattle.maps.specs.Outcome.{cutless}
use Rattle.maps.proofs.Planned.{least-right}
use Rattle.rows.specs.Cells.{Ends}

-- what the definition's answer says
abbrev Says : Sheet → (H : ℕ) → Labels → Type 0
Says S H late = NoneLegal S H
Says S H (least R) = Least S H (at R)

says : (S : Sheet) (H : ℕ) {r : Labels} → Answer S H r → Says S H r
says S H (none h) = h
says S H (some n h) = h

pub labels-exact : (S : Sheet) → WellFormed S → cutless S ≡ [] → (H : ℕ) (R : List Label) (r : Bool)
    → Ends r (least_within S H ≡ least R) (least_within S H ≡ late) → Ends r (Least S H (at R)) (NoneLegal S H)
labels-exact S well cuts H R true e = subst (Says S H) e (says S H (least-right S well cuts H))
labels-exact S well cuts H R false e = subst (Says S H) e (says S H (least-right S well cuts H))
