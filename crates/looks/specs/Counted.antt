-- What the numbers of a line mean.
use Rattle.std.specs.Prelude.{ℕ, ◌+◌, min, ◌≡◌, Bool, List, length}
use Rattle.maps.specs.Sheet.{Sheet, size}
use Rattle.maps.specs.Cut.{cut}
use Rattle.cone.specs.Walk.{marked, ConeInside, Question}
use Rattle.cone.specs.Looks.{LookedAt, operands_of}

-- Of the cone of v inside the marks: its cut has so many leaves, or more than k; its members have so many operands in all, and the test looks at
-- so many of them.
abbrev pub Counted : (g : List ℕ) → (marks : List Bool) → (v k leaves before now : ℕ) → Type 0
Counted g marks v k leaves before now =
    (S : Sheet) (C : ℕ → Bool) → Question S g marks v → ConeInside S (marked marks) v C
    → (leaves ≡ min (length (cut S C)) (k + 1)) × (before ≡ operands_of S C (size S)) × LookedAt S (marked marks) v k now
