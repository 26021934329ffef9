-- What the computed labels of any horizon say.
use Rattle.std.specs.Prelude.{◌≡◌, List, length}
use Rattle.maps.specs.Label.{Label}
use Rattle.maps.specs.Sheet.{Sheet, size}
use Rattle.maps.specs.Legal.{Never, Least}
use Rattle.maps.specs.Least.{at, Labels, late, least, ready_bound}

-- nothing is legal under any horizon, or the labels are the least legal ones, and none is later than `ready_bound`
pub data Ever (S : Sheet) : Labels → Type 0 where
  never : Never S → Ever S late
  some : {L : List Label} → length L ≡ size S → Least S (ready_bound S) (at L) → Ever S (least L)
