-- The array that a sheet is made in.
use mathlib.Core.Path.{◌≡◌}
use Rattle.maps.specs.Sizes.{sheet_most}
use Rattle.maps.proofs.WrittenSize.{sheet-most}

-- it is as long as the longest sheet; under a name that an attribute can give
pub sheet_room : sheet_most ≡ 13068
sheet_room = sheet-most
