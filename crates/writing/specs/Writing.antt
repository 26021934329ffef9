-- What a row's numbers must be for their bytes.
use Rattle.std.specs.Prelude.{ℕ, ◌≤◌, ◌<◌, List, get_or}
use Rattle.maps.specs.Limits.{leaves_range, top_range, horizon_range}
use Rattle.maps.specs.Lists.{All}
use Rattle.bound.specs.Lookup.{count_of}
use Rattle.cover.specs.Cover.{row_of}

-- each number of the row of v is one that a plan can have
pub record Writable (steps levels cuts : List ℕ) (v : ℕ) : Type 0 where
  pub step : get_or steps v 0 ≤ horizon_range.high
  pub level : get_or levels v 0 ≤ top_range.high
  pub few : count_of cuts v ≤ leaves_range.high
  pub ids : All (λ u. u < 256) (row_of cuts v)
