-- The bytes of a plan, from the tables.
use Rattle.std.specs.Prelude.{ℕ, ◌≤◌, ◌<◌, Bool, false, cond, List, ◌++◌, map, get_or}
use Rattle.maps.specs.Lists.{below, concat}
use Rattle.maps.specs.Limits.{top_range, horizon_range}
use Rattle.maps.specs.Number.{encoded}
use Rattle.bound.specs.Lookup.{count_of}
use Rattle.cover.specs.Cover.{row_of}

-- every number is one that a plan can have
pub record Small (latency n : ℕ) (steps levels : List ℕ) : Type 0 where
  pub nodes : n ≤ 256
  pub latest : latency ≤ horizon_range.high
  pub step : (v : ℕ) → v < n → get_or steps v 0 ≤ horizon_range.high
  pub level : (v : ℕ) → v < n → get_or levels v 0 ≤ top_range.high

module _ (steps levels : List ℕ) (marks : List Bool) (cuts : List ℕ) where
  abbrev pub flat_row : ℕ → List ℕ
  flat_row v =
      encoded (get_or steps v 0) ++ encoded (get_or levels v 0) ++ encoded (cond (get_or marks v false) 1 0) ++ encoded (count_of cuts v) ++ concat (map encoded (row_of cuts v))

abbrev pub flat_plan : (latency n : ℕ) → (steps levels : List ℕ) (marks : List Bool) (cuts : List ℕ) → List ℕ
flat_plan latency n steps levels marks cuts = encoded latency ++ concat (map (flat_row steps levels marks cuts) (below n))
