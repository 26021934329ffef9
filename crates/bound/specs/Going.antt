-- What the tables hold of a sheet, before and while its labels rise.
use Rattle.std.specs.Prelude.{ℕ, ◌+◌, ◌≤◌, ◌<◌, ◌≡◌, true, List, length, get_or}
use Rattle.maps.specs.Limits.{ready_most}
use Rattle.maps.specs.Label.{Label, label, later}
use Rattle.maps.specs.Sheet.{Sheet, node, size, latency}
use Rattle.maps.specs.Cut.{logic_node, FittingCut}
use Rattle.maps.specs.WellFormed.{WellFormed}
use Rattle.rows.specs.Table.{Tabled, Listed}
use Rattle.rows.specs.declared.Header as R
use Rattle.relax.specs.Settle.{Asks}
use Rattle.bound.specs.Lookup.{Row, Heeding, step_limit}

-- the tables and the limits are those of the sheet, but for the horizon: labels are sought within that of the limits, whatever the sheet's own
pub record Given (S : Sheet) (graph differences : List ℕ) (limits : R.Header) : Type 0 where
  pub well : WellFormed S
  pub tabled : Tabled S graph
  pub listed : Listed S differences
  pub leaves : limits.leaves ≡ S.leaves
  pub top : limits.top ≡ S.top
  pub near : limits.horizon ≤ ready_most
  pub nodes : limits.nodes ≡ size S
  pub count : limits.differences ≡ length S.differences
  pub period : limits.period ≡ S.period
  pub windows : limits.windows ≡ length S.windows

-- a fitting cut of v is kept
pub record Keeps (S : Sheet) (kept : List ℕ) (v : ℕ) : Type 0 where
  pub leaves : List ℕ
  pub fitting : FittingCut S v leaves
  pub row : Row kept v leaves

-- a fitting cut of each logic node is kept
pub record AllKept (S : Sheet) (kept : List ℕ) : Type 0 where
  pub wide : length kept ≡ 2048
  pub keeps : (v : ℕ) → v < size S → logic_node S v ≡ true → Keeps S kept v

-- every node ends within the horizon H
pub record Timed (S : Sheet) (H : ℕ) (steps levels : List ℕ) : Type 0 where
  pub steps-wide : length steps ≡ 256
  pub levels-wide : length levels ≡ 256
  pub ends : (v : ℕ) → v < size S → get_or steps v 0 + latency S v ≤ H

-- what the bounds of node v are taken from
pub record Bounding (S : Sheet) (graph differences : List ℕ) (limits : R.Header) (first next steps levels : List ℕ) (v : ℕ) : Type 0 where
  pub given : Given S graph differences limits
  pub heeding : Heeding differences limits.differences first next
  pub timed : Timed S limits.horizon steps levels
  pub node : v < limits.nodes

-- what a pass works on
pub record Going (S : Sheet) (graph differences : List ℕ) (limits : R.Header) (first next kept steps levels : List ℕ) : Type 0 where
  pub given : Given S graph differences limits
  pub heeding : Heeding differences limits.differences first next
  pub all_kept : AllKept S kept
  pub timed : Timed S limits.horizon steps levels

-- the least label of v from the step that its conditions ask for on
pub record Based (S : Sheet) (L : ℕ → Label) (v : ℕ) (a : Label) : Type 0 where
  pub step : ℕ
  pub asks : Asks S L v step
  pub fits : step < step_limit
  pub base : a ≡ later (L v) (label step (node S v).delay)
