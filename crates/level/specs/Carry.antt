-- Which cuts of a logic node carry a label, as the tables show it.
use Rattle.std.specs.Prelude.{ℕ, ◌≤◌, ◌<◌, ◌≡◌, true, List, get_or}
use Rattle.maps.specs.Label.{Label, label, leq, ◌≼◌}
use Rattle.maps.specs.Sheet.{Sheet, size, is_logic}
use Rattle.maps.specs.Cut.{logic_node}
use Rattle.maps.specs.WellFormed.{WellFormed}
use Rattle.rows.specs.Table.{kind_at, delay_in, Tabled}
use Rattle.rows.specs.declared.Header as R
use Rattle.cut.specs.Question.{code_for}
use Rattle.relax.specs.Guard.{Forced}
use Rattle.bound.specs.Lookup.{label_in, arrival_in, Soon, count_of, leaf_of}
use Rattle.bound.specs.Going.{Keeps}
use Rattle.flow.specs.declared.Code.{Code}
use Rattle.flow.specs.declared.Code.TheVariants.{Inner}

-- the table of nodes holds the logic node v; the limits are K and T
pub record Placed (S : Sheet) (graph : List ℕ) (v : ℕ) (limits : R.Header) : Type 0 where
  pub well : WellFormed S
  pub tabled : Tabled S graph
  pub node : v < size S
  pub logic : logic_node S v ≡ true
  pub leaves : limits.leaves ≡ S.leaves
  pub tops : limits.top ≡ S.top

-- the kept leaves of v are ids whose ready steps are the code's
pub record Leaves (graph steps kept : List ℕ) (v : ℕ) : Type 0 where
  pub node : v < 256
  pub few : count_of kept v ≤ 7
  pub ids : (j : ℕ) → j < count_of kept v → leaf_of kept v j < 256
  pub soon : (j : ℕ) → j < count_of kept v → Soon graph steps (leaf_of kept v j)

-- the codes of the question which cuts of v carry the label a
pub record CodesBy (graph steps levels : List ℕ) (code : List Code) (v top : ℕ) (a : Label) : Type 0 where
  pub below : (u : ℕ) → u < v → get_or code u Inner ≡ code_for (is_logic (kind_at graph u)) (leq (arrival_in graph steps levels top (delay_in graph v) u) a)
  pub own : get_or code v Inner ≡ Inner

-- the leaves of v's kept cut arrive by a
abbrev pub Arrive : (graph steps levels kept : List ℕ) (v top : ℕ) → Label → Type 0
Arrive graph steps levels kept v top a = (j : ℕ) → j < count_of kept v → arrival_in graph steps levels top (delay_in graph v) (leaf_of kept v j) ≼ a

-- the level of v in step s lies from low to high: less is not carried, and the kept cut carries high, or high is past the top
pub record Between (S : Sheet) (graph steps levels kept : List ℕ) (v top s low high : ℕ) : Type 0 where
  pub forced : Forced S (label_in steps levels) v (label s low)
  pub keeps : Keeps S kept v
  pub by : high ≤ top → Arrive graph steps levels kept v top (label s high)
