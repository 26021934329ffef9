-- What the search for a logic node's level answers.
use Rattle.std.specs.Prelude.{ℕ, ◌+◌, ◌-◌, ◌≤◌, ◌<◌, Bool, List}
use Rattle.maps.specs.Label.{Label, label}
use Rattle.maps.specs.Sheet.{Sheet}
use Rattle.rows.specs.declared.Header as R
use Rattle.rows.specs.Cells.{Ends}
use Rattle.relax.specs.Guard.{Forced}
use Rattle.maps.specs.Legal.{CutBy}
use Rattle.bound.specs.Lookup.{label_in, Beside}
use Rattle.bound.specs.Going.{Keeps}
use Rattle.level.specs.Carry.{Placed, Arrive, Between}

-- a fitting cut that carries a is kept, or there is none
abbrev pub TriedLevel : (S : Sheet) (graph steps levels kept : List ℕ) (v top : ℕ) → Label → Bool → Type 0
TriedLevel S graph steps levels kept v top a r =
    Ends r (Keeps S kept v × Arrive graph steps levels kept v top a) (CutBy S (label_in steps levels) v a → ⊥)

-- the span from low to high is narrowed to one from low' to high'
pub record Narrowed (graph steps levels kept more : List ℕ) (v : ℕ) (limits : R.Header) (s low high low' high' : ℕ) : Type 0 where
  pub order : low' ≤ high'
  pub most : high' ≤ limits.top + 1
  pub from : low ≤ low'
  pub less : high' - low' < high - low
  pub between : (S : Sheet) → Placed S graph v limits → Between S graph steps levels kept v limits.top s low high → Between S graph steps levels more v limits.top s low' high'
  pub beside : Beside v kept more

-- r is the level at which the span closes
pub record Levelled (graph steps levels kept more : List ℕ) (v : ℕ) (limits : R.Header) (s low r : ℕ) : Type 0 where
  pub from : low ≤ r
  pub most : r ≤ limits.top + 1
  pub between : (S : Sheet) → Placed S graph v limits → Keeps S kept v → Forced S (label_in steps levels) v (label s low) → Between S graph steps levels more v limits.top s r r
  pub beside : Beside v kept more
