-- What the answer about a horizon means, and what a node adds to the latency.
use Rattle.std.specs.Prelude.{ℕ, ◌+◌, ◌≤◌, ◌≡◌, true, false, cond, List, [], Result, Ok, Err, eqb, get_or}
use Rattle.maps.specs.Limits.{ready_most}
use Rattle.maps.specs.Label.{Label}
use Rattle.maps.specs.Sheet.{Sheet}
use Rattle.maps.specs.Least.{in_time, late, least, least_within, least_ever}
use Rattle.rows.specs.Table.{mark_in, latency_in}
use Rattle.rows.specs.declared.Header as R
use Rattle.types.specs.declared.Refusal.{Refusal}
use Rattle.types.specs.declared.Refusal.TheVariants.{Late, Never}

-- the same limits but for the horizon, which is the farthest
pub record Far (limits far : R.Header) : Type 0 where
  pub leaves : far.leaves ≡ limits.leaves
  pub top : far.top ≡ limits.top
  pub farthest : ready_most ≤ far.horizon
  pub near : far.horizon ≤ ready_most
  pub nodes : far.nodes ≡ limits.nodes
  pub differences : far.differences ≡ limits.differences
  pub period : far.period ≡ limits.period
  pub windows : far.windows ≡ limits.windows

-- where labels are sought: without entries within the farthest horizon, with entries within the sheet's own
pub record Searched (limits within : R.Header) : Type 0 where
  pub far : limits.windows ≡ 0 → Far limits within
  pub own : (limits.windows ≡ 0 → ⊥) → within ≡ limits

-- Without entries: never, there are no least labels; late, L has them, and one is past H; in time, L has them, and none is. With entries: late, there are
-- none within H; in time, L has them.
pub data Times (S : Sheet) (H : ℕ) (L : List Label) : Result (Unit {0}) Refusal → Type 0 where
  is_never : S.windows ≡ [] → least_ever S ≡ late → Times S H L (Err (Never 0))
  is-late : S.windows ≡ [] → least_ever S ≡ least L → in_time S L H ≡ false → Times S H L (Err (Late 0))
  is-in-time : S.windows ≡ [] → least_ever S ≡ least L → in_time S L H ≡ true → Times S H L (Ok tt)
  is-past : (S.windows ≡ [] → ⊥) → least_within S H ≡ late → Times S H L (Err (Late 0))
  is_within : (S.windows ≡ [] → ⊥) → least_within S H ≡ least L → Times S H L (Ok tt)

-- the ready step of u if it is an output, otherwise 0
abbrev pub output_step : (graph steps : List ℕ) → ℕ → ℕ
output_step graph steps u = cond (eqb (mark_in graph u) 1) (get_or steps u 0 + latency_in graph u) 0
