-- What the functions on labels and steps answer.
use Rattle.std.specs.Prelude.{ℕ, ◌+◌, ◌-◌, ◌≤◌, ◌<◌, min, ◌≡◌, Bool, List, ◌⊎◌, get_or, set}
use Rattle.maps.specs.Label.{Label, label, ◌≼◌}
use Rattle.rows.specs.Table.{delay_in, operand_in, latency_in, from_in, to_in, plus_in, minus_in}
use Rattle.rows.specs.Cells.{Ends}
use Rattle.bound.specs.Lookup.{arrival_in, Heeded, step_limit}

-- r is the least level of step s by which each of count labels has come; top + 1 where no level up to top is
pub record Carrying (top s count : ℕ) (a : ℕ → Label) (r : ℕ) : Type 0 where
  pub most : r ≤ top + 1
  pub by : (l : ℕ) → l ≤ top → r ≤ l → (j : ℕ) → j < count → a j ≼ label s l
  pub least : (l : ℕ) → l ≤ top → ((j : ℕ) → j < count → a j ≼ label s l) → r ≤ l

-- r is the greatest of s and the numbers x i with P i
pub record Greatest (s : ℕ) (P : ℕ → Type 0) (x : ℕ → ℕ) (r : ℕ) : Type 0 where
  pub own : s ≤ r
  pub all : (i : ℕ) → P i → x i ≤ r
  pub least : (b : ℕ) → s ≤ b → ((i : ℕ) → P i → x i ≤ b) → r ≤ b

-- the ready step of operand j of v
abbrev pub ready_step : (graph steps : List ℕ) (v j : ℕ) → ℕ
ready_step graph steps v j = get_or steps (operand_in graph v j) 0 + latency_in graph (operand_in graph v j)

-- difference i, one of m, has the target v and is heeded
abbrev pub Into : (differences first : List ℕ) (m v i : ℕ) → Type 0
Into differences first m v i = (i < m) × (to_in differences i ≡ v) × Heeded first v

-- the step that difference i asks of its target
abbrev pub push_of : (differences steps : List ℕ) (i : ℕ) → ℕ
push_of differences steps i = get_or steps (from_in differences i) 0 + plus_in differences i - minus_in differences i

-- r is the latest of a and the arrivals of the first count operands of v
pub record Latest (graph steps levels : List ℕ) (v top count : ℕ) (a r : Label) : Type 0 where
  pub from : a ≼ r
  pub all : (j : ℕ) → j < count → arrival_in graph steps levels top (delay_in graph v) (operand_in graph v j) ≼ r
  pub one : (r ≡ a) ⊎ ((j : ℕ) × (j < count) × (r ≡ arrival_in graph steps levels top (delay_in graph v) (operand_in graph v j)))

-- the sums of difference i are the code's numbers
pub record Summed (differences steps : List ℕ) (i : ℕ) : Type 0 where
  pub from : from_in differences i < 256
  pub to : to_in differences i < 256
  pub ahead : get_or steps (from_in differences i) 0 + plus_in differences i < step_limit
  pub behind : get_or steps (to_in differences i) 0 + minus_in differences i < step_limit

-- difference i holds
abbrev pub HoldsAt : (differences steps : List ℕ) → ℕ → Type 0
HoldsAt differences steps i =
    get_or steps (from_in differences i) 0 + plus_in differences i ≤ get_or steps (to_in differences i) 0 + minus_in differences i

-- the step at which v ends where its label is of step s, as the code's numbers have it
abbrev pub end_in : (graph : List ℕ) (v s : ℕ) → ℕ
end_in graph v s = min (s + latency_in graph v) 4294967295

-- v has the label a, which ends within the horizon; or a ends after it, and nothing changes
abbrev pub LabelPlaced : (graph steps levels steps' levels' : List ℕ) (v : ℕ) (a : Label) (horizon : ℕ) → Bool → Type 0
LabelPlaced graph steps levels steps' levels' v a horizon r =
    Ends r ((end_in graph v a.step ≤ horizon) × (steps' ≡ set steps v a.step) × (levels' ≡ set levels v a.level))
    ((horizon < end_in graph v a.step) × (steps' ≡ steps) × (levels' ≡ levels))
