-- What stands in the arrays of the labelling.
use Rattle.std.specs.Prelude.{ℕ, zero, suc, ◌+◌, ◌*◌, ◌≤◌, ◌<◌, ◌≡◌, cond, List, map, ◌⊎◌, eqb, length, get_or}
use Rattle.maps.specs.Label.{Label, label, plus, ready}
use Rattle.maps.specs.Lists.{below}
use Rattle.rows.specs.Table.{latency_in, clock_in, to_in}

-- the label of v
abbrev pub label_in : (steps levels : List ℕ) → ℕ → Label
label_in steps levels v = label (get_or steps v 0) (get_or levels v 0)

-- the labels of n nodes
abbrev pub labels_in : (n : ℕ) (steps levels : List ℕ) → List Label
labels_in n steps levels = map (label_in steps levels) (below n)

-- the label at which u arrives at a node of the given delay
unfoldable pub arrival_in : (graph steps levels : List ℕ) (top delay u : ℕ) → Label
arrival_in graph steps levels top delay u = plus top (ready (latency_in graph u) (clock_in graph u) (label_in steps levels u)) delay

-- steps of the code's lie below this, so that a shift, or a period and what lies before a window in it, can be added in 32 bits
abbrev pub step_limit : ℕ
step_limit = 4294967040

-- the step at which u is ready is a number of the code's
abbrev pub Soon : (graph steps : List ℕ) → ℕ → Type 0
Soon graph steps u = get_or steps u 0 + latency_in graph u < step_limit

-- the row of v in a table of cuts: eight numbers, the count first, then the leaves
abbrev pub cut_stride : ℕ
cut_stride = 8

abbrev pub leaf_column : ℕ
leaf_column = 1

abbrev pub count_of : List ℕ → ℕ → ℕ
count_of cuts v = get_or cuts (v * cut_stride) 0

abbrev pub leaf_of : List ℕ → ℕ → ℕ → ℕ
leaf_of cuts v j = get_or cuts (v * cut_stride + leaf_column + j) 0

-- the cut in the row of v is c
pub record Row (kept : List ℕ) (v : ℕ) (c : List ℕ) : Type 0 where
  pub count : count_of kept v ≡ length c
  pub leaves : (j : ℕ) → j < length c → leaf_of kept v j ≡ get_or c j 0

-- only the row of v differs
abbrev pub Beside : (v : ℕ) (kept more : List ℕ) → Type 0
Beside v kept more = (i : ℕ) → (i < v * cut_stride) ⊎ (v * cut_stride + cut_stride ≤ i) → get_or more i 0 ≡ get_or kept i 0

-- the last of the first k differences that has the target v, counted from 1; 0 where there is none
unfoldable pub last_into : (differences : List ℕ) → ℕ → ℕ → ℕ
last_into d zero v = 0
last_into d (suc k) v = cond (eqb (to_in d k) v) (suc k) (last_into d k v)

-- lists of the differences by their target
pub record Linked (differences : List ℕ) (m : ℕ) (first next : List ℕ) : Type 0 where
  pub heads : (v : ℕ) → v < 256 → get_or first v 0 ≡ last_into differences m v
  pub nexts : (i : ℕ) → i < m → get_or next i 0 ≡ last_into differences i (to_in differences i)

-- the list of v is not empty: the differences into v are heeded
abbrev pub Heeded : (first : List ℕ) → ℕ → Type 0
Heeded first v = 0 < get_or first v 0

-- the same lists for some nodes; those of the others are empty
pub record Heeding (differences : List ℕ) (m : ℕ) (first next : List ℕ) : Type 0 where
  pub heads : (v : ℕ) → v < 256 → Heeded first v → get_or first v 0 ≡ last_into differences m v
  pub nexts : (i : ℕ) → i < m → get_or next i 0 ≡ last_into differences i (to_in differences i)
