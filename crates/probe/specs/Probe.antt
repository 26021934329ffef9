-- What a question about cuts answers, on every input.
use Rattle.std.specs.Prelude.{ℕ, ◌+◌, ◌-◌, ◌≤◌, ◌<◌, ◌≡◌, Bool, true, false, not, List, ◌++◌, eqb, length, get_or, replicate}
use Rattle.maps.specs.Sheet.{Sheet, size, is_logic}
use Rattle.maps.specs.Cut.{logic_node}
use Rattle.maps.specs.Read.{parse, sheet}
use Rattle.rows.specs.Table.{kind_at, Falling}
use Rattle.cut.specs.Question.{code_for, AllowedCut, Best, Asked}
use Rattle.flow.specs.declared.Code.{Code}
use Rattle.flow.specs.declared.Code.TheVariants.{Inner}

-- u is allowed: its byte is not 0
abbrev pub allowed_in : (allowed : List ℕ) → ℕ → Bool
allowed_in allowed u = not (eqb (get_or allowed u 0) 0)

-- the codes of the nodes below v, by their kind in the table and whether they are allowed, and of v
pub record Coded (graph allowed : List ℕ) (code : List Code) (v : ℕ) : Type 0 where
  pub below : (u : ℕ) → u < v → get_or code u Inner ≡ code_for (is_logic (kind_at graph u)) (allowed_in allowed u)
  pub own : get_or code v Inner ≡ Inner

-- v is a logic node of the sheet in the bytes, and k is at most 6
pub record Asks (bytes : List ℕ) (v k : ℕ) (S : Sheet) : Type 0 where
  pub reads : parse bytes ≡ sheet S
  pub node : v < size S
  pub logic : logic_node S v ≡ true
  pub small : k ≤ 6

-- what a question that is answered rests on: the sheet's table and the codes; and a question outside the sheet
abbrev pub Prepared : Bool → (bytes allowed : List ℕ) → (v k : ℕ) → (graph : List ℕ) (code : List Code) → Type 0
Prepared true bytes allowed v k graph code = (S : Sheet) × Asks bytes v k S × Asked S (allowed_in allowed) v graph code × Falling graph
Prepared false bytes allowed v k graph code = (S : Sheet) → Asks bytes v k S → ⊥

-- every allowed cut of v has more than k leaves, or there is none
abbrev pub NoneWithin : (S : Sheet) (may : ℕ → Bool) (v k : ℕ) → Type 0
NoneWithin S may v k = (c : List ℕ) → AllowedCut S may v c → k < length c

-- whether v has an allowed cut of at most k leaves: 1 where it has, 0 where it has none, 255 where the question is outside the sheet.
-- There is one such answer (`has-unique`)
pub data HasCut (bytes allowed : List ℕ) (v k r : ℕ) : Type 0 where
  has : (S : Sheet) → Asks bytes v k S → (c : List ℕ) → AllowedCut S (allowed_in allowed) v c → length c ≤ k → r ≡ 1 → HasCut bytes allowed v k r
  lacks : (S : Sheet) → Asks bytes v k S → NoneWithin S (allowed_in allowed) v k → r ≡ 0 → HasCut bytes allowed v k r
  unasked : ((S : Sheet) → Asks bytes v k S → ⊥) → r ≡ 255 → HasCut bytes allowed v k r

-- the leaves, and 0 after them, eight numbers in all
abbrev pub padded : List ℕ → List ℕ
padded c = c ++ replicate (8 - length c) 0

-- the chosen one of the allowed cuts of v: its number of leaves, and in the list its leaves and 0 after them; k + 1 where every allowed cut
-- has more than k leaves, and 255 where the question is outside the sheet, and the list as it was. There is one such answer and list
-- (`cut-unique`)
pub data CutAnswer (bytes allowed : List ℕ) (v k : ℕ) (list : List ℕ) (r : ℕ) (list' : List ℕ) : Type 0 where
  chosen : (S : Sheet) → Asks bytes v k S → (c : List ℕ) → Best S (allowed_in allowed) v c → length c ≤ k → r ≡ length c → list' ≡ padded c → CutAnswer bytes allowed v k list r list'
  none : (S : Sheet) → Asks bytes v k S → NoneWithin S (allowed_in allowed) v k → r ≡ k + 1 → list' ≡ list → CutAnswer bytes allowed v k list r list'
  outside : ((S : Sheet) → Asks bytes v k S → ⊥) → r ≡ 255 → list' ≡ list → CutAnswer bytes allowed v k list r list'
