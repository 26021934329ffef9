-- What the arrays of the search mean: the flow in `above`, the marks in `seen`, and what one search does to both.
-- above: a node that carries no unit of flow names itself, another the node from which its unit comes.
-- seen: at u that u is inside, at u + 256 that u was entered from above.
use Rattle.std.specs.Prelude.{◌≡◌, ◌⊎◌, List, [], ◌∷◌, ◌++◌, Bool, true, false, not, ◌&&◌, ℕ, zero, suc, ◌+◌, ◌≤◌, ◌<◌, length, get_or, count_by, eqb, ltb}
use Rattle.rows.specs.Cells.{cell, Ends}
use Rattle.rows.specs.Table.{count_in, operand_in, Falling}
use Rattle.flow.specs.declared.Code.{Code}
use Rattle.flow.specs.declared.Code.TheVariants.{Inner, Either, Outer, Barred}

-- ---- closed sets

-- a node of this code may be inside
abbrev pub may_inside : Code → Bool
may_inside Inner = true
may_inside Either = true
may_inside Outer = false
may_inside Barred = false

-- x may be a leaf; past the end of the table no node may
abbrev pub Leafy : List Code → ℕ → Type 0
Leafy code x = ((get_or code x Inner ≡ Inner) → ⊥) × ((get_or code x Inner ≡ Barred) → ⊥)

-- a closed set of nodes: its members are logic, and an operand of a member is a member or may be a leaf. A cone with allowed leaves is closed;
-- unlike in a cone a member need not have a path to v.
unfoldable pub Closed : List ℕ → List Code → (ℕ → Bool) → Type 0
Closed graph code C = (m : ℕ) → C m ≡ true → (m < 256) × (may_inside (get_or code m Inner) ≡ true) × ((j : ℕ) → j < count_in graph m → (C (operand_in graph m j) ≡ true) ⊎ Leafy code (operand_in graph m j))

-- some closed set holds u
pub record Inside (graph : List ℕ) (code : List Code) (u : ℕ) : Type 0 where
  pub members : ℕ → Bool
  pub closed : Closed graph code members
  pub holds : members u ≡ true

-- x is an operand of a member
unfoldable pub Touch : List ℕ → (ℕ → Bool) → ℕ → Type 0
Touch graph C x = (m : ℕ) × (j : ℕ) × (C m ≡ true) × (j < count_in graph m) × (operand_in graph m j ≡ x)

-- a leaf of C
unfoldable pub Leaf : List ℕ → (ℕ → Bool) → ℕ → Type 0
Leaf graph C x = (C x ≡ false) × Touch graph C x

-- every closed set that holds a holds p
unfoldable pub Under : List ℕ → List Code → ℕ → ℕ → Type 0
Under graph code a p = (C : ℕ → Bool) → Closed graph code C → C a ≡ true → C p ≡ true

-- every closed set that holds a holds x or has it for an operand of a member
unfoldable pub Link : List ℕ → List Code → ℕ → ℕ → Type 0
Link graph code a x = (C : ℕ → Bool) → Closed graph code C → C a ≡ true → (C x ≡ true) ⊎ Touch graph C x

-- ---- the flow

-- each node names a node that is no lower and linked to it; one that must be inside names itself, since units pass it without a limit
pub record Flow (graph : List ℕ) (code : List Code) (above : List ℕ) : Type 0 where
  pub above-len : length above ≡ 256
  pub low : (x : ℕ) → x < 256 → cell above x < 256
  pub rise : (x : ℕ) → x < 256 → x ≤ cell above x
  pub link : (x : ℕ) → x < 256 → Link graph code (cell above x) x
  pub still : (x : ℕ) → x < 256 → get_or code x Inner ≡ Inner → cell above x ≡ x

abbrev pub bit : Bool → ℕ
bit true = 1
bit false = 0

abbrev pub gate : Bool → ℕ → ℕ
gate true n = n
gate false n = 0

-- how many elements are u
unfoldable pub count : ℕ → List ℕ → ℕ
count u [] = 0
count u (a ∷ l) = bit (eqb a u) + count u l

-- a flow of value k from v: each node that some closed set holds is named once, and v k times more
pub record Valued (graph : List ℕ) (code : List Code) (above : List ℕ) (v k : ℕ) : Type 0 where
  pub flow : Flow graph code above
  pub once : (u : ℕ) → u < 256 → Inside graph code u → count u above ≡ 1 + gate (eqb v u) k

-- ---- the marks

abbrev pub Seen : List Bool → ℕ → Type 0
Seen s i = get_or s i false ≡ true

-- x is inside where it must be, else it was entered from above and may be a leaf or inside
unfoldable pub Entered : List Code → List Bool → ℕ → Type 0
Entered code s x = (get_or code x Inner ≡ Inner → Seen s x) × (((get_or code x Inner ≡ Inner) → ⊥) → Seen s (x + 256)) × ((get_or code x Inner ≡ Barred) → ⊥)

-- all that follows from u being inside is marked
pub record OutDone (graph : List ℕ) (code : List Code) (s : List Bool) (above : List ℕ) (u : ℕ) : Type 0 where
  pub inside : may_inside (get_or code u Inner) ≡ true
  pub operands : (j : ℕ) → j < count_in graph u → Entered code s (operand_in graph u j)
  pub back : ((cell above u ≡ u) → ⊥) → Seen s (u + 256)

-- what was marked between s and s' is done in s'
pub record NewDone (graph : List ℕ) (code : List Code) (s s' : List Bool) (above : List ℕ) : Type 0 where
  pub out : (u : ℕ) → u < 256 → get_or s u false ≡ false → Seen s' u → OutDone graph code s' above u
  pub inn : (u : ℕ) → u < 256 → get_or s (u + 256) false ≡ false → Seen s' (u + 256) → Seen s' (cell above u)

-- ---- one search

-- what a search starts from
pub record Startable (graph : List ℕ) (code : List Code) (seen : List Bool) (above : List ℕ) (p from : ℕ) : Type 0 where
  pub falling : Falling graph
  pub marks : length seen ≡ 512
  pub flow : Flow graph code above
  pub node : p < 256
  pub source : from < 256
  pub below : p ≤ from

-- a search that failed
pub record Blocked (graph : List ℕ) (code : List Code) (s s' : List Bool) (above above' : List ℕ) : Type 0 where
  pub same : above' ≡ above
  pub grow : (i : ℕ) → Seen s i → Seen s' i
  pub done : NewDone graph code s s' above
  pub fewer : count_by not s' ≤ count_by not s
  pub long : length s' ≡ length s

-- a search that succeeded: one unit more leaves `from`
pub record Pushed (graph : List ℕ) (code : List Code) (s : List Bool) (above above' : List ℕ) (from : ℕ) : Type 0 where
  pub flow : Flow graph code above'
  pub more : (u : ℕ) → u < 256 → Inside graph code u → count u above' ≡ count u above + bit (eqb from u)
  pub kept : (x : ℕ) → x < 256 → Seen s (x + 256) → cell above' x ≡ cell above x

-- how a search from `from` leaves the marks and the flow; X holds besides where it failed
abbrev pub Searched : Bool → (graph : List ℕ) (code : List Code) (s s' : List Bool) (above above' : List ℕ) → (from : ℕ) → Type 0 → Type 0
Searched r graph code s s' above above' from X = Ends r (Pushed graph code s above above' from) ((Blocked graph code s s' above above') × X)

-- ---- searches from v

-- the marks of a search that failed, under a flow of value f from v
pub record Settled (graph : List ℕ) (code : List Code) (s : List Bool) (above : List ℕ) (v f : ℕ) : Type 0 where
  pub value : Valued graph code above v f
  pub root : Seen s v
  pub done : (u : ℕ) → u < 256 → Seen s u → OutDone graph code s above u
  pub inn : (u : ℕ) → u < 256 → Seen s (u + 256) → Seen s (cell above u)

-- a flow of value r; where that is at most k no path augments it
pub record Augmented (graph : List ℕ) (code : List Code) (s : List Bool) (above : List ℕ) (v k r : ℕ) : Type 0 where
  pub most : r ≤ k + 1
  pub value : Valued graph code above v r
  pub settled : r ≤ k → Settled graph code s above v r

-- the nodes inside
unfoldable pub member : List Bool → ℕ → Bool
member s u = ltb u 256 && get_or s u false

-- x was entered and is not inside
abbrev pub leaf_mark : List Bool → ℕ → Bool
leaf_mark s x = not (member s x) && get_or s (x + 256) false

-- what one more search, from x on copies, does to the marks
pub data Turned (graph : List ℕ) (code : List Code) (s s' : List Bool) (above : List ℕ) (x : ℕ) : Type 0 where
  within : s' ≡ s → leaf_mark s x ≡ false → Turned graph code s s' above x
  held : s' ≡ s → (above' : List ℕ) → Pushed graph code s above above' x → Turned graph code s s' above x
  grown : Blocked graph code s s' above above → Seen s' x → Turned graph code s s' above x

-- no closed set with at most f leaves holds v and x
unfoldable pub Excluded : List ℕ → List Code → ℕ → ℕ → ℕ → Type 0
Excluded graph code v f x = (C : ℕ → Bool) → Closed graph code C → C v ≡ true → C x ≡ true → (L : List ℕ) → ((y : ℕ) → y < 256 → Leaf graph C y → 1 ≤ count y L) → f < length L

-- marks whose leaves no search takes inside, under a flow of value f from v
pub record Final (graph : List ℕ) (code : List Code) (s : List Bool) (above : List ℕ) (v f : ℕ) : Type 0 where
  pub settled : Settled graph code s above v f
  pub excluded : (x : ℕ) → x < 256 → Leaf graph (member s) x → Excluded graph code v f x

-- ---- the leaves in a list

abbrev pub single : Bool → ℕ → List ℕ
single true a = a ∷ []
single false a = []

-- the numbers below n that pass a test, rising
unfoldable pub rising : (ℕ → Bool) → ℕ → List ℕ
rising f zero = []
rising f (suc n) = rising f n ++ single (f n) n
