-- Which nodes are held in their step, over the tables, with the shift p; what the marks of held nodes mean, and what the functions on them answer.
use Rattle.std.specs.Prelude.{ℕ, ◌+◌, ◌≤◌, ◌<◌, ◌≡◌, Bool, true, false, not, List, ◌⊎◌, count_by, length, get_or, set}
use Rattle.rows.specs.Table.{count_in, operand_in, latency_in, from_in, to_in, plus_in, minus_in}
use Rattle.rows.specs.Cells.{Ends}

-- the ready step of operand j of v is at most the shift before v's step
abbrev pub Close : (graph steps : List ℕ) (p v j : ℕ) → Type 0
Close graph steps p v j = get_or steps v 0 ≤ get_or steps (operand_in graph v j) 0 + latency_in graph (operand_in graph v j) + p

-- difference i has no spare shift
abbrev pub Tight : (differences steps : List ℕ) (p i : ℕ) → Type 0
Tight differences steps p i =
    get_or steps (to_in differences i) 0 + minus_in differences i < get_or steps (from_in differences i) 0 + plus_in differences i + p

-- the least held set of n nodes and m differences: a node of a step below the shift, and a node that a held operand or a held difference leaves no
-- spare shift; nothing else. It is `Held` of the sheet in the tables (`held-in`, `in_held`)
pub data HeldIn (graph differences steps : List ℕ) (p n m : ℕ) : ℕ → Type 0 where
  early-in : (v : ℕ) → v < n → get_or steps v 0 < p → HeldIn graph differences steps p n m v
  operand-in : (v j : ℕ) → v < n → j < count_in graph v → HeldIn graph differences steps p n m (operand_in graph v j) → Close graph steps p v j → HeldIn graph differences steps p n m v
  target-in : (i : ℕ) → i < m → to_in differences i < n → HeldIn graph differences steps p n m (from_in differences i) → Tight differences steps p i → HeldIn graph differences steps p n m (to_in differences i)

-- some node floats: it is held by nothing; or every node is held
abbrev pub Floats : (graph differences steps : List ℕ) (p n m : ℕ) → Bool → Type 0
Floats graph differences steps p n m r =
    Ends r ((v : ℕ) × (v < n) × (HeldIn graph differences steps p n m v → ⊥)) ((v : ℕ) → v < n → HeldIn graph differences steps p n m v)

-- v is marked
abbrev pub held_in : List Bool → ℕ → Bool
held_in held v = get_or held v false

-- every marked node is held
abbrev pub OnlyHeld : (graph differences steps : List ℕ) (held : List Bool) (p n m : ℕ) → Type 0
OnlyHeld graph differences steps held p n m = (v : ℕ) → held_in held v ≡ true → HeldIn graph differences steps p n m v

-- of n nodes those of a step below the shift are marked, and no other
pub record HeldEarly (steps : List ℕ) (held : List Bool) (p n : ℕ) : Type 0 where
  pub wide : length held ≡ 256
  pub early : (v : ℕ) → v < n → get_or steps v 0 < p → held_in held v ≡ true
  pub only : (v : ℕ) → held_in held v ≡ true → (v < n) × (get_or steps v 0 < p)

-- what was marked still is
pub record More (held more : List Bool) : Type 0 where
  pub wide : length more ≡ length held
  pub still : (v : ℕ) → held_in held v ≡ true → held_in more v ≡ true

-- operand j of v is marked and holds v
pub record Near (graph steps : List ℕ) (held : List Bool) (p v j : ℕ) : Type 0 where
  pub holds : held_in held (operand_in graph v j) ≡ true
  pub close : Close graph steps p v j

-- a marked operand holds v, or none does
abbrev pub ByOperand : (graph steps : List ℕ) (held : List Bool) (p v : ℕ) → Bool → Type 0
ByOperand graph steps held p v r =
    Ends r ((j : ℕ) × (j < count_in graph v) × Near graph steps held p v j) ((j : ℕ) → j < count_in graph v → Near graph steps held p v j → ⊥)

-- difference i has a marked source and no spare shift
pub record Ties (differences steps : List ℕ) (held : List Bool) (p i : ℕ) : Type 0 where
  pub holds : held_in held (from_in differences i) ≡ true
  pub tight : Tight differences steps p i

-- difference i, one of m, has a marked source and leaves its target v no spare shift
pub record Tied (differences steps : List ℕ) (held : List Bool) (p m v i : ℕ) : Type 0 where
  pub within : i < m
  pub into : to_in differences i ≡ v
  pub ties : Ties differences steps held p i

-- a difference from a marked node holds v, or none does
abbrev pub ByDifference : (differences steps : List ℕ) (held : List Bool) (p m v : ℕ) → Bool → Type 0
ByDifference differences steps held p m v r = Ends r ((i : ℕ) × Tied differences steps held p m v i) ((i : ℕ) → Tied differences steps held p m v i → ⊥)

-- a marked operand or a difference from a marked node holds v
abbrev pub Holdable : (graph differences steps : List ℕ) (held : List Bool) (p m v : ℕ) → Type 0
Holdable graph differences steps held p m v =
    ((j : ℕ) × (j < count_in graph v) × Near graph steps held p v j) ⊎ ((i : ℕ) × Tied differences steps held p m v i)

-- v is marked anew, or nothing changes since v is marked or nothing holds it
abbrev pub NodeHeld : (graph differences steps : List ℕ) (held more : List Bool) (p m v : ℕ) → Bool → Type 0
NodeHeld graph differences steps held more p m v r =
    Ends r ((held_in held v ≡ false) × Holdable graph differences steps held p m v × (more ≡ set held v true))
    ((Holdable graph differences steps held p m v → held_in held v ≡ true) × (more ≡ held))

-- something new is marked, or the marks are as they were
abbrev pub Marked : (held more : List Bool) → Bool → Type 0
Marked held more true = More held more × (count_by not more < count_by not held)
Marked held more false = more ≡ held

-- of n nodes those from low up to high have had their turn: r tells whether something is marked since; only what is held is; and where nothing
-- is, nothing more of these nodes can be held
pub record Swept (graph differences steps : List ℕ) (held more : List Bool) (p n m low high : ℕ) (r : Bool) : Type 0 where
  pub marked : Marked held more r
  pub closed : r ≡ false → (v : ℕ) → low ≤ v → v < high → Holdable graph differences steps more p m v → held_in more v ≡ true
  pub only : OnlyHeld graph differences steps held p n m → OnlyHeld graph differences steps more p n m

-- each of n nodes is marked, or one is not
abbrev pub AllMarked : (held : List Bool) (n : ℕ) → Bool → Type 0
AllMarked held n r = Ends r ((v : ℕ) → v < n → held_in held v ≡ true) ((v : ℕ) × (v < n) × (held_in held v ≡ false))
