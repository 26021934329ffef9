-- Document 02, U3: the grounds on which a line is refused, and what is asked of the caller's numbers, said apart from how they are found.
-- `proofs/GroundsOf.antt`: `fault` finds exactly these grounds.
use Rattle.std.specs.Prelude.{ℕ, ◌+◌, ◌≤◌, ◌<◌, ◌≡◌, ◌⊎◌, length}
use mathlib.Core.List.{List, [], ◌∷◌, ◌++◌, Memᴰ}
use Rattle.maps.specs.Limits.{leaves_range, top_range, horizon_range, size_range, operands_most}
use Rattle.maps.specs.WellFormed.{Within}
use Rattle.blif.specs.Words.{Word}
use Rattle.blif.specs.Subset.{Stage, Statement, end}
use Rattle.blif.specs.Grammar.{Means}
use Rattle.blif.specs.Names.{Definition, defined, names_of}
use Rattle.blif.specs.Limits.{name_most, named, Caller, delay}
use Rattle.blif.specs.Model.{Model}

-- 10 of a line that says s after the model M: "a name read before it is defined, defined twice"
pub data NameFault (M : Model) (s : Statement) : Type 0 where
  -- a definition of the line reads a name that no earlier line defines
  early : (d : Definition) (w : Word) → Memᴰ d (defined s) → Memᴰ w d.reads → (Memᴰ w (names_of M.definitions) → ⊥) → NameFault M s
  -- the line defines a name that an earlier line defines, or that it has defined before
  twice : (before after : List Word) (w : Word) → names_of (defined s) ≡ before ++ (w ∷ after)
      → Memᴰ w (names_of M.definitions) ⊎ Memᴰ w before → NameFault M s

-- 11 of a line that says s after the model M: "a limit (256 nodes, 6 operands, names of 31 bytes ..)"
pub data LimitFault (M : Model) (s : Statement) : Type 0 where
  long-name : (w : Word) → Memᴰ w (named s) → name_most < length w → LimitFault M s
  many-operands : (d : Definition) → Memᴰ d (defined s) → operands_most < length d.reads → LimitFault M s
  many-nodes : size_range.high < length M.definitions + length (defined s) → LimitFault M s
  -- "A model without nodes is 11 at `.end`"
  no-nodes : s ≡ end → M.definitions ≡ [] → LimitFault M s

-- the ground on which a line of these words is refused: "on one line 9, 10, 11 in that order"
pub data GroundOf (at : Stage) (M : Model) (ws : List Word) : ℕ → Type 0 where
  -- 9, "a line outside the subset or a row of wrong width"
  by_form : ((s : Statement) → Means at ws s → ⊥) → GroundOf at M ws 9
  by_name : (s : Statement) → Means at ws s → NameFault M s → GroundOf at M ws 10
  by-limit : (s : Statement) → Means at ws s → (NameFault M s → ⊥) → LimitFault M s → GroundOf at M ws 11

-- a line of these words says s, and there is no ground to refuse it
pub record Right (at : Stage) (M : Model) (ws : List Word) (s : Statement) : Type 0 where
  pub form : Means at ws s
  pub names : NameFault M s → ⊥
  pub limits : LimitFault M s → ⊥

-- the caller's numbers: in their ranges, "both at least 1", and d not above T
pub record Callable (c : Caller) : Type 0 where
  pub leaves : Within leaves_range c.leaves
  pub top : Within top_range c.top
  pub horizon : Within horizon_range c.horizon
  pub table : 1 ≤ c.table
  pub level : 1 ≤ c.level
  pub delay : delay c ≤ c.top
