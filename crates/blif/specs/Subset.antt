-- Document 02, U3, the subset: what each line may say, and where it may stand. Ground 9: "a line outside the subset or a row of wrong width".
use Rattle.std.specs.Prelude.{ℕ, zero, suc, Bool, cond, ◌&&◌, ◌||◌, List, [], ◌∷◌, eqb, length}
use Rattle.maps.specs.Lists.{all}
use Rattle.blif.specs.Words.{Word, is}

-- where a line stands
pub data Stage : Type 0 where
  -- before `.model`, which "comes first"
  first : Stage
  -- "`.inputs` and `.outputs` .. before any `.names` or `.latch`"
  head : Stage
  -- after a `.names` of so many inputs, and its rows so far
  cover : (inputs : ℕ) → Stage
  -- after a `.latch`
  latched : Stage
  -- after `.end`, which comes "last"
  last : Stage

-- what a line says
pub data Statement : Type 0 where
  model : (name : Word) → Statement
  inputs : (names : List Word) → Statement
  outputs : (names : List Word) → Statement
  names : (operands : List Word) → (output : Word) → Statement
  row : Statement
  latch : (from to : Word) → Statement
  end : Statement
  outside : Statement

-- "`.model` with one name"
abbrev pub model_line : List Word → Statement
model_line [] = outside
model_line (w ∷ []) = model w
model_line (w ∷ x ∷ ws) = outside

abbrev pub init_of : Word → List Word → List Word
init_of w [] = []
init_of w (x ∷ ws) = w ∷ init_of x ws

abbrev pub last_of : Word → List Word → Word
last_of w [] = w
last_of w (x ∷ ws) = last_of x ws

-- `.names`: its inputs, and last its output
abbrev pub names_line : List Word → Statement
names_line [] = outside
names_line (w ∷ ws) = names (init_of w ws) (last_of w ws)

-- "an initial value from 0 to 3"
abbrev pub initial : Word → Bool
initial w = is "0" w || is "1" w || is "2" w || is "3" w

-- "A `.latch` has its input, its output and at most an initial value"
abbrev pub latch_line : List Word → Statement
latch_line [] = outside
latch_line (w ∷ []) = outside
latch_line (w ∷ x ∷ []) = latch w x
latch_line (w ∷ x ∷ v ∷ []) = cond (initial v) (latch w x) outside
latch_line (w ∷ x ∷ v ∷ y ∷ ws) = outside

abbrev pub end_line : List Word → Statement
end_line [] = end
end_line (w ∷ ws) = outside

-- "a 0, 1 or - for each input": bytes 48, 49, 45
abbrev pub literals : (inputs : ℕ) → Word → Bool
literals n w = eqb (length w) n && all (λ b. eqb b 48 || eqb b 49 || eqb b 45) w

abbrev pub bit : Word → Bool
bit w = is "0" w || is "1" w

-- "a row is a 0, 1 or - for each input, then 0 or 1 as its own word": with no input, that word alone
abbrev pub row_line : (inputs : ℕ) → List Word → Statement
row_line zero [] = outside
row_line zero (w ∷ []) = cond (bit w) row outside
row_line zero (w ∷ x ∷ ws) = outside
row_line (suc n) [] = outside
row_line (suc n) (w ∷ []) = outside
row_line (suc n) (w ∷ x ∷ []) = cond (literals (suc n) w && bit x) row outside
row_line (suc n) (w ∷ x ∷ y ∷ ws) = outside

-- a line that may stand from the head on, or else `other`
abbrev pub body_line : Word → List Word → (other : Statement) → Statement
body_line w ws other = cond (is ".names" w) (names_line ws) (cond (is ".latch" w) (latch_line ws) (cond (is ".end" w) (end_line ws) other))

-- "`.model` .. comes first, `.inputs` and `.outputs`, each with any number of names, in any number and order, before any `.names` or `.latch`,
-- `.end` last". Directives are case-sensitive; any word may be a name.
unfoldable pub statement : Stage → List Word → Statement
statement at [] = outside
statement first (w ∷ ws) = cond (is ".model" w) (model_line ws) outside
statement head (w ∷ ws) = cond (is ".inputs" w) (inputs ws) (cond (is ".outputs" w) (outputs ws) (body_line w ws outside))
statement (cover n) (w ∷ ws) = body_line w ws (row_line n (w ∷ ws))
statement latched (w ∷ ws) = body_line w ws outside
statement last (w ∷ ws) = outside

-- where the line after stands
abbrev pub stage_after : Stage → Statement → Stage
stage_after at (model n) = head
stage_after at (inputs ns) = head
stage_after at (outputs ns) = head
stage_after at (names us o) = cover (length us)
stage_after at row = at
stage_after at (latch i o) = latched
stage_after at end = last
stage_after at outside = at
