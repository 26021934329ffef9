-- Document 02, U3: the model of a text, or the first faulty line. "the first faulty line decides, and on one line 9, 10, 11 in that order".
use Rattle.std.specs.Prelude.{ℕ, zero, suc, ◌+◌, Bool, true, false, cond, not, List, [], ◌∷◌, ◌++◌, length}
use Rattle.blif.specs.Lines.{lines}
use Rattle.blif.specs.Words.{Line, lines_of}
use Rattle.blif.specs.Subset.{Stage, first, head, cover, latched, last, Statement, model, inputs, outputs, names, row, latch, end, outside, statement, stage_after}
use Rattle.blif.specs.Names.{Definition, defined, names_of, OutputName, output_names, resolves}
use Rattle.blif.specs.Limits.{within_limits}

-- the definitions in the text's order, and the names put out
pub record Model : Type 0 where
  pub definitions : List Definition
  pub outputs : List OutputName

abbrev pub empty : Model
empty = record { definitions = []; outputs = [] }

-- the model with what the line `at` says: "Nodes are numbered in the order in which their names are defined"
abbrev pub extend : Model → (at : ℕ) → Statement → Model
extend M at s = record { definitions = M.definitions ++ defined s; outputs = M.outputs ++ output_names at s }

abbrev pub is_outside : Statement → Bool
is_outside (model n) = false
is_outside (inputs ns) = false
is_outside (outputs ns) = false
is_outside (names us o) = false
is_outside row = false
is_outside (latch i o) = false
is_outside end = false
is_outside outside = true

-- the ground on which a line is faulty after the model so far, or 0: "on one line 9, 10, 11 in that order"
abbrev pub fault : Model → Statement → ℕ
fault M s =
    cond (is_outside s) 9 (cond (not (resolves (names_of M.definitions) (defined s))) 10 (cond (within_limits (length M.definitions) s) 0 11))

pub data Found : Type 0 where
  found : Model → Found
  faulty : (number place : ℕ) → Found

-- "A missing `.end` is 9, one line past the last": here at `past`
abbrev pub ended : (past : ℕ) → Stage → Model → Found
ended past first M = faulty 9 past
ended past head M = faulty 9 past
ended past (cover n) M = faulty 9 past
ended past latched M = faulty 9 past
ended past last M = found M

-- a line is refused on its ground, or else the lines after it decide
abbrev pub judged : (refused place : ℕ) → (rest : Found) → Found
judged zero place rest = rest
judged (suc k) place rest = faulty (suc k) place

-- the lines one after the other, from a stage and a model on: "the first faulty line decides"
unfoldable pub model_from : (past : ℕ) → Stage → Model → List Line → Found
unfolding statement
model_from past at M [] = ended past at M
model_from past at M (l ∷ ls) =
    judged (fault M (statement at l.words)) l.number
    (model_from past (stage_after at (statement at l.words)) (extend M l.number (statement at l.words)) ls)

-- the model of a text
unfoldable pub model_of : (text : List ℕ) → Found
unfolding lines lines_of model_from
model_of text = model_from (length (lines text) + 1) first empty (lines_of text)
