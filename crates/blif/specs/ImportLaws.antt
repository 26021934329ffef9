-- Document 02, U3: what holds of the outcome of importing, for each thing that can be so of a text and a caller.
use Rattle.std.specs.Prelude.{ℕ, ◌+◌, ◌≤◌, ◌<◌, ◌≡◌, ◌⊎◌, List, length}
use Rattle.maps.specs.Lists.{All}
use Rattle.maps.specs.Sheet.{Sheet}
use Rattle.maps.specs.Write.{spelling}
use Rattle.maps.specs.Reading.{ReadsAs}
use Rattle.maps.specs.Outcome.{refusal, within}
use Rattle.blif.specs.Lines.{lines}
use Rattle.blif.specs.Words.{lines_of}
use Rattle.blif.specs.Subset.{Stage, first, last}
use Rattle.blif.specs.Names.{OutputName}
use Rattle.blif.specs.Limits.{Caller, text_most}
use Rattle.blif.specs.Model.{Model, empty}
use Rattle.blif.specs.Grounds.{Callable}
use Rattle.blif.specs.Faults.{Faultless, FirstFault, Answered, FirstUndefined}
use Rattle.blif.specs.Import.{importing}
use Rattle.blif.specs.Relations.{SheetOfText}

-- what is looked at first does not hold
abbrev pub Barred : (text : List ℕ) → Caller → Type 0
Barred text c = (Callable c → ⊥) ⊎ (text_most < length text)

-- the lines of the text are without fault, and lead to this stage and model
abbrev pub Reaches : (text : List ℕ) → Stage → Model → Type 0
Reaches text stage N = Faultless first empty (lines_of text) stage N

-- what can be so of a text and a caller
pub data Way (text : List ℕ) (c : Caller) : Type 0 where
  barred : Barred text c → Way text c
  faulty : Callable c → length text ≤ text_most → (k p : ℕ) → FirstFault first empty (lines_of text) k p → Way text c
  endless : Callable c → length text ≤ text_most → (stage : Stage) (N : Model) → Reaches text stage N → (stage ≡ last → ⊥) → Way text c
  undefined : Callable c → length text ≤ text_most → (N : Model) (o : OutputName) → Reaches text last N → FirstUndefined N.definitions N.outputs o → Way text c
  sheet : Callable c → length text ≤ text_most → (N : Model) → Reaches text last N → All (Answered N.definitions) N.outputs → Way text c

-- of any text, caller and buffer of `room` bytes
pub record ImportLaws (text : List ℕ) (c : Caller) (room : ℕ) : Type 0 where
  -- "0 for the caller's numbers (d among them) and for a longer text, also 11, both looked at first"
  pub barred : Barred text c → importing text c room ≡ refusal 11 0
  -- "the first faulty line decides, and on one line 9, 10, 11 in that order"
  pub faulty : Callable c → length text ≤ text_most → (k p : ℕ) → FirstFault first empty (lines_of text) k p → importing text c room ≡ refusal k p
  -- "A missing `.end` is 9, one line past the last"
  pub endless : Callable c → length text ≤ text_most → (stage : Stage) (N : Model) → Reaches text stage N → (stage ≡ last → ⊥)
      → importing text c room ≡ refusal 9 (length (lines text) + 1)
  -- "An undefined output is found last, at its `.outputs` line"
  pub undefined : Callable c → length text ≤ text_most → (N : Model) (o : OutputName) → Reaches text last N → FirstUndefined N.definitions N.outputs o
      → importing text c room ≡ refusal 10 o.line
  -- "The outcome is a sheet whose nodes are the model's, outputs marked, without differences", written where there is room, "and then 8"
  pub sheet : Callable c → length text ≤ text_most → (N : Model) → Reaches text last N → All (Answered N.definitions) N.outputs
      → (S : Sheet) × SheetOfText text c S × ReadsAs (spelling S) S × (importing text c room ≡ within room (spelling S))
  -- and one of these is so
  pub cases : Way text c
