-- What reading a line, and all lines, comes to.
use Rattle.std.specs.Prelude.{ℕ, ◌+◌, ◌≡◌, Bool, true, false, List, Result, Ok, Err, length, take}
use Rattle.types.specs.Code.{number_of, place_of}
use Rattle.types.specs.declared.Refusal.{Refusal}
use Rattle.blif.specs.Lines.{lines}
use Rattle.blif.specs.Words.{Line, with_words}
use Rattle.blif.specs.Scan.{newlines, words_at}
use Rattle.blif.specs.Subset as S
use Rattle.blif.specs.Model.{Model, Found, found, faulty, ended, model_from, model_of}
use Rattle.subset.specs.declared.Stage.{Stage}
use Rattle.subset.specs.Meant.{stage_meant}
use Rattle.definitions.specs.Kept.{KeptIn}
use Rattle.definitions.specs.declared.Circuit.{Circuit}

-- the stage is the one after `.end`, as the test says
abbrev pub LastStage : S.Stage → Bool → Type 0
LastStage g true = g ≡ S.last
LastStage g false = g ≡ S.last → ⊥

module _ (text : List ℕ) (d : ℕ) where
  -- the model that the line at a position and the lines after it lead to
  abbrev pub line_then : (at : ℕ) → Stage → Model → (past : ℕ) → List Line → Found
  line_then at stage M past ls = model_from past (stage_meant stage) M (with_words (1 + newlines (take at text)) (words_at text at) ls)

  -- the line was read after the model M: the lines after it go on from what is kept, or it is refused whatever follows
  abbrev pub Turned : (at : ℕ) → Stage → Model → Circuit → Result Stage Refusal → Type 0
  Turned at stage M c (Ok next) =
      (N : Model) × KeptIn d N.definitions c
      × ((past : ℕ) (ls : List Line) → line_then at stage M past ls ≡ model_from past (stage_meant next) N ls)
  Turned at stage M c (Err w) = (past : ℕ) (ls : List Line) → line_then at stage M past ls ≡ faulty (number_of w) (place_of w)

  -- all lines were read, or one was refused
  abbrev pub LinesRead : Circuit → Result Stage Refusal → Type 0
  LinesRead c (Ok stage) = (N : Model) × KeptIn d N.definitions c × (model_of text ≡ ended (length (lines text) + 1) (stage_meant stage) N)
  LinesRead c (Err w) = model_of text ≡ faulty (number_of w) (place_of w)

  -- the model of the text is kept, or the first fault is told
  abbrev pub ModelRead : Circuit → Result (Unit {0}) Refusal → Type 0
  ModelRead c (Ok _) = (N : Model) × KeptIn d N.definitions c × (model_of text ≡ found N)
  ModelRead c (Err w) = model_of text ≡ faulty (number_of w) (place_of w)
