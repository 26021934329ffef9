-- Document 02, U3, of one call of the importer: the text, the caller's numbers, the buffer as it was lent and as it is after the call, and the number
-- and place that are answered. What a line says, on which ground it is refused and what the sheet of a text is are relations of `crates/blif/specs`.
use Rattle.std.specs.Prelude.{ℕ, ◌+◌, ◌≤◌, ◌<◌, ◌≡◌, List, ◌⊎◌, length, take}
use Rattle.maps.specs.Lists.{All}
use Rattle.maps.specs.Sheet.{Sheet}
use Rattle.maps.specs.Write.{spelling}
use Rattle.maps.specs.Reading.{ReadsAs}
use Rattle.blif.specs.Lines.{lines}
use Rattle.blif.specs.Words.{lines_of}
use Rattle.blif.specs.Subset.{Stage, first, last}
use Rattle.blif.specs.Names.{OutputName}
use Rattle.blif.specs.Limits.{Caller, text_most}
use Rattle.blif.specs.Model.{Model, empty}
use Rattle.blif.specs.Grounds.{Callable}
use Rattle.blif.specs.Faults.{FirstFault, Answered, FirstUndefined}
use Rattle.blif.specs.Relations.{SheetOfText}
use Rattle.blif.specs.ImportLaws.{Reaches, Way}
use Rattle.demands.specs.Answers.{Written, Refused}
use Rattle.demands.specs.Stores.{maps_sheet_most}

module _ (text : List ℕ) (c : Caller) (buffer : List ℕ) (number place : ℕ) (after : List ℕ) where
  -- "The outcome is a sheet whose nodes are the model's, outputs marked, without differences": its spelling reads, and is written where the buffer is
  -- long enough; otherwise "8"
  pub record Imported (S : Sheet) : Type 0 where
    pub of-text : SheetOfText text c S
    pub reads : ReadsAs (spelling S) S
    pub written : length (spelling S) ≤ length buffer → Written buffer number place after (spelling S)
    pub short : length buffer < length (spelling S) → Refused buffer number place after 8 (length (spelling S))

  pub record Imports : Type 0 where
    -- "11 a limit (.. d above T, caller's numbers out of range)", "0 for the caller's numbers (d among them)", "looked at first"
    pub caller : (Callable c → ⊥) → Refused buffer number place after 11 0
    -- "one model of at most 65,536 bytes"; "0 .. for a longer text, also 11", "looked at first"
    pub longer : text_most < length text → Refused buffer number place after 11 0
    -- "the first faulty line decides, and on one line 9, 10, 11 in that order. Place: the line"
    pub faulty : Callable c → length text ≤ text_most → (k p : ℕ) → FirstFault first empty (lines_of text) k p → Refused buffer number place after k p
    -- "A missing `.end` is 9, one line past the last"
    pub endless : Callable c → length text ≤ text_most → (stage : Stage) (N : Model) → Reaches text stage N → (stage ≡ last → ⊥)
        → Refused buffer number place after 9 (length (lines text) + 1)
    -- "10 a name .. put out without definition", "An undefined output is found last, at its `.outputs` line"
    pub undefined : Callable c → length text ≤ text_most → (N : Model) (o : OutputName) → Reaches text last N
        → FirstUndefined N.definitions N.outputs o → Refused buffer number place after 10 o.line
    -- "The outcome is a sheet ..", "and then 8"
    pub sheet : Callable c → length text ≤ text_most → (N : Model) → Reaches text last N → All (Answered N.definitions) N.outputs
        → (S : Sheet) × Imported S
    -- one of these is so
    pub either : Way text c
    -- where the number is 0, what stands in the buffer reads as a sheet of the text
    pub again : number ≡ 0 → (S : Sheet) × SheetOfText text c S × ReadsAs (take place after) S
    -- any other number leaves the buffer
    pub untouched : (number ≡ 0 → ⊥) → after ≡ buffer
    -- "Place: the line, from 1": where the caller's numbers and the text's length are not at fault, 9, 10 and 11 stand at a line or one past the last
    pub line : Callable c → length text ≤ text_most → 9 ≤ number → (1 ≤ place) × (place ≤ length (lines text) + 1)

-- what number and place can be, for a buffer of `room` bytes: that many are enough for every sheet
pub record ImportBounded (room number place : ℕ) : Type 0 where
  pub numbers : (number ≡ 0) ⊎ ((number ≡ 8) ⊎ ((number ≡ 9) ⊎ ((number ≡ 10) ⊎ (number ≡ 11))))
  pub written : number ≡ 0 → place ≤ maps_sheet_most
  pub wanted : number ≡ 8 → place ≤ maps_sheet_most
  pub enough : maps_sheet_most ≤ room → number ≡ 8 → ⊥
  -- 9 and 10 stand at a line
  pub line : (number ≡ 9) ⊎ (number ≡ 10) → 1 ≤ place
