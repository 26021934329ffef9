-- Document 02, U5: "A sheet rewritten with every q = 0 keeps its plan." U8: "With P = 1 and no entries a sheet keeps its plan."
use Rattle.std.specs.Prelude.{ℕ, ◌≡◌, List, length}
use Rattle.maps.specs.Number.{Bytes}
use Rattle.maps.specs.Sheet.{Sheet}
use Rattle.maps.specs.Read.{sheet}
use Rattle.maps.specs.Write.{spelling}
use Rattle.out_bytes.specs.Outcome.{Answered}
use Rattle.former.specs.Former.{former_parse, unwindowed_parse, former_outcome, unwindowed_outcome}
use Rattle.former.specs.Rewritten.{Rewritten, Unwindowed, Keeps, KeepsReady}

module _ (bytes buffer : List ℕ) (number place : ℕ) (after : List ℕ) where
  -- where the sheet is one of document 01's form, rewritten with q = 0 in every node, P = 1 and no entries: number, place and every byte of the buffer
  -- are those of planning the sheet in that form; both read as one sheet, whose legal labellings and ready labels are those of that form
  pub record FormerKept : Type 0 where
    pub kept : (old : List ℕ) → Rewritten old bytes → Answered (former_outcome old (length buffer)) number place buffer after
    pub same : (old : List ℕ) (r : Rewritten old bytes) → Keeps former_parse old bytes r.held × KeepsReady r.held
    -- and every sheet of that form that reads can be rewritten so
    pub rewritable : (old : List ℕ) (S : Sheet) → Bytes old → former_parse old ≡ sheet S → (r : Rewritten old (spelling S)) × (r.held ≡ S)

  -- the same of the form before U8, which has q, rewritten with P = 1 and no entries
  pub record UnwindowedKept : Type 0 where
    pub kept : (old : List ℕ) → Unwindowed old bytes → Answered (unwindowed_outcome old (length buffer)) number place buffer after
    pub same : (old : List ℕ) (r : Unwindowed old bytes) → Keeps unwindowed_parse old bytes r.held
    pub rewritable : (old : List ℕ) (S : Sheet) → Bytes old → unwindowed_parse old ≡ sheet S → (r : Unwindowed old (spelling S)) × (r.held ≡ S)
