-- What each part of the importing call says of the defined outcome.
use Prim.Native.Nat.{ℕ, ◌≤◌, ◌<◌}
use mathlib.Core.Path.{◌≡◌, refl, sym, subst, ap, ◌∙◌}
use mathlib.Core.Bool.{true, false, ◌&&◌}
use mathlib.Core.List.{List, []}
use native.Mathlib.Omega.{arith}
use Rattle.std.specs.Prelude.{Ok, Err}
use lib.ListN.{length, take, replicate, length-replicate}
use borrow.Author.Tests.{le-leb, lt-leb}
use Rattle.maps.specs.Outcome as Maps
use Rattle.maps.specs.Outcome.{refusal}
use Rattle.maps.specs.Records.{Records}
use Rattle.maps.specs.Write.{writing}
use Rattle.types.specs.Code.{number_of, place_of}
use Rattle.types.specs.declared.Refusal.{Refusal}
use Rattle.records.specs.Rows.{node_place, records_in}
use Rattle.out_bytes.specs.Outcome.{Answered}
use Rattle.blif.specs.Limits.{Caller, delay, callable, text_most, short}
use Rattle.blif.specs.Model.{Model, found, model_of}
use Rattle.blif.specs.Import.{is_output, importing}
use Rattle.definitions.specs.Rows.{rows_from}
use Rattle.definitions.specs.Kept.{Kept}
use Rattle.definitions.specs.declared.Circuit.{Circuit}
use Rattle.names.specs.declared.Names.{Names}
use Rattle.definitions.proofs.Keeping.{kept-size}
use Rattle.model.specs.Turns.{ModelRead}
use Rattle.outputs.specs.Marks.{OutputsMarked}
use Rattle.importer.proofs.SheetLaws.{records-of, import-writes, import-undefined, import-faulty, import-first}

-- an answer that is one outcome's is an equal one's
pub answered-as : {o p : Maps.Outcome} {number place : ℕ} (before : List ℕ) {after : List ℕ} → o ≡ p → Answered o number place before after → Answered p number place before after
answered-as {number = number} {place = place} before {after} e h = subst (λ (q : Maps.Outcome). Answered q number place before after) e h

pub short-enough : (text : List ℕ) → length text ≤ text_most → short text ≡ true
short-enough text l = le-leb (length text) text_most l

module _ (text : List ℕ) (c : Caller) (M : Model) (f : model_of text ≡ found M) (h : callable c ≡ true) (l : length text ≤ text_most) where
  -- the rows that are marked and the operands are those of the sheet's records
  pub all-marked : {names : Names} {nodes operands : List ℕ} {n u : ℕ} (after : List ℕ) → Kept (delay c) M.definitions names nodes operands n u
      → OutputsMarked (delay c) M after (Ok tt) → (room : ℕ)
      → writing (records_in c.leaves c.top c.horizon (take (node_place n) after) (take u operands) [] 1 []) room ≡ importing text c room
  all-marked {operands = operands} {n = n} {u = u} after k q room =
      ap (λ (x : ℕ). writing (records_in c.leaves c.top c.horizon (take (node_place x) after) (take u operands) [] 1 []) room) (sym (kept-size k))
      ∙ ap (λ (rows : List ℕ). writing (records_in c.leaves c.top c.horizon rows (take u operands) [] 1 []) room) q.1
      ∙ ap (λ (ids : List ℕ). writing (records_in c.leaves c.top c.horizon (rows_from (delay c) (is_output M.outputs) 0 M.definitions) ids [] 1 []) room) k.ids
      ∙ ap (λ (R : Records). writing R room) (records-of c M.definitions M.outputs)
      ∙ sym (import-writes text c M f q.0 h (short-enough text l) room)

  -- an output that is not defined
  pub one-undefined : (after : List ℕ) (w : Refusal) → OutputsMarked (delay c) M after (Err w) → (room : ℕ) → refusal (number_of w) (place_of w) ≡ importing text c room
  one-undefined after w q room =
      ap (λ (v : Refusal). refusal (number_of v) (place_of v)) q.3 ∙ sym (import-undefined text c M q.0 q.1 f q.2 h (short-enough text l) room)

-- the model was refused
pub refused-model : (text : List ℕ) (c : Caller) (d : ℕ) (kept : Circuit) (w : Refusal) → ModelRead text d kept (Err w) → callable c ≡ true
    → length text ≤ text_most → (room : ℕ) → refusal (number_of w) (place_of w) ≡ importing text c room
refused-model text c d kept w h k l room = sym (import-faulty text c (number_of w) (place_of w) h k (short-enough text l) room)

-- what is looked at first
pub barred-caller : (text : List ℕ) (c : Caller) → callable c ≡ false → (room : ℕ) → refusal 11 0 ≡ importing text c room
barred-caller text c e room = sym (import-first text c (ap (λ b. b && short text) e) room)

pub barred-text : (text : List ℕ) (c : Caller) → callable c ≡ true → text_most < length text → (room : ℕ) → refusal 11 0 ≡ importing text c room
barred-text text c h l room = sym (import-first text c (ap (λ b. b && short text) h ∙ lt-leb (length text) text_most l) room)
