-- Document 02, U3: the sheet of a model, and the outcome of importing any text with any numbers into any buffer.
use Rattle.std.specs.Prelude.{ℕ, suc, Bool, true, false, cond, ◌&&◌, not, List, [], ◌∷◌, map}
use Rattle.maps.specs.Lists.{any, keep, equal}
use Rattle.maps.specs.Sheet.{Sheet, Node, is_logic}
use Rattle.maps.specs.Write.{spelling}
use Rattle.maps.specs.Outcome.{Outcome, refusal, within}
use Rattle.blif.specs.Words.{Word}
use Rattle.blif.specs.Names.{Definition, names_of, OutputName, has}
use Rattle.blif.specs.Limits.{Caller, delay, callable, short}
use Rattle.blif.specs.Model.{Model, Found, found, faulty, model_of}

-- the id of a name: where it stands among the names defined
abbrev pub id_of : List Word → Word → ℕ
id_of [] w = 0
id_of (n ∷ ns) w = cond (equal w n) 0 (suc (id_of ns w))

-- "outputs marked"
abbrev pub is_output : List OutputName → Word → Bool
is_output os w = any (λ (o : OutputName). equal w o.name) os

-- the node of a definition in model M, where a table takes d levels
abbrev pub node_of : (d : ℕ) → Model → Definition → Node
node_of d M x = record {
  kind = x.kind;
  output = is_output M.outputs x.name;
  delay = cond (is_logic x.kind) d 0;
  operands = map (id_of (names_of M.definitions)) x.reads;
}

-- "a sheet whose nodes are the model's, outputs marked, without differences"; of the period and the count of entries "The importer writes 1 and 0"
-- (document 02, U8)
abbrev pub sheet_of : Caller → Model → Sheet
sheet_of c M = record {
  leaves = c.leaves;
  top = c.top;
  horizon = c.horizon;
  nodes = map (node_of (delay c) M) M.definitions;
  differences = [];
  period = 1;
  windows = [];
}

-- the names put out that nothing defines, in the text's order
abbrev pub undefined : Model → List OutputName
undefined M = keep (λ o. not (has (names_of M.definitions) o.name)) M.outputs

-- "An undefined output is found last, at its `.outputs` line, and then 8"
pub data Imported : Type 0 where
  imported : Sheet → Imported
  refused : (number place : ℕ) → Imported

abbrev pub with_outputs : Caller → Model → List OutputName → Imported
with_outputs c M [] = imported (sheet_of c M)
with_outputs c M (o ∷ os) = refused 10 o.line

abbrev pub of_found : Caller → Found → Imported
of_found c (found M) = with_outputs c M (undefined M)
of_found c (faulty k p) = refused k p

-- "0 for the caller's numbers (d among them) and for a longer text, also 11, both looked at first"
unfoldable pub import_sheet : (text : List ℕ) → Caller → Imported
unfolding model_of
import_sheet text c = elim (callable c && short text) [ true ↦ of_found c (model_of text) | false ↦ refused 11 0 ]

abbrev pub handed : (room : ℕ) → Imported → Outcome
unfolding spelling
handed room (imported S) = within room (spelling S)
handed room (refused k p) = refusal k p

-- the outcome of importing `text` for a caller with `room` bytes of room
unfoldable pub importing : (text : List ℕ) → Caller → (room : ℕ) → Outcome
unfolding import_sheet handed
importing text c room = handed room (import_sheet text c)
