-- What reading a sheet into two tables answers.
use Rattle.std.specs.Prelude.{ℕ, List, length}
use Rattle.maps.specs.Read.{Header, Parsed, sheet, refused}
use Rattle.rows.specs.Table.{graph_of, differences_of, header_of}

-- what reading answers: the header, the period and how many entries follow it, or the refusal
pub data Answer : Type 0 where
  header : Header → (period windows : ℕ) → Answer
  refusal : (number place : ℕ) → Answer

-- as number and place: 0 and 0 where the sheet reads
abbrev pub answer_number : Answer → ℕ
answer_number (header h p w) = 0
answer_number (refusal k p) = k

abbrev pub answer_place : Answer → ℕ
answer_place (header h p w) = 0
answer_place (refusal k p) = p

-- the answer and the two tables
pub record Tables : Type 0 where
  pub answer : Answer
  pub graph : List ℕ
  pub differences : List ℕ

abbrev pub tables : Answer → List ℕ → List ℕ → Tables
tables a g d = record { answer = a; graph = g; differences = d }

-- after reading: the sheet's header, its period, how many entries it has, and its tables; or the refusal, and the tables as they were
abbrev pub read_after : Parsed → (graph differences : List ℕ) → Tables
read_after (sheet S) g d = tables (header (header_of S) S.period (length S.windows)) (graph_of S) (differences_of S)
read_after (refused k p) g d = tables (refusal k p) g d
