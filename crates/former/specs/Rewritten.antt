-- Document 02, U5: "A sheet rewritten with every q = 0 keeps its plan." U8: "With P = 1 and no entries a sheet keeps its plan."
use Rattle.std.specs.Prelude.{ℕ, ◌≡◌, ◌↔◌, List, []}
use Rattle.maps.specs.Label.{Label}
use Rattle.maps.specs.Sheet.{Sheet, latency, clock_to_q}
use Rattle.maps.specs.Write.{spelling}
use Rattle.maps.specs.WellFormed.{WellFormed}
use Rattle.maps.specs.Legal.{ready_of, Legal}
use Rattle.maps.specs.Least.{relaxed_at}
use Rattle.maps.specs.Read.{Parsed, sheet, parse}
use Rattle.maps.specs.Outcome.{outcome}
use Rattle.former.specs.Plain.{Plain, plain_at, plain_parsed}
use Rattle.former.specs.Former.{former_spelling, unwindowed_spelling, former_ready}

-- the sheet has P = 1 and no entries
pub record WithoutWindows (S : Sheet) : Type 0 where
  pub period : S.period ≡ 1
  pub windows : S.windows ≡ []

-- `old` is a sheet of document 01's form, and `bytes` the same with q = 0 in every node, P = 1 and no entries
pub record Rewritten (old bytes : List ℕ) : Type 0 where
  pub held : Sheet
  pub well : WellFormed held
  pub without : WithoutWindows held
  pub zero : (v : ℕ) → clock_to_q held v ≡ 0
  pub former : old ≡ former_spelling held
  pub now : bytes ≡ spelling held

-- `old` is a sheet of the form before U8, and `bytes` the same with P = 1 and no entries
pub record Unwindowed (old bytes : List ℕ) : Type 0 where
  pub held : Sheet
  pub well : WellFormed held
  pub without : WithoutWindows held
  pub former : old ≡ unwindowed_spelling held
  pub now : bytes ≡ spelling held

-- what holds of two such sheets, the old one read by its form
pub record Keeps (earlier : List ℕ → Parsed) (old bytes : List ℕ) (S : Sheet) : Type 0 where
  -- `old` reads by its form and `bytes` by today's, as the same sheet
  pub former_reads : earlier old ≡ sheet S
  pub reads : parse bytes ≡ sheet S
  -- the labellings that are legal are those of before, so the least ones are; and each round of the computed labels is that of before
  pub legal : (L : ℕ → Label) (H : ℕ) → Legal S L H ↔ Plain S L H
  pub round : (L : List Label) (v : ℕ) → relaxed_at S L v ≡ plain_at S L v
  -- the same number and place, and the same plan, whatever the room
  pub outcomes : (room : ℕ) → outcome bytes room ≡ plain_parsed room (earlier old)

-- ready labels, the one place where q enters what is legal, least, carried and chosen, are document 01's under every labelling
pub record KeepsReady (S : Sheet) : Type 0 where
  pub ready : (L : ℕ → Label) (u : ℕ) → ready_of S L u ≡ former_ready (latency S u) (L u)
