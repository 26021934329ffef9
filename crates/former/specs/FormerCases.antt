-- Document 01's hall sheet as it is printed there, planned in its form, and in that before document 02, U8; one table, proved together by computation.
use Rattle.std.specs.Prelude.{ℕ, Bool, List, [], ◌∷◌, ◌++◌, T}
use Rattle.maps.specs.Lists.{all}
use Rattle.maps.specs.Outcome.{Outcome, accepted, refusal, outcome}
use Rattle.maps.specs.Number.{number_up_to}
use Rattle.maps.specs.Window.{next_open}
use Rattle.maps.specs.Cases.{is_outcome}
use Rattle.former.specs.Former.{earlier_parse, former_node_form, former_outcome, unwindowed_outcome}

pub data Case : Type 0 where
  -- a sheet's bytes in document 01's form, and the outcome with 64 bytes of room
  former : (bytes : List ℕ) → Outcome → Case
  -- in the form before U8
  unwindowed : (bytes : List ℕ) → Outcome → Case

unfoldable pub holds : Case → Bool
unfolding earlier_parse former_node_form outcome number_up_to next_open
holds (former s o) = is_outcome (former_outcome s 64) o
holds (unwindowed s o) = is_outcome (unwindowed_outcome s 64) o

-- "The hall sheet in hexadecimal, 44 bytes", with H and what follows its last node
abbrev printed : (h : ℕ) → (rest : List ℕ) → List ℕ
printed h rest =
    (0x03 ∷ 0x02 ∷ h ∷ 0x06 ∷ 0x01 ∷ [])
    ++ (0x00 ∷ 0x00 ∷ 0x00 ∷ 0x00 ∷ 0x00 ∷ 0x00 ∷ 0x00 ∷ 0x00 ∷ 0x00 ∷ 0x00 ∷ 0x00 ∷ 0x00 ∷ 0x00 ∷ 0x00 ∷ 0x00 ∷ [])
    ++ (0x01 ∷ 0x00 ∷ 0x01 ∷ 0x00 ∷ 0x02 ∷ 0x00 ∷ 0x01 ∷ [])
    ++ (0x01 ∷ 0x00 ∷ 0x01 ∷ 0x00 ∷ 0x02 ∷ 0x03 ∷ 0x02 ∷ [])
    ++ (0x01 ∷ 0x01 ∷ 0x01 ∷ 0x00 ∷ 0x02 ∷ 0x04 ∷ 0x03 ∷ [])
    ++ rest

abbrev doors : List ℕ
doors = 0x00 ∷ 0x05 ∷ 0x02 ∷ []

-- the same with q = 0 in each node
abbrev clocked : (rest : List ℕ) → List ℕ
clocked rest =
    (0x03 ∷ 0x02 ∷ 0x04 ∷ 0x06 ∷ 0x01 ∷ [])
    ++ (0x00 ∷ 0x00 ∷ 0x00 ∷ 0x00 ∷ 0x00 ∷ 0x00 ∷ 0x00 ∷ 0x00 ∷ 0x00 ∷ 0x00 ∷ 0x00 ∷ 0x00 ∷ 0x00 ∷ 0x00 ∷ 0x00 ∷ 0x00 ∷ 0x00 ∷ 0x00 ∷ [])
    ++ (0x01 ∷ 0x00 ∷ 0x01 ∷ 0x00 ∷ 0x00 ∷ 0x02 ∷ 0x00 ∷ 0x01 ∷ [])
    ++ (0x01 ∷ 0x00 ∷ 0x01 ∷ 0x00 ∷ 0x00 ∷ 0x02 ∷ 0x03 ∷ 0x02 ∷ [])
    ++ (0x01 ∷ 0x01 ∷ 0x01 ∷ 0x00 ∷ 0x00 ∷ 0x02 ∷ 0x04 ∷ 0x03 ∷ [])
    ++ rest

-- "Plan, 29 bytes"
abbrev printed_plan : List ℕ
printed_plan =
    (0x01 ∷ 0x00 ∷ 0x00 ∷ 0x01 ∷ 0x00 ∷ 0x00 ∷ 0x00 ∷ 0x01 ∷ 0x00 ∷ 0x00 ∷ 0x00 ∷ 0x01 ∷ 0x00 ∷ [])
    ++ (0x00 ∷ 0x01 ∷ 0x01 ∷ 0x02 ∷ 0x00 ∷ 0x01 ∷ [])
    ++ (0x00 ∷ 0x01 ∷ 0x00 ∷ 0x00 ∷ [])
    ++ (0x01 ∷ 0x01 ∷ 0x01 ∷ 0x02 ∷ 0x02 ∷ 0x03 ∷ [])

unfoldable pub cases : List Case
cases =
    -- † the hall sheet; H = 1 gives the same plan; † H = 0; 1 and 5 stand where the differences end
    former (printed 4 doors) (accepted printed_plan)
    ∷ former (printed 1 doors) (accepted printed_plan)
    ∷ former (printed 0 doors) (refusal 7 0)
    ∷ former (printed 4 (0x00 ∷ 0x05 ∷ [])) (refusal 1 43)
    ∷ former (printed 4 (doors ++ (1 ∷ 0 ∷ []))) (refusal 5 44)
    -- the same before U8; each form refuses the other's bytes
    ∷ unwindowed (clocked doors) (accepted printed_plan)
    ∷ unwindowed (clocked (doors ++ (1 ∷ 0 ∷ []))) (refusal 5 50)
    ∷ former (clocked doors) (refusal 3 23)
    ∷ unwindowed (printed 4 doors) (refusal 3 20)
    ∷ []

pub marked : T (all holds cases)
unfolding holds cases
marked = tt
