-- What a call answers, as document 01's number and place.
use Rattle.std.specs.Prelude.{ℕ, ◌≡◌, List, Result, Ok, Err}
use Rattle.maps.specs.Outcome as Maps
use Rattle.maps.specs.Outcome.{outcome_number, outcome_place, buffer_after}
use Rattle.types.specs.Code.{number_of, place_of}
use Rattle.types.specs.declared.Refusal.{Refusal}

-- number, place and buffer are those of an outcome
abbrev pub Answered : Maps.Outcome → (number place : ℕ) (before after : List ℕ) → Type 0
Answered o number place before after = (number ≡ outcome_number o) × (place ≡ outcome_place o) × (after ≡ buffer_after o before)

-- "An accepted sheet gives number 0 and, as place, the length of what was written"
abbrev pub number_answered : Result ℕ Refusal → ℕ
number_answered (Ok n) = 0
number_answered (Err w) = number_of w

abbrev pub place_answered : Result ℕ Refusal → ℕ
place_answered (Ok n) = n
place_answered (Err w) = place_of w
