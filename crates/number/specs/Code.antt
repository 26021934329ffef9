-- What the code's answers mean in document 01's terms.
use Rattle.std.specs.Prelude.{ℕ, ◌≡◌, ◌<◌, ◌≤◌, List, length, Result, Ok, Err}
use Rattle.maps.specs.Number.{Got, got, refusal, byte_at}
use Rattle.types.specs.Code.{number_of, place_of}
use Rattle.types.specs.declared.Refusal.{Refusal}
use Rattle.types.specs.declared.Refusal.TheVariants.{Ended}
use Rattle.number.specs.declared.Read.{Read}

abbrev pub refusal_meant : {A : Type 0} → Refusal → Got A
refusal_meant w = refusal (number_of w) (place_of w)

-- the byte at a position, or ground 1 at the end where there is none
abbrev pub byte_meant : List ℕ → (at : ℕ) → Result ℕ Refusal → Type 0
byte_meant s at (Ok b) = (at < length s) × (b ≡ byte_at s at)
byte_meant s at (Err w) = (length s ≤ at) × (w ≡ Ended (length s))

abbrev pub number_meant : Result Read Refusal → Got ℕ
number_meant (Ok read) = got read.value read.next.at
number_meant (Err w) = refusal_meant w
