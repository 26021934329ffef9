-- What making a plan comes to.
use Rattle.std.specs.Prelude.{ℕ, ◌≤◌, ◌≡◌, List, Result, Ok, Err, length, take}
use Rattle.maps.specs.Sheet.{Sheet}
use Rattle.maps.specs.Outcome.{Outcome, refusal, within, outcome}
use Rattle.maps.specs.Sizes.{plan_most}
use Rattle.types.specs.Code.{number_of, place_of}
use Rattle.rows.specs.declared.Header as R
use Rattle.types.specs.declared.Refusal.{Refusal}

-- the horizon of the limits is the sheet's own
abbrev pub Own : Sheet → R.Header → Type 0
Own S limits = limits.horizon ≡ S.horizon

-- the outcome of making a plan, for a buffer of any length: the first len bytes are the plan, or there is none
abbrev pub made_meant : (bytes : List ℕ) (len : ℕ) → Result (Unit {0}) Refusal → ℕ → Outcome
made_meant bytes len (Ok done) room = within room (take len bytes)
made_meant bytes len (Err w) room = refusal (number_of w) (place_of w)

abbrev pub Made : (sheet bytes : List ℕ) (len : ℕ) → Result (Unit {0}) Refusal → Type 0
Made sheet bytes len r = (room : ℕ) → outcome sheet room ≡ made_meant bytes len r room

-- and the plan's length is one that the local buffer has
abbrev pub Short : (bytes : List ℕ) (len : ℕ) → Result (Unit {0}) Refusal → Type 0
Short bytes len (Ok done) = (len ≤ plan_most) × (len ≤ length bytes)
Short bytes len (Err w) = Unit {0}
