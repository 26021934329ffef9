-- What a part of the sheet writer has done: written numbers that pass, or stopped at the first that does not.
use Rattle.std.specs.Prelude.{ℕ, ◌+◌, ◌≤◌, ◌≡◌, List, length, Result, Ok, Err}
use Rattle.maps.specs.Lists.{All}
use Rattle.maps.specs.Write.{Entry, Passes, First, values_of, spelled}
use Rattle.maps.specs.Sizes.{bytes_most}
use Rattle.types.specs.Code.{number_of, place_of}
use Rattle.types.specs.declared.Refusal.{Refusal}
use Rattle.out_bytes.specs.Put.{Put}
use Rattle.fields.specs.declared.Position.{Position}

-- where writing starts
abbrev pub start : Position
start = record { at = 0; number = 0 }

-- there is room for so many bytes more; no more numbers than bytes came before, as each takes a byte or more
pub record Room (most : ℕ) (bytes : List ℕ) (from : Position) : Type 0 where
  pub space : from.at + most ≤ length bytes
  pub counted : from.number ≤ from.at

-- the numbers es, from a position on: all pass and stand in their spelling, or the first that does not is named
pub data Wrote (es : List Entry) (before after : List ℕ) (from : Position) : Result Position Refusal → Type 0 where
  passed : {next : Position} → All Passes es → Put (bytes_most es) before after from.at next.at (spelled (values_of es))
      → next.number ≡ from.number + length es → Wrote es before after from (Ok next)
  failed : {w : Refusal} (j : ℕ) → First es (number_of w) j → place_of w ≡ from.number + j → length after ≡ length before
      → Wrote es before after from (Err w)
