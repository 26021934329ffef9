-- Document 02, U1: what holds of the sheet writer and of the reader.
use Rattle.std.specs.Prelude.{ℕ, ◌≤◌, ◌<◌, ◌≡◌, ◌↔◌, ◌⊎◌, List, ◌++◌, length}
use Rattle.maps.specs.Lists.{All}
use Rattle.maps.specs.Sheet.{Sheet}
use Rattle.maps.specs.Number.{Bytes, values, encoded}
use Rattle.maps.specs.Read.{sheet, refused, parse}
use Rattle.maps.specs.Outcome.{accepted, refusal}
use Rattle.maps.specs.Records.{Records, sheet_meant, records_of}
use Rattle.maps.specs.Write.{Passes, First, numbers, values_of, spelled, spelling, writing}
use Rattle.maps.specs.Reading.{ReadsAs, Refuses}

-- of any records and a buffer of `room` bytes
pub record WriterLaws (R : Records) (room : ℕ) : Type 0 where
  -- "Reading the written sheet gives those records again"
  pub again : (bytes : List ℕ) → writing R room ≡ accepted bytes → ReadsAs bytes (sheet_meant R) × (records_of (sheet_meant R) ≡ R) × Bytes bytes
  -- "the first number that the reader would refuse gets 3 or 4 (place: which number of the sheet, from 0)"
  pub first : (k i : ℕ) → First (numbers R) k i → writing R room ≡ refusal k i
  -- the reader refuses that number, by the same ground, where it has a spelling and stands after the numbers before it
  pub reader : (k i : ℕ) (f : First (numbers R) k i) → f.faulty.value < values → (rest : List ℕ)
      → Refuses (spelled (values_of f.before) ++ (encoded f.faulty.value ++ rest)) k (length (spelled (values_of f.before)))
  -- "then 8": where the reader would refuse none
  pub too_short : All Passes (numbers R) → room < length (spelling (sheet_meant R)) → writing R room ≡ refusal 8 (length (spelling (sheet_meant R)))
  -- otherwise the sheet is written
  pub otherwise : All Passes (numbers R) → length (spelling (sheet_meant R)) ≤ room → writing R room ≡ accepted (spelling (sheet_meant R))
  -- and one of these is so
  pub cases : ((k : ℕ) × (i : ℕ) × First (numbers R) k i) ⊎ All Passes (numbers R)

-- of any bytes
pub record ReaderLaws (bytes : List ℕ) : Type 0 where
  -- "a sheet that reads is reproduced byte for byte"
  pub reproduced : (S : Sheet) (room : ℕ) → ReadsAs bytes S → length bytes ≤ room → writing (records_of S) room ≡ accepted bytes
  -- `parse` gives exactly the sheet that the bytes are the spelling of
  pub exactly : (S : Sheet) → (parse bytes ≡ sheet S) ↔ ReadsAs bytes S
  -- and refuses exactly by the ground that holds of them
  pub grounds : (k p : ℕ) → (parse bytes ≡ refused k p) ↔ Refuses bytes k p
