-- Document 02, U1, of one call of the sheet writer: the records, the buffer as it was lent and as it is after the call, and the number and place
-- that are answered.
use Rattle.std.specs.Prelude.{ℕ, ◌≤◌, ◌<◌, ◌≡◌, List, ◌++◌, ◌⊎◌, length, take}
use Rattle.maps.specs.Lists.{All}
use Rattle.maps.specs.Sheet.{Sheet}
use Rattle.maps.specs.Number.{values, encoded}
use Rattle.maps.specs.Reading.{ReadsAs, Refuses}
use Rattle.maps.specs.Records.{Records, sheet_meant, records_of}
use Rattle.maps.specs.Write.{Passes, First, numbers, values_of, spelled, spelling}
use Rattle.demands.specs.Answers.{Written, Refused}

module _ (R : Records) (buffer : List ℕ) (number place : ℕ) (after : List ℕ) where
  pub record Stores : Type 0 where
    -- "the first number that the reader would refuse gets 3 or 4 (place: which number of the sheet, from 0)": it fails the test that the reader
    -- makes of it, and those before it pass
    pub first : (k i : ℕ) → First (numbers R) k i → Refused buffer number place after k i
    -- where it has a spelling, the reader refuses every sheet that begins with these numbers, by that ground, at that number
    pub reader : (k i : ℕ) (f : First (numbers R) k i) → f.faulty.value < values → (rest : List ℕ)
        → Refuses (spelled (values_of f.before) ++ (encoded f.faulty.value ++ rest)) k (length (spelled (values_of f.before)))
    -- "then 8"
    pub short : All Passes (numbers R) → length buffer < length (spelling (sheet_meant R)) → Refused buffer number place after 8 (length (spelling (sheet_meant R)))
    -- otherwise "it writes the sheet"
    pub written : All Passes (numbers R) → length (spelling (sheet_meant R)) ≤ length buffer → Written buffer number place after (spelling (sheet_meant R))
    -- one of these is so
    pub either : ((k : ℕ) × (i : ℕ) × First (numbers R) k i) ⊎ All Passes (numbers R)
    -- "Reading the written sheet gives those records again"
    pub again : number ≡ 0 → ReadsAs (take place after) (sheet_meant R) × (records_of (sheet_meant R) ≡ R)
    -- "and a sheet that reads is reproduced byte for byte"
    pub reproduced : (bytes : List ℕ) (S : Sheet) → ReadsAs bytes S → R ≡ records_of S → length bytes ≤ length buffer → Written buffer number place after bytes

-- `MAPS_SHEET_MOST` of the C header
abbrev pub maps_sheet_most : ℕ
maps_sheet_most = 13068

-- what number and place can be, for a buffer of `room` bytes: that many are enough for every sheet
pub record StoreBounded (room number place : ℕ) : Type 0 where
  pub numbers : (number ≡ 0) ⊎ ((number ≡ 3) ⊎ ((number ≡ 4) ⊎ (number ≡ 8)))
  pub written : number ≡ 0 → place ≤ maps_sheet_most
  pub wanted : number ≡ 8 → place ≤ maps_sheet_most
  pub enough : maps_sheet_most ≤ room → number ≡ 8 → ⊥
