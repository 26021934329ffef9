-- What reading is, as relations. `parse` computes them.
use Rattle.std.specs.Prelude.{ℕ, zero, suc, ◌-◌, ◌≤◌, ◌<◌, ◌≡◌, false, List, [], ◌∷◌, ◌++◌, ◌⊎◌, length}
use Rattle.maps.specs.Sheet.{Sheet}
use Rattle.maps.specs.Number.{width, values, encoded}
use Rattle.maps.specs.Form.{Rule, rule_ground, passes, Form, done, ask, Leads}
use Rattle.maps.specs.Read.{sheet_form}
use Rattle.maps.specs.WellFormed.{WellFormed}
use Rattle.maps.specs.Write.{spelled, spelling}

-- "A sheet reads correctly": the bytes are the one spelling of a well-formed sheet
pub record ReadsAs (bytes : List ℕ) (S : Sheet) : Type 0 where
  pub well : WellFormed S
  pub spelled : bytes ≡ spelling S

-- the sheet ends before a number of at most c bytes is complete or present: each byte that is left has another announced
abbrev pub Unfinished : (c : ℕ) → (rest : List ℕ) → Type 0
Unfinished zero rest = ⊥
Unfinished (suc c) [] = Unit {0}
Unfinished (suc c) (b ∷ rest) = (128 ≤ b) × Unfinished c rest

-- among the c bytes after a byte of 128 or more, the last one is 0 or all are above 127
abbrev pub Misplaced : (c : ℕ) → (rest : List ℕ) → Type 0
Misplaced zero rest = Unit {0}
Misplaced (suc c) [] = ⊥
Misplaced (suc c) (b ∷ rest) = (b ≡ 0) ⊎ ((128 ≤ b) × Misplaced c rest)

-- a number of more than one byte begins here, and what follows is not the rest of one of at most 1 + g bytes
abbrev pub Misspelt : (g : ℕ) → (rest : List ℕ) → Type 0
Misspelt g [] = ⊥
Misspelt g (b ∷ rest) = (128 ≤ b) × Misplaced g rest

-- "Grounds for refusing", 1 to 5: "1 to 4 at the first number in the sheet that fails (spelling before value), then 5". The numbers ns pass, and the
-- form asks r of the next one. Of that number:
pub data Refuses (bytes : List ℕ) : (number place : ℕ) → Type 0 where
  -- 1, "the sheet ends before a number is complete or present; place: the sheet's length"
  ended : (ns : List ℕ) (r : Rule) (g : ℕ → Form Sheet) (rest : List ℕ) → Leads sheet_form ns (ask r g) → bytes ≡ spelled ns ++ rest
      → Unfinished width rest → Refuses bytes 1 (length bytes)
  -- 2, "a last byte of a longer spelling may not be 0, nor a third byte exceed 127" (document 02, U2); "place: the number's first byte"
  misspelt : (ns : List ℕ) (r : Rule) (g : ℕ → Form Sheet) (rest : List ℕ) → Leads sheet_form ns (ask r g) → bytes ≡ spelled ns ++ rest
      → Misspelt (width - 1) rest → Refuses bytes 2 (length (spelled ns))
  -- 3, "a value, u and v included, is outside its range", or 4, "an operand id is not below the node's own"; "same place"
  value : (ns : List ℕ) (r : Rule) (g : ℕ → Form Sheet) (x : ℕ) (rest : List ℕ) → Leads sheet_form ns (ask r g) → bytes ≡ spelled ns ++ (encoded x ++ rest)
      → x < values → passes r x ≡ false → Refuses bytes (rule_ground r) (length (spelled ns))
  -- 5, "bytes follow the last number; place: the first of them"
  trailing : (ns : List ℕ) (S : Sheet) (b : ℕ) (rest : List ℕ) → Leads sheet_form ns (done S) → bytes ≡ spelled ns ++ (b ∷ rest)
      → Refuses bytes 5 (length (spelled ns))
