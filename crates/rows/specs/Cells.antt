-- A table as a list, and how a test came out: what the contracts of code over tables say.
use Rattle.std.specs.Prelude.{ℕ, zero, suc, ◌+◌, Bool, true, false, List, [], ◌∷◌, get_or}

-- the number at place i of a table; 0 past its end
abbrev pub cell : List ℕ → ℕ → ℕ
cell l i = get_or l i 0

abbrev pub zero? : ℕ → ℕ
zero? zero = 1
zero? (suc n) = 0

-- how many elements are 0
unfoldable pub zeros : List ℕ → ℕ
zeros [] = 0
zeros (a ∷ l) = zero? a + zeros l

-- a where a test came out true, b where it came out false
abbrev pub Ends : Bool → Type 0 → Type 0 → Type 0
Ends true a b = a
Ends false a b = b
