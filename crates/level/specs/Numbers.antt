-- The table of the kept cuts as one list of numbers, eight for each node.
use Rattle.std.specs.Prelude.{ℕ, ◌≡◌, List, [], ◌∷◌, ◌++◌, get_or}
use Rattle.level.specs.declared.cuts.Cut.{Cut}

-- the numbers of a cut: how many leaves it has, then its seven leaves
unfoldable pub numbers_of : Cut → List ℕ
numbers_of c = let leaf = λ (j : ℕ). get_or c.leaves j 0 in c.count ∷ leaf 0 ∷ leaf 1 ∷ leaf 2 ∷ leaf 3 ∷ leaf 4 ∷ leaf 5 ∷ leaf 6 ∷ []

-- the numbers of each cut, one after another
unfoldable pub numbers : List Cut → List ℕ
numbers [] = []
numbers (c ∷ rows) = numbers_of c ++ numbers rows

-- the list is its first seven numbers
abbrev pub Seven : List ℕ → Type 0
Seven xs = (get_or xs 0 0 ∷ get_or xs 1 0 ∷ get_or xs 2 0 ∷ get_or xs 3 0 ∷ get_or xs 4 0 ∷ get_or xs 5 0 ∷ get_or xs 6 0 ∷ []) ≡ xs

-- the cuts whose numbers these are, eight numbers a cut
unfoldable pub cuts_of : List ℕ → List Cut
cuts_of (n ∷ a ∷ b ∷ c ∷ d ∷ e ∷ f ∷ g ∷ rest) = record { count = n; leaves = a ∷ b ∷ c ∷ d ∷ e ∷ f ∷ g ∷ [] } ∷ cuts_of rest
cuts_of xs = []
