-- The order of words, and what sorting answers about them.
use Rattle.std.specs.Prelude.{ℕ, ◌+◌, ◌≤◌, ◌<◌, ◌≡◌, cond, Result, Ok, Err, List, [], ◌∷◌, map, ltb, length, get_or}
use Rattle.maps.specs.Lists.{All, equal}
use Rattle.blif.specs.Words.{Word}
use Rattle.blif.specs.Scan.{name_at}
use Rattle.std.specs.declared.cmp.Ordering.{Ordering}
use Rattle.std.specs.declared.cmp.Ordering.TheVariants as Is
use Rattle.distinct.specs.declared.Repeated.{Repeated}

-- by the first byte that differs; a proper beginning comes first
abbrev pub order : Word → Word → Ordering
order [] [] = Is.Equal
order [] (y ∷ ys) = Is.Less
order (x ∷ xs) [] = Is.Greater
order (x ∷ xs) (y ∷ ys) = cond (ltb x y) Is.Less (cond (ltb y x) Is.Greater (order xs ys))

abbrev pub Precedes : Word → Word → Type 0
Precedes a b = order a b ≡ Is.Less

-- each word precedes all that follow
abbrev pub Ascending : List Word → Type 0
Ascending [] = Unit {0}
Ascending (w ∷ ws) = All (Precedes w) ws × Ascending ws

abbrev pub occurrences : Word → List Word → ℕ
occurrences w [] = 0
occurrences w (x ∷ xs) = occurrences w xs + cond (equal w x) 1 0

-- one of the words comes twice
abbrev pub Twice : List Word → Type 0
Twice words = (w : Word) × (2 ≤ occurrences w words)

-- what sorting says of words: they are these in ascending order, or one of them comes twice
abbrev pub Sorted : (words sorted : List Word) → Result (Unit {0}) Repeated → Type 0
Sorted words sorted (Ok u) = Ascending sorted × ((w : Word) → occurrences w sorted ≡ occurrences w words)
Sorted words sorted (Err e) = Twice words

-- the words at positions of a text
abbrev pub names : (text positions : List ℕ) → List Word
names text ps = map (name_at text) ps

-- which of the words at places i and j of two lists comes first; a list that has ended comes last
abbrev pub Heads : (text xs ys : List ℕ) → (i j : ℕ) → Ordering → Type 0
Heads text xs ys i j Is.Less = (i < length xs) × (j < length ys → order (name_at text (get_or xs i 0)) (name_at text (get_or ys j 0)) ≡ Is.Less)
Heads text xs ys i j Is.Equal = (i < length xs) × (j < length ys) × (order (name_at text (get_or xs i 0)) (name_at text (get_or ys j 0)) ≡ Is.Equal)
Heads text xs ys i j Is.Greater = (j < length ys) × (i < length xs → order (name_at text (get_or xs i 0)) (name_at text (get_or ys j 0)) ≡ Is.Greater)
