-- Document 02, U3, names and definitions. Ground 10: "a name read before it is defined, defined twice or put out without definition".
use Rattle.std.specs.Prelude.{ℕ, Bool, true, ◌&&◌, not, List, [], ◌∷◌, map}
use Rattle.maps.specs.Lists.{all, any, equal, concat}
use Rattle.maps.specs.Sheet.{Kind, input, logic, box}
use Rattle.blif.specs.Words.{Word}
use Rattle.blif.specs.Subset.{Statement, model, inputs, outputs, names, row, latch, end, outside}

-- a name that is defined, the kind of its node, and the names that it reads
pub record Definition : Type 0 where
  pub name : Word
  pub kind : Kind
  pub reads : List Word

abbrev pub definition : Word → Kind → List Word → Definition
definition n k us = record { name = n; kind = k; reads = us }

-- "A `.names` is logic, or an input if it reads nothing."
abbrev pub kind_of : List Word → Kind
kind_of [] = input
kind_of (u ∷ us) = logic

-- the inputs of these names
abbrev pub inputs_of : List Word → List Definition
inputs_of ns = map (λ n. definition n input []) ns

-- what a line defines: "A `.latch` is a box with d = 0 and lat = 1."; document 02, U5, of q: "The importer writes 0."
abbrev pub defined : Statement → List Definition
defined (model n) = []
defined (inputs ns) = inputs_of ns
defined (outputs ns) = []
defined (names us o) = definition o (kind_of us) us ∷ []
defined row = []
defined (latch i o) = definition o (box 1 0) (i ∷ []) ∷ []
defined end = []
defined outside = []

abbrev pub names_of : List Definition → List Word
names_of ds = map (λ (d : Definition). d.name) ds

-- the names that a line reads
abbrev pub reads_of : List Definition → List Word
reads_of ds = concat (map (λ (d : Definition). d.reads) ds)

-- a name that an `.outputs` line asks for, with that line's number
pub record OutputName : Type 0 where
  pub line : ℕ
  pub name : Word

abbrev pub output_names : ℕ → Statement → List OutputName
output_names at (model n) = []
output_names at (inputs ns) = []
output_names at (outputs ns) = map (λ n. record { line = at; name = n }) ns
output_names at (names us o) = []
output_names at row = []
output_names at (latch i o) = []
output_names at end = []
output_names at outside = []

-- the name is one of them
abbrev pub has : List Word → Word → Bool
has ns w = any (equal w) ns

-- none of the new names is among the old ones or comes twice
abbrev pub fresh : (old new : List Word) → Bool
fresh old [] = true
fresh old (n ∷ new) = not (has old n) && fresh (n ∷ old) new

-- whether a line that defines `ds` reads only names of earlier lines, and defines only new ones
abbrev pub resolves : (old : List Word) → (ds : List Definition) → Bool
resolves old ds = all (has old) (reads_of ds) && fresh old (names_of ds)
