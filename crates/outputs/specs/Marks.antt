-- What marking the outputs of a model comes to.
use Rattle.std.specs.Prelude.{ℕ, ◌≡◌, Bool, true, false, ◌||◌, List, [], ◌∷◌, Result, Ok, Err, length, take}
use Rattle.maps.specs.Lists.{all}
use Rattle.types.specs.declared.Refusal.{Refusal}
use Rattle.types.specs.declared.Refusal.TheVariants.{Name}
use Rattle.records.specs.Rows.{node_place}
use Rattle.blif.specs.Words.{Word}
use Rattle.blif.specs.Names.{Definition, names_of, OutputName, has}
use Rattle.blif.specs.Model.{Model}
use Rattle.blif.specs.Import.{is_output, undefined}
use Rattle.definitions.specs.Rows.{rows_from}

-- the rows of the nodes with these names are marked as before, and besides by a test of the names
pub record Adds (names : List Word) (marked : Word → Bool) (before after : List ℕ) : Type 0 where
  pub rows : (d : ℕ) (m : Word → Bool) (xs : List Definition) → names_of xs ≡ names
      → take (node_place (length xs)) before ≡ rows_from d m 0 xs → take (node_place (length xs)) after ≡ rows_from d (λ w. m w || marked w) 0 xs

-- all words are names and are marked, or some word is no name
abbrev pub WordsMarked : (names words : List Word) → (before after : List ℕ) → Bool → Type 0
WordsMarked ns ws before after true = (all (has ns) ws ≡ true) × Adds ns (has ws) before after
WordsMarked ns ws before after false = all (has ns) ws ≡ false

-- all outputs of the model are defined and are marked, or the first that is not defined stands on the line that the refusal names
abbrev pub OutputsMarked : (d : ℕ) → Model → (nodes : List ℕ) → Result (Unit {0}) Refusal → Type 0
OutputsMarked d M nodes (Ok _) =
    (undefined M ≡ []) × (take (node_place (length M.definitions)) nodes ≡ rows_from d (is_output M.outputs) 0 M.definitions)
OutputsMarked d M nodes (Err w) = (o : OutputName) × (os : List OutputName) × (undefined M ≡ o ∷ os) × (w ≡ Name o.line)
