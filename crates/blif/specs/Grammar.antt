-- Document 02, U3: the lines of the subset as they are written, and where they may stand. `proofs/Grammars.antt`: `statement` finds exactly these.
use Rattle.std.specs.Prelude.{ℕ, zero, suc, ◌≡◌, true, List, [], ◌∷◌, ◌++◌}
use Rattle.blif.specs.Words.{Word, bytes_of}
use Rattle.blif.specs.Subset.{Stage, first, head, cover, latched, Statement, model, inputs, outputs, names, row, latch, end, initial, literals, bit}

-- where `.names`, `.latch` and `.end` may stand: after `.model` and before `.end`
pub data Open : Stage → Type 0 where
  in_head : Open head
  in-cover : {n : ℕ} → Open (cover n)
  in-latched : Open latched

-- "a row is a 0, 1 or - for each input, then 0 or 1 as its own word"
pub data Row : ℕ → List Word → Type 0 where
  without : {o : Word} → bit o ≡ true → Row zero (o ∷ [])
  for-each : {n : ℕ} {w o : Word} → literals (suc n) w ≡ true → bit o ≡ true → Row (suc n) (w ∷ o ∷ [])

-- a line of these words at this stage says this
pub data Means : Stage → List Word → Statement → Type 0 where
  -- "`.model` with one name comes first"
  means-model : {n : Word} → Means first (bytes_of ".model" ∷ n ∷ []) (model n)
  -- "`.inputs` and `.outputs`, each with any number of names, .. before any `.names` or `.latch`"
  means-inputs : {ns : List Word} → Means head (bytes_of ".inputs" ∷ ns) (inputs ns)
  means-outputs : {ns : List Word} → Means head (bytes_of ".outputs" ∷ ns) (outputs ns)
  -- inputs, and last the output
  means-names : {at : Stage} (us : List Word) (o : Word) → Open at → Means at (bytes_of ".names" ∷ (us ++ (o ∷ []))) (names us o)
  -- its rows
  means-row : {n : ℕ} {ws : List Word} → Row n ws → Means (cover n) ws row
  -- "its input, its output and at most an initial value from 0 to 3"
  means-latch : {at : Stage} {i o : Word} → Open at → Means at (bytes_of ".latch" ∷ i ∷ o ∷ []) (latch i o)
  means-initial : {at : Stage} {i o v : Word} → Open at → initial v ≡ true → Means at (bytes_of ".latch" ∷ i ∷ o ∷ v ∷ []) (latch i o)
  -- "`.end` last"
  means-end : {at : Stage} → Open at → Means at (bytes_of ".end" ∷ []) end
