-- The words of a line over their iterator.
use Prim.Native.Nat.{ℕ}
use mathlib.Core.Path.{◌≡◌, ap, ◌∙◌}
use mathlib.Core.List.{List, ◌∷◌}
use Rattle.blif.specs.Words.{Word}
use Rattle.blif.specs.Scan.{name_at}

-- the word that is next, in the text
pub next_word : (s t : List ℕ) (first : ℕ) (ws rest : List Word) → ws ≡ name_at s first ∷ rest → s ≡ t → ws ≡ name_at t first ∷ rest
next_word s t first ws rest e q = e ∙ ap (λ (u : List ℕ). name_at u first ∷ rest) q
