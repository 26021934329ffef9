-- The names put out, by the first words of the lines alone, and those of them that nothing defines.
use Rattle.std.specs.Prelude.{ℕ, cond, not, List, [], ◌∷◌, map}
use Rattle.maps.specs.Lists.{keep}
use Rattle.blif.specs.Words.{Word, Line, is}
use Rattle.blif.specs.Names.{OutputName, has}

-- the words after the word `.outputs`
abbrev pub output_words : List Word → List Word
output_words [] = []
output_words (w ∷ ws) = cond (is ".outputs" w) ws []

-- names put out, with the number of their line
abbrev pub outputs_named : (number : ℕ) → List Word → List OutputName
outputs_named n ws = map (λ o. record { line = n; name = o }) ws

abbrev pub outputs_of_words : (number : ℕ) → List Word → List OutputName
outputs_of_words n ws = outputs_named n (output_words ws)

abbrev pub outputs_of_line : Line → List OutputName
outputs_of_line l = outputs_of_words l.number l.words

-- those that are not among the names defined: `undefined M` for the names and outputs of model M
abbrev pub undefined_of : (names : List Word) → List OutputName → List OutputName
undefined_of ns os = keep (λ o. not (has ns o.name)) os
