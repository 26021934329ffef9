-- What the iterator over the words of a line gives.
use Rattle.std.specs.Prelude.{ℕ, ◌<◌, ◌≡◌, List, [], ◌∷◌, length, Option, MatchOption}
use Rattle.blif.specs.Words.{Word}
use Rattle.blif.specs.Scan.{name_at, words_at}
use Rattle.scan.specs.declared.words.LineWords.{LineWords}

-- the words from its position on
abbrev pub words_left : LineWords → List Word
words_left it = words_at it.text.now it.at

-- a call gave the position where the first of them begins, and the others are left, or there were none
abbrev pub NextWord : LineWords → Option ℕ → LineWords → Type 0
NextWord s r t =
    (t.text.now ≡ s.text.now)
    × MatchOption r ((words_left s ≡ []) × (words_left t ≡ [])) (λ first. (first < length s.text.now) × (words_left s ≡ name_at s.text.now first ∷ words_left t))
