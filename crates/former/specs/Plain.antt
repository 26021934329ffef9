-- Document 01's "Legal labelling", and the outcome of a sheet, as they were before document 02, U8: without windows.
use Rattle.std.specs.Prelude.{ℕ, ◌≤◌, ◌<◌, ◌+◌, List, [], ◌∷◌}
use Rattle.maps.specs.Lists.{All}
use Rattle.maps.specs.Label.{Label, raised}
use Rattle.maps.specs.Sheet.{Sheet, node, size, latency}
use Rattle.maps.specs.Legal.{ready_of, Carried}
use Rattle.maps.specs.Least.{asked_at, least_ever}
use Rattle.maps.specs.Read.{Parsed, sheet, refused}
use Rattle.maps.specs.Outcome.{Outcome, refusal, timed, cutless}

module _ (S : Sheet) (L : ℕ → Label) where
  pub record PlainNode (H v : ℕ) : Type 0 where
    pub low : (node S v).delay ≤ (L v).level
    pub high : (L v).level ≤ S.top
    pub ends : (L v).step + latency S v ≤ H
    pub after : All (λ u. (ready_of S L u).step ≤ (L v).step) (node S v).operands
    pub carried : Carried S L (node S v).kind v

  pub record Plain (H : ℕ) : Type 0 where
    pub nodes : (v : ℕ) → v < size S → PlainNode H v
    pub differences : All (λ d. (L d.from).step + d.plus ≤ (L d.to).step + d.minus) S.differences

-- a round of the computed labels: each label moves to the least label from it on that its bounds ask, whatever the step
abbrev pub plain_at : Sheet → List Label → ℕ → Label
plain_at S L v = raised (node S v).delay (asked_at S L v)

-- 12, 7 and 8 after 6, and 6 after 1 to 5
abbrev pub plain_covered : Sheet → ℕ → List ℕ → Outcome
plain_covered S room [] = timed S room (least_ever S)
plain_covered S room (v ∷ vs) = refusal 6 v

abbrev pub plain_parsed : ℕ → Parsed → Outcome
plain_parsed room (sheet S) = plain_covered S room (cutless S)
plain_parsed room (refused k p) = refusal k p
