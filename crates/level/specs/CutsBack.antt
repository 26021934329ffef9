-- The numbers of the kept cuts give the cuts back, where each has seven leaves.
use Rattle.std.proofs.Common.{ℕ, ◌≡◌, refl, ap, ◌∙◌, List, [], ◌∷◌}
use Rattle.std.specs.List.{All}
use Rattle.std.proofs.lemmas.List.Elements.{All-head, All-tail}
use Rattle.level.specs.declared.cuts.Cut.{Cut}
use Rattle.level.specs.Numbers.{numbers_of, numbers, cuts_of, Seven}

-- the law of the inverse of the view
pub cuts-back : (rows : List Cut) → All (λ (c : Cut). Seven c.leaves) rows → cuts_of (numbers rows) ≡ rows
unfolding numbers numbers_of cuts_of
cuts-back [] h = refl
cuts-back (c ∷ rows) h =
    let full = λ (d : Cut). Seven d.leaves in
    ap (λ (xs : List ℕ). record { count = c.count; leaves = xs } ∷ cuts_of (numbers rows)) (All-head full c rows h)
    ∙ ap (λ (cs : List Cut). c ∷ cs) (cuts-back rows (All-tail full c rows h))
