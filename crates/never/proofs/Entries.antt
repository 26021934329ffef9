-- The outcome of a sheet that has passed grounds 1 to 6, by whether it has entries of windows. With entries it is 7 exactly if nothing is legal within H;
-- otherwise the least labels within H are planned. Without, it is that of the labels of any horizon (`Horizons`).
use Prim.Native.Nat.{ℕ}
use mathlib.Core.Path.{◌≡◌, refl, subst, ap, ◌∙◌}
use mathlib.Core.List.{List, [], ◌∷◌}
use mathlib.Core.Logic.{◌⊎◌, inl, inr}
use lib.ListN.{length}
use Rattle.maps.specs.Label.{Label}
use Rattle.maps.specs.Sheet.{Sheet, Window, size}
use Rattle.maps.specs.WellFormed.{WellFormed}
use Rattle.maps.specs.Legal.{NoneLegal, Least}
use Rattle.maps.specs.Least.{at, Labels, least, Answer, none, some, least_within, least_ever}
use Rattle.maps.specs.Plan.{plan}
use Rattle.maps.specs.Outcome.{refusal, within, timed, windowed, labelled, cutless}
use Rattle.maps.proofs.Fix.{is-least, is-late}
use Rattle.maps.proofs.Planned.{least-right}

module _ (S : Sheet) where
  -- no entries
  pub plain-labelled : S.windows ≡ [] → (room : ℕ) → labelled S room S.windows ≡ timed S room (least_ever S)
  plain-labelled e room = ap (labelled S room) e

  -- entries
  pub entries-labelled : (S.windows ≡ [] → ⊥) → (room : ℕ) → labelled S room S.windows ≡ windowed S room (least_within S S.horizon)
  entries-labelled f room = go S.windows refl
    where
      go : (ws : List Window) → S.windows ≡ ws → labelled S room ws ≡ windowed S room (least_within S S.horizon)
      go [] e = absurd (f e)
      go (w ∷ ws) e = refl

  -- labels that are computed within H are the least legal ones
  pub within-least : WellFormed S → cutless S ≡ [] → (L : List Label) → least_within S S.horizon ≡ least L → Least S S.horizon (at L)
  within-least well cuts L e = go (subst (Answer S S.horizon) e (least-right S well cuts S.horizon))
    where
      go : Answer S S.horizon (least L) → Least S S.horizon (at L)
      go (some n h) = h

  module _ (well : WellFormed S) (cuts : cutless S ≡ []) (entries : S.windows ≡ [] → ⊥) where
    pub entries-late : NoneLegal S S.horizon → (room : ℕ) → labelled S room S.windows ≡ refusal 7 0
    entries-late h room = entries-labelled entries room ∙ ap (windowed S room) (is-late S S.horizon (least-right S well cuts S.horizon) h)

    pub entries-least : (L : List Label) → length L ≡ size S → Least S S.horizon (at L) → (room : ℕ) → labelled S room S.windows ≡ within room (plan S L)
    entries-least L n h room =
        entries-labelled entries room ∙ ap (windowed S room) (is-least S S.horizon (least-right S well cuts S.horizon) L n h)

    -- and one of the two is so
    pub entries-found : NoneLegal S S.horizon ⊎ ((L : List Label) × (length L ≡ size S) × Least S S.horizon (at L))
    entries-found = go (least-right S well cuts S.horizon)
      where
        go : {r : Labels} → Answer S S.horizon r → NoneLegal S S.horizon ⊎ ((L : List Label) × (length L ≡ size S) × Least S S.horizon (at L))
        go (none h) = inl h
        go (some {L} n h) = inr (L, n, h)
