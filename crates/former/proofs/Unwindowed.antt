-- Without entries, whatever the period, the legal labellings are those of before windows, and so is each round of the computed labels.
use Prim.Native.Nat.{ℕ}
use mathlib.Core.Path.{◌≡◌, refl, sym, subst, ap}
use mathlib.Core.Logic.{◌↔◌}
use mathlib.Core.List.{List, [], ◌∷◌}
use Rattle.maps.specs.Label.{Label, raised, ◌≼◌}
use Rattle.maps.specs.Sheet.{Sheet, Window, window_in, node, window}
use Rattle.maps.specs.Window.{Open}
use Rattle.maps.specs.WellFormed.{WellFormed}
use Rattle.maps.specs.Legal.{Legal}
use Rattle.maps.specs.Least.{asked_at, relaxed_at}
use Rattle.maps.specs.Outcome.{labelled, covered}
use Rattle.maps.proofs.Order.{≼_refl}
use Rattle.maps.proofs.Windows.{whole_open, opened-from, opened-least}
use Rattle.maps.proofs.Fix.{≼-antisym}
use Rattle.maps.proofs.Planned.{windows}
use Rattle.former.specs.Plain.{Plain, plain_at, plain_covered}

module _ (S : Sheet) where
  -- legal with windows is legal without
  pub legal-plain : (L : ℕ → Label) (H : ℕ) → Legal S L H → Plain S L H
  legal-plain L H ok =
      record {
        nodes = λ v l. let k = ok.nodes v l in
            record { low = k.low; high = k.high; ends = k.ends; after = k.after; carried = k.carried };
        differences = ok.differences;
      }

  -- legal without windows, each node in an open step, is legal with them
  pub open-legal : (L : ℕ → Label) (H : ℕ) → ((v : ℕ) → Open S.period (window S v) (L v).step) → Plain S L H → Legal S L H
  open-legal L H opens ok =
      record {
        nodes = λ v l. let k = ok.nodes v l in
            record { low = k.low; high = k.high; ends = k.ends; after = k.after; carried = k.carried; starts = opens v };
        differences = ok.differences;
      }

  module _ (well : WellFormed S) (empty : S.windows ≡ []) where
    every-open : (v s : ℕ) → Open S.period (window S v) s
    every-open v s =
        subst (λ (w : Window). Open S.period w s) (sym (ap (window_in S.period v) empty)) (whole_open S.period v s well.period.least)

    pub plain-legal : (L : ℕ → Label) (H : ℕ) → Plain S L H → Legal S L H
    plain-legal L H = open-legal L H (λ v. every-open v (L v).step)

    pub legal-is-plain : (L : ℕ → Label) (H : ℕ) → Legal S L H ↔ Plain S L H
    legal-is-plain L H = (legal-plain L H, plain-legal L H)

    -- each label asked is in an open step
    pub round-plain : (L : List Label) (v : ℕ) → relaxed_at S L v ≡ plain_at S L v
    unfolding relaxed_at
    round-plain L v =
        ap (raised (node S v).delay)
        (≼-antisym (opened-least S.period (window S v) (asked_at S L v) (windows S well v) (asked_at S L v) ≼_refl (every-open v _)) (opened-from S.period (window S v) (asked_at S L v)))

    pub covered-plain : (room : ℕ) (vs : List ℕ) → covered S room vs ≡ plain_covered S room vs
    covered-plain room [] = ap (labelled S room) empty
    covered-plain room (v ∷ vs) = refl
