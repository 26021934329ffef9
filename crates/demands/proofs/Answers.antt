-- What an answer that is an outcome's says of number, place and buffer.
use Prim.Native.Nat.{ℕ}
use mathlib.Core.Path.{◌≡◌, refl, sym, ap, ◌∙◌}
use mathlib.Core.List.{List, ◌++◌}
use lib.ListN.{length, take, drop}
use lib.Seq.{take_at, drop_at}
use Rattle.maps.specs.Outcome.{Outcome, accepted, refusal, outcome_number, outcome_place, buffer_after}
use Rattle.out_bytes.specs.Outcome.{Answered}
use Rattle.demands.specs.Answers.{Written, Refused}

module _ (o : Outcome) (number place : ℕ) (buffer after : List ℕ) (is : Answered o number place buffer after) where
  -- any number but 0 leaves the buffer
  pub untouched : (number ≡ 0 → ⊥) → after ≡ buffer
  untouched n = is.2 ∙ go o (λ z. n (is.0 ∙ z))
    where
      go : (o : Outcome) → (outcome_number o ≡ 0 → ⊥) → buffer_after o buffer ≡ buffer
      go (accepted p) n = absurd (n refl)
      go (refusal k p) n = refl

  -- accepted bytes stand at the front of the buffer
  module _ (p : List ℕ) (e : o ≡ accepted p) where
    pub placed : place ≡ length p
    placed = is.1 ∙ ap outcome_place e

    stored : after ≡ p ++ drop (length p) buffer
    stored = is.2 ∙ ap (λ (o : Outcome). buffer_after o buffer) e

    pub front : take place after ≡ p
    front = ap (take place) stored ∙ take_at p (drop (length p) buffer) place (sym placed)

    pub back : drop place after ≡ drop place buffer
    back = ap (drop place) stored ∙ drop_at p (drop (length p) buffer) place (sym placed) ∙ ap (λ (n : ℕ). drop n buffer) (sym placed)

  -- so an outcome that accepts bytes has them written, and one that refuses writes nothing
  pub accepts : (p : List ℕ) → o ≡ accepted p → Written buffer number place after p
  accepts p e = record { number_is = is.0 ∙ ap outcome_number e; place_is = placed p e; front = front p e; back = back p e }

  pub refuses : (k p : ℕ) → (k ≡ 0 → ⊥) → o ≡ refusal k p → Refused buffer number place after k p
  refuses k p n e =
      let a : number ≡ k = is.0 ∙ ap outcome_number e in
      record { number_is = a; place_is = is.1 ∙ ap outcome_place e; kept = untouched (λ z. n (sym a ∙ z)) }
