-- What the sheet writer promises, of every answer that is the defined outcome's.
use Prim.Native.Nat.{ℕ, ◌≤◌}
use mathlib.Core.Path.{◌≡◌, refl, sym, ap, ◌∙◌}
use mathlib.Core.Bool.{Bool, true, false}
use mathlib.Core.List.{List}
use mathlib.Core.Logic.{◌⊎◌, inl, inr}
use native.Mathlib.Omega.{arith}
use lib.Dec.{leb}
use lib.ListN.{length, take}
use borrow.Author.Tests.{leb-true, leb-false}
use Rattle.maps.specs.Lists.{All}
use Rattle.maps.specs.Reading.{ReadsAs}
use Rattle.maps.specs.Form.{Rule, among, boxed, under, rule_ground}
use Rattle.maps.specs.Outcome.{accepted, refusal, outcome_number}
use Rattle.maps.specs.Records.{Records, sheet_meant, records_of}
use Rattle.maps.specs.WriteLaws.{WriterLaws}
use Rattle.maps.specs.Write.{Passes, First, numbers, spelling, writing}
use Rattle.maps.proofs.Written.{reproduced, meant-spelling}
use Rattle.maps.proofs.WrittenSize.{sheet-most, numbers-most}
use Rattle.maps.proofs.WriteLaws.{writer-laws}
use Rattle.out_bytes.specs.Outcome.{Answered}
use Rattle.demands.specs.Answers.{Written, Refused}
use Rattle.demands.specs.Stores.{Stores, maps_sheet_most, StoreBounded}
use Rattle.demands.proofs.Answers as A

module _ (R : Records) (buffer : List ℕ) (number place : ℕ) (after : List ℕ) (is : Answered (writing R (length buffer)) number place buffer after) where
  accepts : (bytes : List ℕ) → writing R (length buffer) ≡ accepted bytes → Written buffer number place after bytes
  accepts = A.accepts (writing R (length buffer)) number place buffer after is

  refuses : (k p : ℕ) → (k ≡ 0 → ⊥) → writing R (length buffer) ≡ refusal k p → Refused buffer number place after k p
  refuses = A.refuses (writing R (length buffer)) number place buffer after is

  -- grounds 3 and 4
  first-ground : {k i : ℕ} → First (numbers R) k i → (k ≡ 3) ⊎ (k ≡ 4)
  first-ground f = go f.faulty.rule f.number
    where
      go : (r : Rule) {k : ℕ} → rule_ground r ≡ k → (k ≡ 3) ⊎ (k ≡ 4)
      go (among q) e = inl (sym e)
      go (boxed q is_box) e = inl (sym e)
      go (under own) e = inr (sym e)

  not-0 : {k i : ℕ} → First (numbers R) k i → k ≡ 0 → ⊥
  not-0 f e = go (first-ground f) e
    where
      go : {k : ℕ} → (k ≡ 3) ⊎ (k ≡ 4) → k ≡ 0 → ⊥
      go (inl a) e = omega arith
      go (inr a) e = omega arith

  pub stores : Stores R buffer number place after
  stores =
      record {
        first = λ k i f. refuses k i (not-0 f) (laws.first k i f);
        reader = laws.reader;
        short = λ p l. refuses 8 _ (λ e. omega arith) (laws.too_short p l);
        written = λ p l. accepts _ (laws.otherwise p l);
        either = laws.cases;
        again = λ z. again z laws.cases;
        reproduced = λ bytes S r e l. accepts bytes (rw e (reproduced bytes S r (length buffer) l));
      }
    where
      laws : WriterLaws R (length buffer)
      laws = writer-laws R (length buffer)

      again : number ≡ 0 → ((k : ℕ) × (i : ℕ) × First (numbers R) k i) ⊎ All Passes (numbers R) → ReadsAs (take place after) (sheet_meant R) × (records_of (sheet_meant R) ≡ R)
      again z (inl f) = absurd (not-0 f.2 (sym (refuses _ _ (not-0 f.2) (laws.first _ _ f.2)).number_is ∙ z))
      again z (inr p) = roomed (leb (length (spelling (sheet_meant R))) (length buffer)) refl
        where
          roomed : (b : Bool) → leb (length (spelling (sheet_meant R))) (length buffer) ≡ b → ReadsAs (take place after) (sheet_meant R) × (records_of (sheet_meant R) ≡ R)
          roomed true e =
              let o = laws.otherwise p (leb-true (length (spelling (sheet_meant R))) (length buffer) e) in
              let r = laws.again (spelling (sheet_meant R)) o in
              (rw (accepts _ o).front r.0, r.1)
          roomed false e =
              let o = laws.too_short p (leb-false (length (spelling (sheet_meant R))) (length buffer) e) in
              absurd (omega (arith, is.0, ap outcome_number o))

  -- and what number and place can be
  pub store-bounded : StoreBounded (length buffer) number place
  store-bounded = go (writer-laws R (length buffer)).cases
    where
      text : List ℕ
      text = spelling (sheet_meant R)

      fault : (k : ℕ) → (k ≡ 3) ⊎ (k ≡ 4) → number ≡ k → StoreBounded (length buffer) number place
      fault k (inl e) a = record { numbers = inr (inl (a ∙ e)); written = λ z. absurd (omega arith); wanted = λ z. absurd (omega arith); enough = λ l z. omega arith }
      fault k (inr e) a = record { numbers = inr (inr (inl (a ∙ e))); written = λ z. absurd (omega arith); wanted = λ z. absurd (omega arith); enough = λ l z. omega arith }

      most : All Passes (numbers R) → length text ≤ maps_sheet_most
      most p = rw (meant-spelling R p) (omega (arith, sheet-most, numbers-most R p))

      roomed : All Passes (numbers R) → (b : Bool) → leb (length text) (length buffer) ≡ b → StoreBounded (length buffer) number place
      roomed p true e =
          let w = stores.written p (leb-true (length text) (length buffer) e) in
          record { numbers = inl w.number_is; written = λ z. omega (arith, w.place_is, most p); wanted = λ z. absurd (omega (arith, w.number_is)); enough = λ l z. omega (arith, w.number_is) }
      roomed p false e =
          let h = leb-false (length text) (length buffer) e in
          let w = stores.short p h in
          record { numbers = inr (inr (inr w.number_is)); written = λ z. absurd (omega (arith, w.number_is)); wanted = λ z. omega (arith, w.place_is, most p); enough = λ l z. omega (arith, most p) }

      go : ((k : ℕ) × (i : ℕ) × First (numbers R) k i) ⊎ All Passes (numbers R) → StoreBounded (length buffer) number place
      go (inl f) = fault f.0 (first-ground f.2) (stores.first f.0 f.1 f.2).number_is
      go (inr p) = roomed p (leb (length text) (length buffer)) refl
