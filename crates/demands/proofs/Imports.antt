-- What the importer promises, of every answer that is the defined outcome's.
use Prim.Native.Nat.{ℕ, ◌+◌, ◌≤◌, ◌<◌}
use mathlib.Core.Path.{◌≡◌, refl, ap, ◌∙◌}
use mathlib.Core.Bool.{Bool, true, false, cond, ◌&&◌}
use mathlib.Core.List.{List}
use mathlib.Core.Logic.{◌⊎◌, inl, inr}
use native.Mathlib.Omega.{arith}
use lib.Dec.{leb}
use lib.ListN.{length, take}
use borrow.Author.Tests.{le-leb, lt-leb, leb-true, leb-false}
use Rattle.maps.specs.Sheet.{Sheet}
use Rattle.maps.specs.Write.{spelling}
use Rattle.maps.specs.WellFormed.{WellFormed}
use Rattle.maps.specs.Reading.{ReadsAs}
use Rattle.maps.specs.Records.{records_of}
use Rattle.maps.specs.Outcome.{accepted, refusal, within, outcome_number, outcome_place}
use Rattle.maps.proofs.RecordLaws.{well-passes}
use Rattle.maps.proofs.WrittenSize.{sheet-most, numbers-most}
use Rattle.blif.specs.Lines.{lines}
use Rattle.blif.specs.Words.{Word}
use Rattle.blif.specs.Subset.{Stage}
use Rattle.blif.specs.Model.{Model}
use Rattle.blif.specs.Limits.{Caller, callable, short, text_most}
use Rattle.blif.specs.Grounds.{Callable, GroundOf, by_form, by_name, by-limit}
use Rattle.blif.specs.Relations.{SheetOfText}
use Rattle.blif.specs.Import.{imported, refused, import_sheet, handed, importing}
use Rattle.blif.specs.Import as I
use Rattle.blif.specs.ImportLaws.{ImportLaws, Way}
use Rattle.blif.specs.ImportLaws as W
use Rattle.blif.proofs.Ordering.{clash}
use Rattle.blif.proofs.Sheets.{callable_of}
use Rattle.blif.proofs.Places.{Place, caller's, text's, places}
use Rattle.blif.proofs.ImportLaws.{import-laws}
use Rattle.out_bytes.specs.Outcome.{Answered}
use Rattle.demands.specs.Answers.{Written, Refused}
use Rattle.demands.specs.Stores.{maps_sheet_most}
use Rattle.demands.specs.Imports.{Imported, Imports, ImportBounded}
use Rattle.demands.proofs.Answers.{accepts, refuses, untouched}

-- bytes that have room, and bytes that have not
within-fits : (room : ℕ) (p : List ℕ) → length p ≤ room → within room p ≡ accepted p
within-fits room p l = rw (le-leb (length p) room l) refl

within-short : (room : ℕ) (p : List ℕ) → room < length p → within room p ≡ refusal 8 (length p)
within-short room p l = rw (lt-leb (length p) room l) refl

-- no sheet is longer than `maps_sheet_most`
spelling-most : (S : Sheet) → WellFormed S → length (spelling S) ≤ maps_sheet_most
unfolding spelling
spelling-most S well = omega (arith, sheet-most, numbers-most (records_of S) (well-passes S well))

-- grounds 9, 10 and 11
abbrev Ground : ℕ → Type 0
Ground k = (k ≡ 9) ⊎ ((k ≡ 10) ⊎ (k ≡ 11))

ground-high : {k : ℕ} → Ground k → 9 ≤ k
ground-high (inl e) = omega arith
ground-high (inr (inl e)) = omega arith
ground-high (inr (inr e)) = omega arith

ground-number : {at : Stage} {M : Model} {ws : List Word} {k : ℕ} → GroundOf at M ws k → Ground k
ground-number (by_form n) = inl refl
ground-number (by_name s m f) = inr (inl refl)
ground-number (by-limit s m n f) = inr (inr refl)

module _ (text : List ℕ) (c : Caller) (buffer : List ℕ) (number place : ℕ) (after : List ℕ) (is : Answered (importing text c (length buffer)) number place buffer after) where
  laws : ImportLaws text c (length buffer)
  laws = import-laws text c (length buffer)

  refusing : (k p : ℕ) → (k ≡ 0 → ⊥) → importing text c (length buffer) ≡ refusal k p → Refused buffer number place after k p
  refusing = refuses (importing text c (length buffer)) number place buffer after is

  -- the sheet of the text is written, or lacks room
  outcome-sheet : (S : Sheet) → SheetOfText text c S → ReadsAs (spelling S) S → importing text c (length buffer) ≡ within (length buffer) (spelling S)
      → Imported text c buffer number place after S
  outcome-sheet S t r e =
      record {
        of-text = t;
        reads = r;
        written = λ l. accepts (importing text c (length buffer)) number place buffer after is (spelling S) (e ∙ within-fits (length buffer) (spelling S) l);
        short = λ l. refusing 8 (length (spelling S)) (λ z. omega arith) (e ∙ within-short (length buffer) (spelling S) l);
      }

  -- which of the two is so
  abbrev Handed : Sheet → Type 0
  Handed S = Written buffer number place after (spelling S) ⊎ ((length buffer < length (spelling S)) × Refused buffer number place after 8 (length (spelling S)))

  roomed : (S : Sheet) → Imported text c buffer number place after S → Handed S
  roomed S i = go (leb (length (spelling S)) (length buffer)) refl
    where
      go : (b : Bool) → leb (length (spelling S)) (length buffer) ≡ b → Handed S
      go true e = inl (i.written (leb-true (length (spelling S)) (length buffer) e))
      go false e = let l = leb-false (length (spelling S)) (length buffer) e in inr (l, i.short l)

  -- the number is 9, 10 or 11, or there is a sheet of the text
  ends : Ground number ⊎ ((S : Sheet) × Imported text c buffer number place after S)
  ends = go laws.cases
    where
      said : (k p : ℕ) → importing text c (length buffer) ≡ refusal k p → number ≡ k
      said k p e = is.0 ∙ ap outcome_number e

      go : Way text c → Ground number ⊎ ((S : Sheet) × Imported text c buffer number place after S)
      go (W.barred b) = inl (inr (inr (said 11 0 (laws.barred b))))
      go (W.faulty h l k p f) = inl (rw (said k p (laws.faulty h l k p f)) (ground-number f.ground_is))
      go (W.endless h l stage N r u) = inl (inl (said 9 _ (laws.endless h l stage N r u)))
      go (W.undefined h l N o r u) = inl (inr (inl (said 10 _ (laws.undefined h l N o r u))))
      go (W.sheet h l N r a) = let s = laws.sheet h l N r a in inr (s.0, outcome-sheet s.0 s.1 s.2 s.3)

  -- the place of any number above 8
  place_of : 9 ≤ number → Place text c number place
  unfolding importing
  place_of n = go (import_sheet text c) refl is.0 is.1
    where
      low : (b : Bool) (p : List ℕ) → outcome_number (cond b (accepted p) (refusal 8 (length p))) ≤ 8
      low true p = omega arith
      low false p = omega arith

      go : (i : I.Imported) → import_sheet text c ≡ i → number ≡ outcome_number (handed (length buffer) i) → place ≡ outcome_place (handed (length buffer) i) → Place text c number place
      go (imported S) e a b = absurd (omega (arith, a, low (leb (length (spelling S)) (length buffer)) (spelling S)))
      go (refused k p) e a b = rw (a, b) (places text c k p e)

  -- each field is a law of the outcome, said of the answer
  pub imports : Imports text c buffer number place after
  imports =
      record {
        caller = λ h. refusing 11 0 (λ z. omega arith) (laws.barred (inl h));
        longer = λ l. refusing 11 0 (λ z. omega arith) (laws.barred (inr l));
        faulty = λ h l k p f. refusing k p (λ z. omega (arith, ground-high (ground-number f.ground_is))) (laws.faulty h l k p f);
        endless = λ h l stage N r u. refusing 9 _ (λ z. omega arith) (laws.endless h l stage N r u);
        undefined = λ h l N o r u. refusing 10 _ (λ z. omega arith) (laws.undefined h l N o r u);
        sheet = λ h l N r a. let s = laws.sheet h l N r a in (s.0, outcome-sheet s.0 s.1 s.2 s.3);
        either = laws.cases;
        again = λ z. again z ends;
        untouched = untouched (importing text c (length buffer)) number place buffer after is;
        line = λ h l n. line h l (place_of n);
      }
    where
      again : number ≡ 0 → Ground number ⊎ ((S : Sheet) × Imported text c buffer number place after S)
          → (S : Sheet) × SheetOfText text c S × ReadsAs (take place after) S
      again z (inl n) = absurd (omega (arith, ground-high n))
      again z (inr s) = go (roomed s.0 s.1)
        where
          go : Handed s.0 → (S : Sheet) × SheetOfText text c S × ReadsAs (take place after) S
          go (inl w) = (s.0, s.1.of-text, rw w.front s.1.reads)
          go (inr w) = absurd (omega (arith, w.1.number_is))

      line : Callable c → length text ≤ text_most → Place text c number place → (1 ≤ place) × (place ≤ length (lines text) + 1)
      line h l (caller's b n p) = let t : (callable c && short text) ≡ true = rw (callable_of c h, le-leb (length text) text_most l) refl in absurd (clash (callable c && short text) t b)
      line h l (text's b n p) = (n, p)

  -- and what number and place can be
  pub import-bounded : ImportBounded (length buffer) number place
  import-bounded = go ends
    where
      line : 9 ≤ number → number ≤ 10 → Place text c number place → 1 ≤ place
      line l m (caller's b n p) = absurd (omega arith)
      line l m (text's b n p) = n

      at-line : (number ≡ 9) ⊎ (number ≡ 10) → 1 ≤ place
      at-line (inl e) = line (omega arith) (omega arith) (place_of (omega arith))
      at-line (inr e) = line (omega arith) (omega arith) (place_of (omega arith))

      go : Ground number ⊎ ((S : Sheet) × Imported text c buffer number place after S) → ImportBounded (length buffer) number place
      go (inl n) = record { numbers = inr (inr n); written = λ z. absurd (omega (arith, ground-high n)); wanted = λ z. absurd (omega (arith, ground-high n)); enough = λ l z. omega (arith, ground-high n); line = at-line }
      go (inr s) = handed-over (roomed s.0 s.1)
        where
          most : length (spelling s.0) ≤ maps_sheet_most
          most = spelling-most s.0 s.1.reads.well

          handed-over : Handed s.0 → ImportBounded (length buffer) number place
          handed-over (inl w) = record { numbers = inl w.number_is; written = λ z. omega (arith, w.place_is, most); wanted = λ z. absurd (omega (arith, w.number_is)); enough = λ l z. omega (arith, w.number_is); line = at-line }
          handed-over (inr w) = record { numbers = inr (inl w.1.number_is); written = λ z. absurd (omega (arith, w.1.number_is)); wanted = λ z. omega (arith, w.1.place_is, most); enough = λ l z. omega (arith, w.0, most); line = at-line }
