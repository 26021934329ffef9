-- What holds of the outcome of importing, as `specs/ImportLaws.antt` states it.
use Prim.Native.Nat.{ℕ, ◌+◌, ◌≤◌}
use mathlib.Core.Path.{◌≡◌, refl, ap, ◌∙◌}
use mathlib.Core.Bool.{Bool, true, false, ◌&&◌, not}
use mathlib.Core.List.{List, [], ◌∷◌}
use mathlib.Core.Logic.{◌⊎◌, inl, inr}
use native.Mathlib.Omega.{arith}
use lib.ListN.{length}
use borrow.Author.Tests.{le-leb, leb-true, leb-false}
use Rattle.maps.specs.Lists.{All, keep}
use Rattle.maps.specs.Sheet.{Sheet}
use Rattle.maps.proofs.Over.{and-true}
use Rattle.maps.proofs.Member.{keep_append}
use Rattle.blif.specs.Lines.{lines}
use Rattle.blif.specs.Words.{lines_of}
use Rattle.blif.specs.Subset.{first}
use Rattle.blif.specs.Names.{Definition, names_of, OutputName, has}
use Rattle.blif.specs.Limits.{Caller, callable, short, text_most}
use Rattle.blif.specs.Model.{empty, Found, found, faulty, model_of}
use Rattle.blif.specs.Grounds.{Callable}
use Rattle.blif.specs.Faults.{Ending, with-model, with-fault, without_end, Answered, FirstUndefined}
use Rattle.blif.specs.Import.{sheet_of, Imported, imported, refused, with_outputs, of_found, import_sheet, handed, importing}
use Rattle.blif.specs.ImportLaws.{Barred, Way, ImportLaws}
use Rattle.blif.specs.ImportLaws as W
use Rattle.blif.proofs.Ordering.{clash}
use Rattle.blif.proofs.GroundsOf.{is_false, has_in, has-out}
use Rattle.blif.proofs.FirstFaults.{lines-end-so, no-other-end}
use Rattle.blif.proofs.Sheets.{callable-true, callable_of, imported-is, imported-well}

-- the test of a name put out
abbrev missing : List Definition → OutputName → Bool
missing ds o = not (has (names_of ds) o.name)

answered_test : (ds : List Definition) (o : OutputName) → Answered ds o → missing ds o ≡ false
answered_test ds o m = ap not (has_in (names_of ds) o.name m)

undefined-test : (ds : List Definition) (o : OutputName) → (Answered ds o → ⊥) → missing ds o ≡ true
undefined-test ds o u = ap not (is_false (has (names_of ds) o.name) (λ e. u (has-out (names_of ds) o.name e)))

none_kept : (ds : List Definition) (os : List OutputName) → All (Answered ds) os → keep (missing ds) os ≡ []
none_kept ds [] h = refl
none_kept ds (o ∷ os) h = rw (answered_test ds o h.0) (none_kept ds os h.1)

first-kept : (ds : List Definition) (os : List OutputName) (o : OutputName) → FirstUndefined ds os o → (rest : List OutputName) × (keep (missing ds) os ≡ o ∷ rest)
first-kept ds os o h = (
  keep (missing ds) h.after,
  ap (keep (missing ds)) h.split ∙ keep_append (missing ds) h.before (o ∷ h.after) ∙ rw (none_kept ds h.before h.answered, undefined-test ds o h.undefined) refl,
)

-- all names put out are defined, or there is a first that is not
outputs-end : (ds : List Definition) (os : List OutputName) → All (Answered ds) os ⊎ ((o : OutputName) × FirstUndefined ds os o)
outputs-end ds [] = inl tt
outputs-end ds (o ∷ os) = go (has (names_of ds) o.name) refl (outputs-end ds os)
  where
    go : (b : Bool) → has (names_of ds) o.name ≡ b → All (Answered ds) os ⊎ ((x : OutputName) × FirstUndefined ds os x) → All (Answered ds) (o ∷ os) ⊎ ((x : OutputName) × FirstUndefined ds (o ∷ os) x)
    go true e (inl h) = inl (has-out (names_of ds) o.name e, h)
    go true e (inr h) =
        let f = h.1 in
        inr (
          h.0,
          record {
            before = o ∷ f.before;
            after = f.after;
            split = ap (λ x. o ∷ x) f.split;
            answered = (has-out (names_of ds) o.name e, f.answered);
            undefined = f.undefined;
          },
        )
    go false e r = inr (o, record { before = []; after = os; split = refl; answered = tt; undefined = λ m. clash (has (names_of ds) o.name) (has_in (names_of ds) o.name m) e })

module _ (text : List ℕ) (c : Caller) where
  -- by the test of what is looked at first
  tested : (b : Bool) → (callable c && short text) ≡ b → import_sheet text c ≡ elim b as (λ b. Imported) [ true ↦ of_found c (model_of text) | false ↦ refused 11 0 ]
  unfolding import_sheet
  tested b e = ap (λ b. elim b as (λ b. Imported) [ true ↦ of_found c (model_of text) | false ↦ refused 11 0 ]) e

  barred : Barred text c → import_sheet text c ≡ refused 11 0
  barred h = tested false (is_false (callable c && short text) (λ e. go (and-true (callable c) (short text) e) h))
    where
      go : (callable c ≡ true) × (short text ≡ true) → Barred text c → ⊥
      go e (inl h) = h (callable-true c e.0)
      go e (inr l) = absurd (omega (arith, l, leb-true (length text) text_most e.1))

  -- where neither is so, the end of the lines decides
  decided : Callable c → length text ≤ text_most → (f : Found) → Ending (length (lines text) + 1) first empty (lines_of text) f → import_sheet text c ≡ of_found c f
  unfolding model_of
  decided h l f e =
      let b : (callable c && short text) ≡ true = rw (callable_of c h, le-leb (length text) text_most l) refl in
      tested true b ∙ ap (of_found c) (no-other-end (length (lines text) + 1) first empty (lines_of text) f e)

  -- and one of the five is so
  cases : Way text c
  cases = go (callable c) refl (short text) refl
    where
      ended : Callable c → length text ≤ text_most → (f : Found) → Ending (length (lines text) + 1) first empty (lines_of text) f → Way text c
      ended h l (found N) (with-model e) = go (outputs-end N.definitions N.outputs)
        where
          go : All (Answered N.definitions) N.outputs ⊎ ((o : OutputName) × FirstUndefined N.definitions N.outputs o) → Way text c
          go (inl a) = W.sheet h l N e a
          go (inr u) = W.undefined h l N u.0 e u.1
      ended h l (faulty k p) (with-fault f) = W.faulty h l k p f
      ended h l (faulty k p) (without_end {stage = stage} {N = N} e u n q) = W.endless h l stage N e u

      go : (a : Bool) → callable c ≡ a → (b : Bool) → short text ≡ b → Way text c
      go false e b f = W.barred (inl (λ h. clash (callable c) (callable_of c h) e))
      go true e false f = W.barred (inr (leb-false (length text) text_most f))
      go true e true f = ended (callable-true c e) (leb-true (length text) text_most f) _ (lines-end-so (length (lines text) + 1) first empty (lines_of text))

-- The lines end in one way, so what is so of them decides the outcome.
pub import-laws : (text : List ℕ) (c : Caller) (room : ℕ) → ImportLaws text c room
unfolding importing
import-laws text c room = record {
  barred = λ h. ap (handed room) (barred text c h);
  faulty = λ h l k p f. ap (handed room) (decided text c h l (faulty k p) (with-fault f));
  endless = λ h l stage N e u. ap (handed room) (decided text c h l (faulty 9 (length (lines text) + 1)) (without_end e u refl refl));
  undefined = λ h l N o e u.
      ap (handed room) (decided text c h l (found N) (with-model e) ∙ ap (with_outputs c N) (first-kept N.definitions N.outputs o u).1);
  sheet = λ h l N e a.
      let S : Sheet = sheet_of c N in
      let i : import_sheet text c ≡ imported S = decided text c h l (found N) (with-model e) ∙ ap (with_outputs c N) (none_kept N.definitions N.outputs a) in
      (S, imported-is text c S i, record { well = imported-well text c S i; spelled = refl }, ap (handed room) i);
  cases = cases text c;
}
