-- The first faulty line decides: lines end as `Ending` says, and in no other way.
use Prim.Native.Nat.{ℕ, zero, suc, ◌≤◌}
use mathlib.Core.Path.{◌≡◌, refl, sym, ap, ◌∙◌}
use mathlib.Core.List.{List, [], ◌∷◌, ◌++◌, append-nil}
use native.Mathlib.Omega.{arith}
use Rattle.blif.specs.Words.{Line}
use Rattle.blif.specs.Subset.{Stage, first, head, cover, latched, last, Statement, statement, stage_after}
use Rattle.blif.specs.Model.{Model, extend, fault, Found, found, faulty, ended, judged, model_from}
use Rattle.blif.specs.Grounds.{Right}
use Rattle.blif.specs.Faults.{Faultless, done, line, Ending, with-model, with-fault, without_end}
use Rattle.blif.proofs.GroundsOf.{ground-some, ground-found, right-found, found-ground, found_right}

ended-ends : (past : ℕ) (at : Stage) (M : Model) → Ending past at M [] (ended past at M)
ended-ends past first M = without_end done (λ e. let z : ◌≡◌ {A = ℕ} 0 1 = cc in absurd (omega arith)) refl refl
ended-ends past head M = without_end done (λ e. let z : ◌≡◌ {A = ℕ} 0 1 = cc in absurd (omega arith)) refl refl
ended-ends past (cover n) M = without_end done (λ e. let z : ◌≡◌ {A = ℕ} 0 1 = cc in absurd (omega arith)) refl refl
ended-ends past latched M = without_end done (λ e. let z : ◌≡◌ {A = ℕ} 0 1 = cc in absurd (omega arith)) refl refl
ended-ends past last M = with-model done

-- a line without fault in front
in-front : (past : ℕ) (at : Stage) (M : Model) (l : Line) (ls : List Line) (f : Found) (s : Statement) → Right at M l.words s
    → Ending past (stage_after at s) (extend M l.number s) ls f → Ending past at M (l ∷ ls) f
in-front past at M l ls (found N) s e (with-model h) = with-model (line s e h)
in-front past at M l ls (faulty k p) s e (with-fault h) =
    with-fault (record {
      before = l ∷ h.before;
      here = h.here;
      after = h.after;
      split = ap (λ x. l ∷ x) h.split;
      stage = h.stage;
      model = h.model;
      fine = line s e h.fine;
      ground_is = h.ground_is;
      place = h.place;
    })
in-front past at M l ls (faulty k p) s e (without_end h u n q) = without_end (line s e h) u n q

-- how the lines end
pub lines-end-so : (past : ℕ) (at : Stage) (M : Model) (ls : List Line) → Ending past at M ls (model_from past at M ls)
unfolding model_from
lines-end-so past at M [] = ended-ends past at M
lines-end-so past at M (l ∷ ls) = go (fault M s) refl (model_from past (stage_after at s) (extend M l.number s) ls) (lines-end-so past (stage_after at s) (extend M l.number s) ls)
  where
    s : Statement
    s = statement at l.words

    go : (k : ℕ) → fault M (statement at l.words) ≡ k → (f : Found) → Ending past (stage_after at (statement at l.words)) (extend M l.number (statement at l.words)) ls f → Ending past at M (l ∷ ls) (judged k l.number f)
    go zero e f r = in-front past at M l ls f s (found_right at M l.words e) r
    go (suc k) e f r =
        with-fault (record {
          before = [];
          here = l;
          after = ls;
          split = refl;
          stage = at;
          model = M;
          fine = done;
          ground_is = found-ground at M l.words (suc k) (omega arith) e;
          place = refl;
        })

-- lines without fault are passed
passed : (past : ℕ) (at to : Stage) (M N : Model) (ls rest : List Line) → Faultless at M ls to N → model_from past at M (ls ++ rest) ≡ model_from past to N rest
unfolding model_from
passed past at to M N [] rest done = refl
passed past at to M N (l ∷ ls) rest (line s e h) =
    let r = right-found at M l.words s e in
    ap (λ t. judged (fault M t) l.number (model_from past (stage_after at t) (extend M l.number t) (ls ++ rest))) r.0
    ∙ ap (λ k. judged k l.number (model_from past (stage_after at s) (extend M l.number s) (ls ++ rest))) r.1
    ∙ passed past (stage_after at s) to (extend M l.number s) N ls rest h

-- and in no other way
pub no-other-end : (past : ℕ) (at : Stage) (M : Model) (ls : List Line) (f : Found) → Ending past at M ls f → model_from past at M ls ≡ f
unfolding model_from
no-other-end past at M ls (found N) (with-model h) = ap (model_from past at M) (sym (append-nil ls)) ∙ passed past at last M N ls [] h
no-other-end past at M ls (faulty k p) (with-fault h) =
    ap (model_from past at M) h.split
    ∙ passed past at h.stage M h.model h.before (h.here ∷ h.after) h.fine
    ∙ go k (ground-found h.stage h.model h.here.words k h.ground_is) (ground-some h.stage h.model h.here.words k h.ground_is) _
  where
    go : (k : ℕ) → fault h.model (statement h.stage h.here.words) ≡ k → 1 ≤ k → (f : Found) → judged (fault h.model (statement h.stage h.here.words)) h.here.number f ≡ faulty k p
    go zero e l f = absurd (omega arith)
    go (suc k) e l f = ap (λ k. judged k h.here.number f) e ∙ ap (faulty (suc k)) h.place
no-other-end past at M ls (faulty k p) (without_end {stage = stage} {N = N} h u n q) = ap (model_from past at M) (sym (append-nil ls)) ∙ passed past at stage M N ls [] h ∙ go stage u
  where
    nine : faulty 9 past ≡ faulty k p
    nine = ap (λ j. faulty j past) (sym n) ∙ ap (faulty k) (sym q)

    go : (s : Stage) → (s ≡ last → ⊥) → ended past s N ≡ faulty k p
    go first v = nine
    go head v = nine
    go (cover m) v = nine
    go latched v = nine
    go last v = absurd (v refl)
