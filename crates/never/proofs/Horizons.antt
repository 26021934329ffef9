-- The labels of any horizon, of a sheet without entries: `least_ever` gives the least legal labels, or says late, and then nothing is legal under any
-- horizon. Where they are in time for a horizon they are the least legal ones within it; where not, nothing is legal within it, but within a larger one.
use Prim.Native.Nat.{ℕ, ◌+◌, ◌≤◌, ◌<◌}
use mathlib.Core.Path.{◌≡◌, refl, sym, subst, ap}
use mathlib.Core.Bool.{Bool, true, false}
use mathlib.Core.List.{List, []}
use native.Mathlib.Omega.{arith}
use lib.Dec.{leb}
use lib.ListN.{length}
use borrow.Author.Tests.{leb-true, leb-false}
use Rattle.maps.specs.Label.{Label}
use Rattle.maps.specs.Sheet.{Sheet, size, latency}
use Rattle.maps.specs.WellFormed.{WellFormed}
use Rattle.maps.specs.Legal.{Legal, NoneLegal, Never, Longer, Least}
use Rattle.maps.specs.Least.{at, in_time, Labels, late, least, Answer, none, some, least_within, ready_bound, least_ever}
use Rattle.maps.specs.Outcome.{cutless}
use Rattle.maps.proofs.Over.{all-below, all-fails}
use Rattle.maps.proofs.Fix.{unique, is-least, is-late}
use Rattle.maps.proofs.Planned.{least-right}
use Rattle.relax.proofs.Closed.{Closed, well-closed}
use Rattle.never.specs.Ever as E
use Rattle.never.proofs.ReadyBounds.{least-within, least-ready}

ever-is : (S : Sheet) → least_ever S ≡ least_within S (ready_bound S)
unfolding least_ever
ever-is S = refl

module _ (S : Sheet) (well : WellFormed S) (free : S.windows ≡ []) (cuts : cutless S ≡ []) where
  closed : Closed S
  closed = well-closed S well

  -- whatever has a legal labelling has least labels, and these are within `ready_bound`
  some-least : (M : ℕ → Label) (G : ℕ) → Legal S M G → (L : List Label) × Least S (ready_bound S) (at L)
  some-least M G ok = go (least-right S well cuts G)
    where
      go : {r : Labels} → Answer S G r → (L : List Label) × Least S (ready_bound S) (at L)
      go (none h) = absurd (h M ok)
      go (some {L} n h) = (L, least-ready S closed free G (at L) h)

  -- Why no horizon need be tried but `ready_bound`. Suppose that nothing is legal within it, and M within some G. Then there are least labels within G,
  -- for the computed ones are (`least-right`), and no least label is later than `ready_bound`: they are legal within it after all.
  pub ever-right : E.Ever S (least_ever S)
  ever-right = subst (E.Ever S) (sym (ever-is S)) (go (least-right S well cuts (ready_bound S)))
    where
      go : {r : Labels} → Answer S (ready_bound S) r → E.Ever S r
      go (none h) = E.never (λ G M ok. let r = some-least M G ok in h (at r.0) r.1.legal)
      go (some {L} n h) = E.some n h

  pub ever-least : (L : List Label) → least_ever S ≡ least L → Least S (ready_bound S) (at L)
  ever-least L e = go (subst (E.Ever S) e ever-right)
    where
      go : E.Ever S (least L) → Least S (ready_bound S) (at L)
      go (E.some n h) = h

  -- the labels of any horizon, against a horizon H
  module _ (L : List Label) (h : Least S (ready_bound S) (at L)) (H : ℕ) where
    pub in-time : in_time S L H ≡ true → Least S H (at L)
    in-time e =
        least-within S (ready_bound S) H (at L) h
        (λ v l. leb-true _ _ (all-below (λ v. leb ((at L v).step + latency S v) H) (size S) e v l))

    pub past : in_time S L H ≡ false → (v : ℕ) × (v < size S) × (H < (at L v).step + latency S v)
    past e =
        let f = all-fails (λ v. leb ((at L v).step + latency S v) H) (size S) e in
        (f.0, f.1, leb-false _ _ f.2)

    pub none-in-time : in_time S L H ≡ false → NoneLegal S H
    none-in-time e M ok = let f = past e in omega (arith, f.2, (h.least M H ok f.0 f.1).steps, (ok.nodes f.0 f.1).ends)

  pub longer : (L : List Label) → Least S (ready_bound S) (at L) → in_time S L S.horizon ≡ false → Longer S
  longer L h e =
      let f = past L h S.horizon e in
      record {
        none = none-in-time L h S.horizon e;
        horizon = ready_bound S;
        larger = omega (arith, f.2, (h.legal.nodes f.0 f.1).ends);
        labels = at L;
        legal = h.legal;
      }

  -- which computed labels stand for each case
  pub never-computed : Never S → least_ever S ≡ late
  never-computed h = go ever-right
    where
      go : {r : Labels} → E.Ever S r → r ≡ late
      go (E.never k) = refl
      go (E.some {L} n k) = absurd (h (ready_bound S) (at L) k.legal)

  pub longer-computed : Longer S → (L : List Label) × (least_ever S ≡ least L) × (in_time S L S.horizon ≡ false)
  longer-computed h = go ever-right
    where
      go : {r : Labels} → E.Ever S r → (L : List Label) × (r ≡ least L) × (in_time S L S.horizon ≡ false)
      go (E.never k) = absurd (k h.horizon h.labels h.legal)
      go (E.some {L} n k) = (L, refl, pick (in_time S L S.horizon) refl)
        where
          pick : (t : Bool) → in_time S L S.horizon ≡ t → in_time S L S.horizon ≡ false
          pick true e = absurd (h.none (at L) (in-time L k S.horizon e).legal)
          pick false e = e

  pub in-time-computed : (L : List Label) → length L ≡ size S → Least S S.horizon (at L) → (least_ever S ≡ least L) × (in_time S L S.horizon ≡ true)
  in-time-computed L n h = (go ever-right, pick (in_time S L S.horizon) refl)
    where
      l : Least S (ready_bound S) (at L)
      l = least-ready S closed free S.horizon (at L) h

      go : {r : Labels} → E.Ever S r → r ≡ least L
      go (E.never k) = absurd (k S.horizon (at L) h.legal)
      go (E.some {L = R} m k) = ap least (unique S (ready_bound S) R L m n k l)

      pick : (t : Bool) → in_time S L S.horizon ≡ t → in_time S L S.horizon ≡ true
      pick true e = e
      pick false e = absurd (none-in-time L l S.horizon e (at L) h.legal)

  -- a horizon that is no nearer than `ready_bound` gives the same labels
  pub far-ever : (G : ℕ) → ready_bound S ≤ G → least_within S G ≡ least_ever S
  far-ever G far = go ever-right
    where
      go : {r : Labels} → E.Ever S r → least_within S G ≡ r
      go (E.never h) = is-late S G (least-right S well cuts G) (h G)
      go (E.some {L} n h) =
          is-least S G (least-right S well cuts G) L n
          (least-within S (ready_bound S) G (at L) h (λ v l. omega (arith, (h.legal.nodes v l).ends)))
