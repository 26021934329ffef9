-- The three demands hold of every answer that is the defined outcome's.
use Prim.Native.Nat.{ℕ, zero, suc, ◌≤◌, ◌<◌}
use mathlib.Core.Path.{◌≡◌, refl, sym, subst, ap, ◌∙◌}
use mathlib.Core.Bool.{Bool, true, false, cond, ◌&&◌}
use mathlib.Core.List.Memᴰ
use mathlib.Core.List.{List, [], ◌∷◌, ◌++◌, Memᴰ}
use mathlib.Core.Logic.{◌⊎◌, inl, inr}
use native.Mathlib.Omega.{arith}
use lib.Dec.{leb, ltb, eqb}
use lib.ListN.{length, take}
use borrow.Author.Tests.{leb-true, leb-false, le-leb, lt-leb, ltb-true, ltb-false, eqb-true}
use Rattle.maps.specs.Lists.{mem, keep, below}
use Rattle.maps.specs.Label.{Label}
use Rattle.maps.specs.Sheet.{Sheet, Window, node, size, is_logic}
use Rattle.maps.specs.Cut.{FittingCut, logic_node, cut, fitting_cuts}
use Rattle.maps.specs.Legal.{Legal, CarryingCut, NoneLegal, Never, Longer, Least}
use Rattle.maps.specs.Least.{at, in_time, Labels, least_ever}
use Rattle.maps.specs.Cover.{Used, used, chosen_cut}
use Rattle.maps.specs.Plan.{plan}
use Rattle.maps.specs.Number.{Bytes}
use Rattle.maps.specs.Read.{Parsed, sheet, refused, parse}
use Rattle.maps.specs.Reading.{ReadsAs}
use Rattle.maps.specs.WellFormed.{WellFormed}
use Rattle.maps.specs.Outcome.{Outcome, accepted, refusal, within, within_horizon, timed, labelled, cutless, covered, outcome, outcome_number, outcome_place}
use Rattle.maps.proofs.Over.{and-true}
use Rattle.maps.proofs.Member.{keep-in, below_in, keep_append}
use Rattle.maps.proofs.Enumerate.{clash, complete, sound}
use Rattle.maps.proofs.Chosen.{chosen_is}
use Rattle.maps.proofs.UsedNodes.{used-in, used-complete, used_sound}
use Rattle.maps.proofs.Written.{reads-parse, parse-reads}
use Rattle.maps.proofs.Refusing.{parse-refuses, refuses-parse, refuses-number}
use Rattle.maps.proofs.Planned.{ordered, latency-least, legal-carries, refused-outcome, sheet-outcome}
use Rattle.never.specs.Ever.{Ever, never, some}
use Rattle.never.proofs.Horizons.{ever-right, in-time, longer, never-computed, longer-computed, in-time-computed}
use Rattle.never.proofs.Entries.{plain-labelled, entries-late, entries-least, entries-found}
use Rattle.demands.specs.Demands.{NoEntries, Entries, AllCut, LowestCutless, LeastLabels, Ground, unread, uncut, too_late, too_short, planned, Covers, Demand1, Planned, Demand2, LeastPlan, Demand3}
use Rattle.out_bytes.specs.Outcome.{Answered}
use Rattle.demands.proofs.Answers.{untouched, placed, front, back}

-- the ground of an outcome
abbrev pub GroundOf : (bytes : List ℕ) → (room : ℕ) → Type 0
GroundOf bytes room = Ground bytes room (outcome_number (outcome bytes room)) (outcome_place (outcome bytes room))

parts : {o q : Outcome} → o ≡ q → (outcome_number o ≡ outcome_number q) × (outcome_place o ≡ outcome_place q)
parts e = (ap outcome_number e, ap outcome_place e)

-- ---- the lowest number that passes a test

-- a number below n that passes is kept
kept-fails : (p : ℕ → Bool) (n u : ℕ) → u < n → keep p (below n) ≡ [] → p u ≡ false
kept-fails p n u l e = go (p u) refl
  where
    go : (b : Bool) → p u ≡ b → p u ≡ false
    go true q = absurd (Memᴰ.not-nil (subst (Memᴰ u) e (keep-in p (below_in n u l) q)))
    go false q = q

record First (p : ℕ → Bool) (n v : ℕ) : Type 0 where
  in-range : v < n
  passes : p v ≡ true
  lower : (u : ℕ) → u < v → p u ≡ false

first-kept : (p : ℕ → Bool) (n v : ℕ) (vs : List ℕ) → keep p (below n) ≡ v ∷ vs → First p n v
first-kept p zero v vs e = let z : ◌≡◌ {A = ℕ} 0 1 = cc in absurd (omega arith)
first-kept p (suc n) v vs e = go (keep p (below n)) refl (first-kept p n) (sym (keep_append p (below n) (n ∷ [])) ∙ e)
  where
    last : keep p (below n) ≡ [] → (b : Bool) → p n ≡ b → cond b (n ∷ []) [] ≡ v ∷ vs → First p (suc n) v
    last q true t f =
        let z : n ≡ v = cc in
        subst (First p (suc n)) z (record { in-range = omega arith; passes = t; lower = λ u l. kept-fails p n u l q })
    last q false t f = let z : ◌≡◌ {A = ℕ} 0 1 = cc in absurd (omega arith)

    go : (xs : List ℕ) → keep p (below n) ≡ xs → ((v : ℕ) (vs : List ℕ) → keep p (below n) ≡ v ∷ vs → First p n v)
        → xs ++ keep p (n ∷ []) ≡ v ∷ vs → First p (suc n) v
    go [] q rec f = last q (p n) refl f
    go (x ∷ xs) q rec f =
        let r = rec x xs q in
        let z : x ≡ v = cc in
        subst (First p (suc n)) z (record { in-range = omega (arith, r.in-range); passes = r.passes; lower = r.lower })

-- ---- ground 6

-- the test of ground 6
abbrev lacks : Sheet → ℕ → Bool
lacks S v = is_logic (node S v).kind && eqb (length (fitting_cuts S v)) 0

module _ (S : Sheet) (well : WellFormed S) where
  lacks-none : (v : ℕ) → lacks S v ≡ true → (c : List ℕ) → FittingCut S v c → ⊥
  lacks-none v e c f = go (fitting_cuts S v) refl (eqb-true _ _ (and-true (logic_node S v) _ e).1)
    where
      member : Memᴰ (cut S f.cone) (fitting_cuts S v)
      member = complete S (ordered S well) v f.cone f.is_cone (let q = ap length f.is_cut in let few = f.fits in omega arith)

      go : (cs : List (List ℕ)) → fitting_cuts S v ≡ cs → length cs ≡ 0 → ⊥
      go [] q z = Memᴰ.not-nil (subst (Memᴰ (cut S f.cone)) q member)
      go (x ∷ xs) q z = omega arith

  has_some : (v : ℕ) → logic_node S v ≡ true → lacks S v ≡ false → (c : List ℕ) × FittingCut S v c
  has_some v i e = go (fitting_cuts S v) refl
    where
      go : (cs : List (List ℕ)) → fitting_cuts S v ≡ cs → (c : List ℕ) × FittingCut S v c
      go [] q = let t : lacks S v ≡ true = rw (i, q) in clash (sym e ∙ t)
      go (x ∷ xs) q =
          let k = sound S v i x (subst (Memᴰ x) (sym q) (Memᴰ.head refl)) in
          (x, record { cone = k.0; is_cone = k.1; is_cut = k.3; fits = k.2 })

  -- no id is listed, or the lowest is the first
  all-cut : cutless S ≡ [] → AllCut S
  all-cut e v l i = has_some v i (kept-fails (lacks S) (size S) v l e)

  lowest-cutless : (v : ℕ) (vs : List ℕ) → cutless S ≡ v ∷ vs → LowestCutless S v
  lowest-cutless v vs e =
      let f = first-kept (lacks S) (size S) v vs e in
      record {
        node = f.in-range;
        is_logic = (and-true (logic_node S v) _ f.passes).0;
        none = lacks-none v f.passes;
        lowest = λ u l i. has_some u i (f.lower u l);
      }

  none-cutless : AllCut S → cutless S ≡ []
  none-cutless a = go (cutless S) refl
    where
      go : (vs : List ℕ) → cutless S ≡ vs → cutless S ≡ []
      go [] e = e
      go (v ∷ vs) e =
          let h = lowest-cutless v vs e in
          let k = a v h.node h.is_logic in
          absurd (h.none k.0 k.1)

  one-lowest : (v w : ℕ) → LowestCutless S v → LowestCutless S w → v ≡ w
  one-lowest v w a b = go (ltb v w) (ltb w v) refl refl
    where
      not-below : (v w : ℕ) → LowestCutless S v → LowestCutless S w → v < w → ⊥
      not-below v w a b l = let k = b.lowest v l a.is_logic in a.none k.0 k.1

      go : (x y : Bool) → ltb v w ≡ x → ltb w v ≡ y → v ≡ w
      go true y p q = absurd (not-below v w a b (ltb-true v w p))
      go false true p q = absurd (not-below w v b a (ltb-true w v q))
      go false false p q = omega (arith, ltb-false v w p, ltb-false w v q)

-- ---- labels, marks and leaves

module _ (S : Sheet) (well : WellFormed S) (L : List Label) (ok : Legal S (at L) S.horizon) where
  carrying : (v : ℕ) → v < size S → logic_node S v ≡ true → CarryingCut S (at L) v
  carrying = legal-carries S (at L) S.horizon ok

  marks : (v : ℕ) → Used S (at L) v → mem v (used S L) ≡ true
  marks = used-complete S (ordered S well) L

  covers : Covers S L
  covers =
      record {
        marked = marks;
        marked_only = used_sound S (ordered S well) L carrying;
        chosen = λ v u i.
            rw (marks v u, i) (chosen_is S (ordered S well) L v i (carrying v (used-in S (ordered S well) L v (marks v u)) i));
        leafless = λ v n. go v n (mem v (used S L)) (logic_node S v) refl refl;
      }
    where
      go : (v : ℕ) → (Used S (at L) v → logic_node S v ≡ true → ⊥) → (x y : Bool) → mem v (used S L) ≡ x → logic_node S v ≡ y → cond (x && y) (chosen_cut S L v) [] ≡ []
      go v n true true p q = absurd (n (used_sound S (ordered S well) L carrying v p) q)
      go v n true false p q = refl
      go v n false y p q = refl

-- ---- the outcome of a sheet in which each logic node has a fitting cut

-- nothing is legal under any horizon, nothing within H but within a larger one, nothing within H with entries, or there are least labels
data Found (S : Sheet) : Type 0 where
  nowhere : NoEntries S → Never S → Found S
  further : NoEntries S → Longer S → Found S
  past : Entries S → NoneLegal S S.horizon → Found S
  here : (L : List Label) → LeastLabels S L → Found S

-- a sheet has entries, or none
by_entries : {A : Type 0} (S : Sheet) → (NoEntries S → A) → (Entries S → A) → A
by_entries {A} S f g = go S.windows refl
  where
    go : (ws : List Window) → S.windows ≡ ws → A
    go [] q = f q
    go (w ∷ ws) q = g (λ z. Memᴰ.not-nil (subst (Memᴰ w) (sym q ∙ z) (Memᴰ.head refl)))

module _ (bytes : List ℕ) (S : Sheet) (e : ReadsAs bytes S) (a : AllCut S) where
  none-lacks : cutless S ≡ []
  none-lacks = none-cutless S e.well a

  labelled-outcome : (room : ℕ) → outcome bytes room ≡ labelled S room S.windows
  labelled-outcome room = sheet-outcome bytes S (reads-parse bytes S e) room ∙ ap (covered S room) none-lacks

  timed-outcome : NoEntries S → (room : ℕ) → outcome bytes room ≡ timed S room (least_ever S)
  timed-outcome o room = labelled-outcome room ∙ plain-labelled S o room

  never-outcome : NoEntries S → Never S → (room : ℕ) → outcome bytes room ≡ refusal 12 0
  never-outcome o n room = timed-outcome o room ∙ ap (timed S room) (never-computed S e.well o none-lacks n)

  late-outcome : NoEntries S → Longer S → (room : ℕ) → outcome bytes room ≡ refusal 7 0
  late-outcome o h room =
      let l = longer-computed S e.well o none-lacks h in
      timed-outcome o room ∙ ap (timed S room) l.1 ∙ ap (within_horizon S room l.0) l.2

  past-outcome : Entries S → NoneLegal S S.horizon → (room : ℕ) → outcome bytes room ≡ refusal 7 0
  past-outcome o h room = labelled-outcome room ∙ entries-late S e.well none-lacks o h room

  least-outcome : (L : List Label) → LeastLabels S L → (room : ℕ) → outcome bytes room ≡ within room (plan S L)
  least-outcome L h room =
      by_entries S
      (λ o.
      let l = in-time-computed S e.well o none-lacks L h.sized h.is_least in
      timed-outcome o room ∙ ap (timed S room) l.0 ∙ ap (within_horizon S room L) l.1)
      (λ o. labelled-outcome room ∙ entries-least S e.well none-lacks o L h.sized h.is_least room)

  found : Found S
  found = by_entries S (λ o. any o (ever-right S e.well o none-lacks)) (λ o. own o (entries-found S e.well none-lacks o))
    where
      any : NoEntries S → {r : Labels} → Ever S r → Found S
      any o (never h) = nowhere o h
      any o (some {L} n h) = pick (in_time S L S.horizon) refl
        where
          pick : (t : Bool) → in_time S L S.horizon ≡ t → Found S
          pick true q = here L (record { sized = n; is_least = in-time S e.well o none-lacks L h S.horizon q })
          pick false q = further o (longer S e.well o none-lacks L h q)

      own : Entries S → NoneLegal S S.horizon ⊎ ((L : List Label) × (length L ≡ size S) × Least S S.horizon (at L)) → Found S
      own o (inl h) = past o h
      own o (inr h) = here h.0 (record { sized = h.1; is_least = h.2 })

  in-room : (L : List Label) → LeastLabels S L → (room : ℕ) → length (plan S L) ≤ room → outcome bytes room ≡ accepted (plan S L)
  in-room L h room l = least-outcome L h room ∙ rw (le-leb (length (plan S L)) room l)

  no_room : (L : List Label) → LeastLabels S L → (room : ℕ) → room < length (plan S L) → outcome bytes room ≡ refusal 8 (length (plan S L))
  no_room L h room l = least-outcome L h room ∙ rw (lt-leb (length (plan S L)) room l)

  -- its ground
  timed-ground : (room : ℕ) → GroundOf bytes room
  timed-ground room = go found
    where
      fits : (L : List Label) → LeastLabels S L → (t : Bool) → leb (length (plan S L)) room ≡ t → GroundOf bytes room
      fits L h true q = let l = leb-true (length (plan S L)) room q in rw (in-room L h room l) (planned S L e a h l)
      fits L h false q = let l = leb-false (length (plan S L)) room q in rw (no_room L h room l) (too_short S L e a h l)

      go : Found S → GroundOf bytes room
      go (nowhere o n) = rw (never-outcome o n room) (Ground.never S e a o n)
      go (further o h) = rw (late-outcome o h room) (too_late S e a o h)
      go (past o h) = rw (past-outcome o h room) (Ground.windowed S e a o h)
      go (here L h) = fits L h (leb (length (plan S L)) room) refl

-- ---- any bytes

module _ (bytes : List ℕ) (room : ℕ) where
  pub ground-of : Bytes bytes → GroundOf bytes room
  ground-of b = go (parse bytes) refl
    where
      cuts : (S : Sheet) → ReadsAs bytes S → (vs : List ℕ) → cutless S ≡ vs → GroundOf bytes room
      cuts S e [] q = timed-ground bytes S e (all-cut S e.well q) room
      cuts S e (v ∷ vs) q =
          rw (sheet-outcome bytes S (reads-parse bytes S e) room ∙ ap (covered S room) q) (uncut S v e (lowest-cutless S e.well v vs q))

      go : (r : Parsed) → parse bytes ≡ r → GroundOf bytes room
      go (sheet S) e = cuts S (parse-reads bytes S b e) (cutless S) refl
      go (refused k p) e = rw (refused-outcome bytes k p e room) (unread k p (parse-refuses bytes k p b e))

  said : {k p : ℕ} → Ground bytes room k p → (outcome_number (outcome bytes room) ≡ k) × (outcome_place (outcome bytes room) ≡ p)
  said (unread k p e) = parts (refused-outcome bytes k p (refuses-parse bytes k p e) room)
  said (uncut S v e h) = parts (sheet-outcome bytes S (reads-parse bytes S e) room ∙ go (cutless S) refl)
    where
      go : (vs : List ℕ) → cutless S ≡ vs → covered S room vs ≡ refusal 6 v
      go [] q = let k = all-cut S e.well q v h.node h.is_logic in absurd (h.none k.0 k.1)
      go (w ∷ ws) q = ap (refusal 6) (sym (one-lowest S e.well v w h (lowest-cutless S e.well w ws q)))
  said (Ground.never S e a o n) = parts (never-outcome bytes S e a o n room)
  said (too_late S e a o h) = parts (late-outcome bytes S e a o h room)
  said (Ground.windowed S e a o h) = parts (past-outcome bytes S e a o h room)
  said (too_short S L e a h l) = parts (no_room bytes S e a L h room l)
  said (planned S L e a h l) = parts (in-room bytes S e a L h room l)

-- ---- an answer that is the outcome's

module _ (bytes buffer : List ℕ) (number place : ℕ) (after : List ℕ) (b : Bytes bytes)
    (is : Answered (outcome bytes (length buffer)) number place buffer after) where
  pub demand-1 : Demand1 bytes buffer number place after
  demand-1 =
      record {
        holds = rw (is.0, is.1) (ground-of bytes (length buffer) b);
        said = λ k p g. let h = said bytes (length buffer) g in (is.0 ∙ h.0, is.1 ∙ h.1);
        malformed = λ unread. rw is.0 (unreadable unread (ground-of bytes (length buffer) b));
        untouched = untouched (outcome bytes (length buffer)) number place buffer after is;
      }
    where
      unreadable : {k p : ℕ} → ((S : Sheet) → ReadsAs bytes S → ⊥) → Ground bytes (length buffer) k p → (1 ≤ k) × (k ≤ 5)
      unreadable none (unread k p f) = refuses-number f
      unreadable none (uncut S v f h) = absurd (none S f)
      unreadable none (Ground.never S f a o h) = absurd (none S f)
      unreadable none (too_late S f a o h) = absurd (none S f)
      unreadable none (Ground.windowed S f a o h) = absurd (none S f)
      unreadable none (too_short S L f a h l) = absurd (none S f)
      unreadable none (planned S L f a h l) = absurd (none S f)

  pub demand-2 : Demand2 bytes buffer number place after
  demand-2 z = go (ground-of bytes (length buffer) b) (sym is.0 ∙ z)
    where
      go : {k p : ℕ} → Ground bytes (length buffer) k p → k ≡ 0 → Planned bytes buffer number place after
      go (unread k p f) q = absurd (omega (arith, (refuses-number f).0))
      go (uncut S v f h) q = absurd (omega arith)
      go (Ground.never S f a o h) q = absurd (omega arith)
      go (too_late S f a o h) q = absurd (omega arith)
      go (Ground.windowed S f a o h) q = absurd (omega arith)
      go (too_short S L f a h l) q = absurd (omega arith)
      go (planned S L f a h l) q =
          let o = outcome bytes (length buffer) in
          let e = in-room bytes S f a L h (length buffer) l in
          record {
            held = S;
            reads = f;
            labels = L;
            sized = h.sized;
            legal = h.is_least.legal;
            covers = covers S f.well L h.is_least.legal;
            counted = placed o number place buffer after is (plan S L) e;
            fits = omega (arith, placed o number place buffer after is (plan S L) e);
            written = front o number place buffer after is (plan S L) e;
            kept = back o number place buffer after is (plan S L) e;
          }

  pub demand-3 : Demand3 bytes buffer number place after
  demand-3 S e a =
      record {
        late = λ n. refused n (found bytes S e a);
        late_only = λ q. only q (found bytes S e a);
        never = never-said;
        never_only = λ q. never-only q (found bytes S e a);
        longer = late-said;
        longer_only = λ o q. longer-only o q (found bytes S e a);
        windowed = λ o q. seven o q (found bytes S e a);
        otherwise = λ q. rest q (found bytes S e a);
      }
    where
      room : ℕ
      room = length buffer

      fits_or : (L : List Label) → LeastLabels S L → (t : Bool) → leb (length (plan S L)) room ≡ t
          → ((number ≡ 0) ⊎ (number ≡ 8)) × (place ≡ length (plan S L)) × (number ≡ 0 → take place after ≡ plan S L)
      fits_or L h true q =
          let o = in-room bytes S e a L h room (leb-true (length (plan S L)) room q) in
          (inl (is.0 ∙ ap outcome_number o), is.1 ∙ ap outcome_place o, λ z. front (outcome bytes room) number place buffer after is (plan S L) o)
      fits_or L h false q =
          let o = no_room bytes S e a L h room (leb-false (length (plan S L)) room q) in
          (inr (is.0 ∙ ap outcome_number o), is.1 ∙ ap outcome_place o, λ z. absurd (omega (arith, is.0, ap outcome_number o)))

      never-said : NoEntries S → Never S → number ≡ 12
      never-said o n = is.0 ∙ ap outcome_number (never-outcome bytes S e a o n room)

      late-said : NoEntries S → Longer S → number ≡ 7
      late-said o h = is.0 ∙ ap outcome_number (late-outcome bytes S e a o h room)

      past-said : Entries S → NoneLegal S S.horizon → number ≡ 7
      past-said o h = is.0 ∙ ap outcome_number (past-outcome bytes S e a o h room)

      -- where there are least labels the number is 0 or 8
      not-for-time : (L : List Label) → LeastLabels S L → (number ≡ 7 → ⊥) × (number ≡ 12 → ⊥)
      not-for-time L h = go (fits_or L h (leb (length (plan S L)) room) refl).0
        where
          go : (number ≡ 0) ⊎ (number ≡ 8) → (number ≡ 7 → ⊥) × (number ≡ 12 → ⊥)
          go (inl z) = (λ q. omega arith, λ q. omega arith)
          go (inr z) = (λ q. omega arith, λ q. omega arith)

      refused : NoneLegal S S.horizon → Found S → (number ≡ 7) ⊎ (number ≡ 12)
      refused n (nowhere o h) = inr (never-said o h)
      refused n (further o h) = inl (late-said o h)
      refused n (past o h) = inl (past-said o h)
      refused n (here L h) = absurd (n (at L) h.is_least.legal)

      never-only : number ≡ 12 → Found S → NoEntries S × Never S
      never-only q (nowhere o h) = (o, h)
      never-only q (further o h) = absurd (omega (arith, late-said o h))
      never-only q (past o h) = absurd (omega (arith, past-said o h))
      never-only q (here L h) = absurd ((not-for-time L h).1 q)

      longer-only : NoEntries S → number ≡ 7 → Found S → Longer S
      longer-only o q (nowhere p h) = absurd (omega (arith, never-said p h))
      longer-only o q (further p h) = h
      longer-only o q (past p h) = absurd (p o)
      longer-only o q (here L h) = absurd ((not-for-time L h).0 q)

      seven : Entries S → (number ≡ 7) ⊎ (number ≡ 12) → Found S → number ≡ 7
      seven o (inl q) f = q
      seven o (inr q) f = absurd (o (never-only q f).0)

      only : (number ≡ 7) ⊎ (number ≡ 12) → Found S → NoneLegal S S.horizon
      only q (nowhere o h) = h S.horizon
      only q (further o h) = h.none
      only q (past o h) = h
      only (inl q) (here L h) = absurd ((not-for-time L h).0 q)
      only (inr q) (here L h) = absurd ((not-for-time L h).1 q)

      rest : ((number ≡ 7) ⊎ (number ≡ 12) → ⊥) → Found S → LeastPlan bytes buffer number place after S
      rest q (nowhere o h) = absurd (q (inr (never-said o h)))
      rest q (further o h) = absurd (q (inl (late-said o h)))
      rest q (past o h) = absurd (q (inl (past-said o h)))
      rest q (here L h) =
          let f = fits_or L h (leb (length (plan S L)) room) refl in
          record {
            labels = L;
            least = h;
            latency = latency-least S S.horizon (at L) h.is_least;
            covers = covers S e.well L h.is_least.legal;
            answered = f.0;
            counted = f.1;
            written = f.2;
          }
