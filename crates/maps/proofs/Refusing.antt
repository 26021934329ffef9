-- The reader refuses by ground k at p exactly if the bytes are so: grounds 1 to 5.
use Prim.Native.Nat.{ℕ, zero, suc, ◌+◌, ◌-◌, ◌≤◌, ◌<◌}
use mathlib.Core.Path.{◌≡◌, refl, subst, ap, ◌∙◌}
use mathlib.Core.Bool.{Bool, true, false, cond}
use mathlib.Core.List.{List, [], ◌∷◌, ◌++◌}
use mathlib.Core.Logic.{◌⊎◌, inl, inr}
use native.Mathlib.Omega.{arith}
use lib.Dec.{ltb, eqb}
use lib.ListN.{length, drop, length-drop, length-append}
use borrow.Author.Tests.{ltb-true, ltb-false, lt-ltb, le-ltb, eqb-true}
use Rattle.maps.specs.Sheet.{Sheet}
use Rattle.maps.specs.Number.{Bytes, Got, got, refusal, above, groups, number_up_to, number, width, values, encoded}
use Rattle.maps.specs.Form.{among, boxed, under, Rule, rule_ground, Form, done, ask, read, Leads}
use Rattle.maps.specs.Read.{sheet_form, sheet, refused, whole, parse}
use Rattle.maps.specs.Records.{Records, sheet_meant}
use Rattle.maps.specs.Write.{First, numbers, values_of, spelled}
use Rattle.maps.specs.Reading.{Unfinished, Misplaced, Misspelt, Refuses, ended, misspelt, value, trailing}
use Rattle.maps.proofs.Spelling.{at-cons}
use Rattle.maps.proofs.Along.{Along, along-sheet, along-stop}
use Rattle.maps.proofs.Leading.{Ends, ends}
use Rattle.maps.proofs.Leading as L
use Rattle.maps.proofs.Written.{reads_on, reads-fails}

module _ (s : List ℕ) where
  -- the sheet ends here
  at-nil : (at : ℕ) → drop at s ≡ [] → ltb at (length s) ≡ false
  at-nil at e = le-ltb at (length s) (omega (arith, length-drop at s, ap length e))

  -- what the bytes at `at` are, if they are a refused number: by the bytes after a first one, and by a whole number
  data Fault (first : ℕ) (short broken : Type 0) : Got ℕ → Type 0 where
    fine : {n next : ℕ} → Fault first short broken (got n next)
    short : short → Fault first short broken (refusal 1 (length s))
    broken : broken → Fault first short broken (refusal 2 first)

  higher : {first : ℕ} {b : ℕ} {A B C : Type 0} (g : Got ℕ) → (B → C) → 128 ≤ b → Fault first A B g → Fault first ((128 ≤ b) × A) C (above (b - 128) g)
  higher (got n next) f l fine = fine
  higher (refusal _ _) f l (short h) = short (l, h)
  higher (refusal _ _) f l (broken h) = broken (f h)

  groups-fault : (c first at : ℕ) (rest : List ℕ) → drop at s ≡ rest → Fault first (Unfinished c rest) (Misplaced c rest) (groups c first s at)
  unfolding groups
  groups-fault zero first at rest e = broken tt
  groups-fault (suc c) first at [] e = rw (at-nil at e) (short tt)
  groups-fault (suc c) first at (b ∷ rest) e =
      let t = at-cons s at b rest e in
      rw (lt-ltb at (length s) t.0, t.1) (go (ltb b 128) (eqb b 0) refl refl (groups-fault c first (at + 1) rest t.2))
    where
      go : (x y : Bool) → ltb b 128 ≡ x → eqb b 0 ≡ y → Fault first (Unfinished c rest) (Misplaced c rest) (groups c first s (at + 1))
          → Fault first ((128 ≤ b) × Unfinished c rest) ((b ≡ 0) ⊎ ((128 ≤ b) × Misplaced c rest))
          (cond x (cond y (refusal 2 first) (got b (at + 1))) (above (b - 128) (groups c first s (at + 1))))
      go true true p q h = broken (inl (eqb-true b 0 q))
      go true false p q h = fine
      go false y p q h = let l = ltb-false b 128 p in higher (groups c first s (at + 1)) (λ m. inr (l, m)) l h

  number-fault : (g at : ℕ) (rest : List ℕ) → drop at s ≡ rest → Fault at (Unfinished (suc g) rest) (Misspelt g rest) (number_up_to g s at)
  unfolding number_up_to
  number-fault g at [] e = rw (at-nil at e) (short tt)
  number-fault g at (b ∷ rest) e =
      let t = at-cons s at b rest e in
      rw (lt-ltb at (length s) t.0, t.1) (go (ltb b 128) refl (groups-fault g at (at + 1) rest t.2))
    where
      go : (x : Bool) → ltb b 128 ≡ x → Fault at (Unfinished g rest) (Misplaced g rest) (groups g at s (at + 1))
          → Fault at ((128 ≤ b) × Unfinished g rest) ((128 ≤ b) × Misplaced g rest) (cond x (got b (at + 1)) (above (b - 128) (groups g at s (at + 1))))
      go true p h = fine
      go false p h = let l = ltb-false b 128 p in higher (groups g at s (at + 1)) (λ m. (l, m)) l h

  -- and such bytes are refused
  groups-short : (c first at : ℕ) (rest : List ℕ) → drop at s ≡ rest → Unfinished c rest → groups c first s at ≡ refusal 1 (length s)
  unfolding groups
  groups-short zero first at rest e h = absurd h
  groups-short (suc c) first at [] e h = rw (at-nil at e)
  groups-short (suc c) first at (b ∷ rest) e h =
      let t = at-cons s at b rest e in
      rw (lt-ltb at (length s) t.0, t.1, le-ltb b 128 h.0, groups-short c first (at + 1) rest t.2 h.1)

  groups-broken : (c first at : ℕ) (rest : List ℕ) → drop at s ≡ rest → Misplaced c rest → groups c first s at ≡ refusal 2 first
  unfolding groups
  groups-broken zero first at rest e h = refl
  groups-broken (suc c) first at [] e h = absurd h
  groups-broken (suc c) first at (b ∷ rest) e (inl z) =
      let t = at-cons s at b rest e in
      rw (lt-ltb at (length s) t.0, t.1, z)
  groups-broken (suc c) first at (b ∷ rest) e (inr h) =
      let t = at-cons s at b rest e in
      rw (lt-ltb at (length s) t.0, t.1, le-ltb b 128 h.0, groups-broken c first (at + 1) rest t.2 h.1)

  number_short : (g at : ℕ) (rest : List ℕ) → drop at s ≡ rest → Unfinished (suc g) rest → number_up_to g s at ≡ refusal 1 (length s)
  unfolding number_up_to
  number_short g at [] e h = rw (at-nil at e)
  number_short g at (b ∷ rest) e h =
      let t = at-cons s at b rest e in
      rw (lt-ltb at (length s) t.0, t.1, le-ltb b 128 h.0, groups-short g at (at + 1) rest t.2 h.1)

  number-broken : (g at : ℕ) (rest : List ℕ) → drop at s ≡ rest → Misspelt g rest → number_up_to g s at ≡ refusal 2 at
  unfolding number_up_to
  number-broken g at [] e h = absurd h
  number-broken g at (b ∷ rest) e h =
      let t = at-cons s at b rest e in
      rw (lt-ltb at (length s) t.0, t.1, le-ltb b 128 h.0, groups-broken g at (at + 1) rest t.2 h.1)

-- a refused number, as the relation has it
module _ (bytes : List ℕ) (ns : List ℕ) (r : Rule) (g : ℕ → Form Sheet) (rest : List ℕ) (l : Leads sheet_form ns (ask r g))
    (d : bytes ≡ spelled ns ++ rest) where
  stopped : (k p : ℕ) (o : Got ℕ) → Fault bytes (0 + length (spelled ns)) (Unfinished width rest) (Misspelt (width - 1) rest) o → o ≡ refusal k p
      → Refuses bytes k p
  stopped k p (got n next) fine e = let z : ◌≡◌ {A = ℕ} 0 1 = cc in absurd (omega arith)
  stopped k p (refusal _ _) (short h) e =
      let a : ◌≡◌ {A = ℕ} 1 k = cc in
      let b : length bytes ≡ p = cc in
      subst (Refuses bytes k) b (subst (λ j. Refuses bytes j (length bytes)) a (ended ns r g rest l d h))
  stopped k p (refusal _ _) (broken h) e =
      let a : ◌≡◌ {A = ℕ} 2 k = cc in
      let b : 0 + length (spelled ns) ≡ p = cc in
      let c : length (spelled ns) ≡ p = omega arith in
      subst (Refuses bytes k) c (subst (λ j. Refuses bytes j (length (spelled ns))) a (misspelt ns r g rest l d h))

-- how reading ends says which ground holds
pub parse-refuses : (bytes : List ℕ) (k p : ℕ) → Bytes bytes → parse bytes ≡ refused k p → Refuses bytes k p
unfolding parse
parse-refuses bytes k p small e = go (read sheet_form bytes 0) (ends sheet_form bytes small 0) e
  where
    more : (R : Sheet) (next : ℕ) (ns : List ℕ) → Leads sheet_form ns (done R) → next ≡ 0 + length (spelled ns) → next < length bytes → (rest : List ℕ)
        → drop next bytes ≡ rest → bytes ≡ spelled ns ++ rest → refused 5 next ≡ refused k p → Refuses bytes k p
    more R next ns l u h [] m d q = absurd (omega (arith, length-drop next bytes, ap length m))
    more R next ns l u h (b ∷ rest) m d q =
        let a : ◌≡◌ {A = ℕ} 5 k = cc in
        let c : next ≡ p = cc in
        let o : length (spelled ns) ≡ p = omega arith in
        subst (Refuses bytes k) o (subst (λ j. Refuses bytes j (length (spelled ns))) a (trailing ns R b rest l d))

    end : (R : Sheet) (next : ℕ) (t : Bool) → ltb next (length bytes) ≡ t → (ns : List ℕ) → Leads sheet_form ns (done R)
        → bytes ≡ spelled ns ++ drop next bytes → next ≡ 0 + length (spelled ns) → cond t (refused 5 next) (sheet R) ≡ refused k p → Refuses bytes k p
    end R next true h ns l d u q = more R next ns l u (ltb-true next (length bytes) h) (drop next bytes) refl d q
    end R next false h ns l d u q = let z : ◌≡◌ {A = ℕ} 0 1 = cc in absurd (omega arith)

    go : (o : Got Sheet) → Ends sheet_form bytes 0 o → whole bytes o ≡ refused k p → Refuses bytes k p
    go (got R next) (L.whole ns l d u) q = end R next (ltb next (length bytes)) refl ns l d u q
    go (refusal j a) (L.stop ns r g rest l d h) q =
        let f = number-fault bytes (width - 1) (0 + length (spelled ns)) rest (L.after-here bytes 0 (spelled ns) rest d) in
        stopped bytes ns r g rest l d k p (number bytes (0 + length (spelled ns))) f (h ∙ cc)
    go (refusal _ _) (L.wrong ns r g x rest l d w f) q =
        let a : rule_ground r ≡ k = cc in
        let c : 0 + length (spelled ns) ≡ p = cc in
        let o : length (spelled ns) ≡ p = omega arith in
        subst (Refuses bytes k) o (subst (λ j. Refuses bytes j (length (spelled ns))) a (value ns r g x rest l d w f))

-- a refused number refuses the form that asks it
asks-refused : (r : Rule) (g : ℕ → Form Sheet) (s : List ℕ) (at k p : ℕ) → number s at ≡ refusal k p → read (ask r g) s at ≡ refusal k p
asks-refused r g s at k p e = rw e

-- the numbers before are read, and then the reader refuses what comes
pub refuses-parse : (bytes : List ℕ) (k p : ℕ) → Refuses bytes k p → parse bytes ≡ refused k p
unfolding parse
refuses-parse bytes _ _ (ended ns r g rest l d h) = rw d
    (let s = spelled ns ++ rest in
    let t = reads_on ns (ask r g) rest l in
    rw (t.0, asks-refused r g s (length (spelled ns)) 1 (length s) (number_short s (width - 1) (length (spelled ns)) rest t.1 h)))
refuses-parse bytes _ _ (misspelt ns r g rest l d h) = rw d
    (let s = spelled ns ++ rest in
    let t = reads_on ns (ask r g) rest l in
    let a = length (spelled ns) in
    rw (t.0, asks-refused r g s a 2 a (number-broken s (width - 1) a rest t.1 h)))
refuses-parse bytes _ _ (value ns r g x rest l d w f) = rw d
    (let s = spelled ns ++ (encoded x ++ rest) in
    let t = reads_on ns (ask r g) (encoded x ++ rest) l in
    rw (t.0, reads-fails r g s (length (spelled ns)) x rest t.1 w f))
refuses-parse bytes _ _ (trailing ns S b rest l d) = rw d
    (let s = spelled ns ++ (b ∷ rest) in
    let t = reads_on ns (done S) (b ∷ rest) l in
    rw (t.0, lt-ltb (length (spelled ns)) (length s) (omega (arith, length-append (spelled ns) (b ∷ rest)))))

-- these are grounds 1 to 5
pub refuses-number : {bytes : List ℕ} {k p : ℕ} → Refuses bytes k p → (1 ≤ k) × (k ≤ 5)
refuses-number (ended ns r g rest l d h) = (omega arith, omega arith)
refuses-number (misspelt ns r g rest l d h) = (omega arith, omega arith)
refuses-number (value ns r g x rest l d w f) = go r
  where
    go : (r : Rule) → (1 ≤ rule_ground r) × (rule_ground r ≤ 5)
    go (among q) = (omega arith, omega arith)
    go (boxed q is_box) = (omega arith, omega arith)
    go (under own) = (omega arith, omega arith)
refuses-number (trailing ns S b rest l d) = (omega arith, omega arith)

-- where the writer refuses number i, the reader refuses the sheet that has the numbers before it and then that number, at that number's byte
pub first-refuses : (R : Records) (k i : ℕ) (f : First (numbers R) k i) → f.faulty.value < values → (rest : List ℕ)
    → Refuses (spelled (values_of f.before) ++ (encoded f.faulty.value ++ rest)) k (length (spelled (values_of f.before)))
first-refuses R k i f l rest =
    let ns = values_of f.before in
    let x = f.faulty.value in
    let a : Along sheet_form (f.before ++ (f.faulty ∷ f.after)) (sheet_meant R) = rw f.listed at (along-sheet R) in
    let s = along-stop sheet_form f.before f.faulty f.after (sheet_meant R) a f.good in
    subst (λ n. Refuses (spelled ns ++ (encoded x ++ rest)) n (length (spelled ns))) f.number (value ns f.faulty.rule s.0 x rest s.1 refl l f.fails)
