-- The operands that the walk of a cone looks at: each operand of a member, and nothing else.
use Prim.Native.Nat.{ℕ, zero, suc, ◌≤◌, ◌<◌}
use mathlib.Core.Path.{◌≡◌, refl, sym, subst, ap, ◌∙◌}
use mathlib.Core.Bool.{Bool, true, false, cond, not, ◌&&◌, ◌||◌}
use mathlib.Core.List.{List, [], ◌∷◌, ◌++◌, foldl, append-nil, append_assoc}
use mathlib.Core.List.Memᴰ
use mathlib.Core.List.{Memᴰ}
use mathlib.Core.Logic.{◌⊎◌, inl, inr}
use native.Mathlib.Omega.{arith}
use lib.Dec.{eqb, ltb}
use lib.ListN.{length, length-append}
use borrow.Author.Tests.{eqb-true, eq-eqb, ltb-true, ltb-false}
use Rattle.maps.specs.Lists.{mem, All}
use Rattle.maps.specs.Sheet.{Sheet, node}
use Rattle.maps.specs.Cut.{reads}
use Rattle.maps.proofs.Over.{and-true, same_test}
use Rattle.maps.proofs.Member.{or-true, or_right, All-of, mem-in, mem-out}
use Rattle.maps.proofs.Enumerate.{clash}
use Rattle.cone.specs.Looks.{look, look_all, looks, leaves_met, Stops, all, wide, LookedAt}
use Rattle.cone.proofs.LeafLaws.{met-grows}

-- after the operands t the members are v, and the marked nodes in t
abbrev pub members : (marked : ℕ → Bool) (v : ℕ) (t : List ℕ) → ℕ → Bool
members marked v t u = eqb u v || (marked u && mem u t)

module _ (marked : ℕ → Bool) (v : ℕ) (t : List ℕ) where
  pub root-member : members marked v t v ≡ true
  root-member = rw (eq-eqb v v refl)

  pub marked-member : (u : ℕ) → marked u ≡ true → mem u t ≡ true → members marked v t u ≡ true
  marked-member u m e = rw (m, e) (or_right (eqb u v) true refl)

  pub member_is : (u : ℕ) → members marked v t u ≡ true → (u ≡ v) ⊎ ((marked u ≡ true) × (mem u t ≡ true))
  member_is u e = go (or-true (eqb u v) (marked u && mem u t) e)
    where
      go : (eqb u v ≡ true) ⊎ ((marked u && mem u t) ≡ true) → (u ≡ v) ⊎ ((marked u ≡ true) × (mem u t ≡ true))
      go (inl h) = inl (eqb-true u v h)
      go (inr h) = inr (and-true (marked u) (mem u t) h)

-- a test passes or fails
passes : (b : Bool) → (b ≡ true) ⊎ (b ≡ false)
passes true = inl refl
passes false = inr refl

-- the elements of t with x after them
last-is : (u x : ℕ) (t : List ℕ) → mem u (t ++ (x ∷ [])) ≡ true → (mem u t ≡ true) ⊎ (u ≡ x)
last-is u x t e = go (Memᴰ.append_cases t (mem-out u (t ++ (x ∷ [])) e))
  where
    go : Memᴰ u t ⊎ Memᴰ u (x ∷ []) → (mem u t ≡ true) ⊎ (u ≡ x)
    go (inl k) = inl (mem-in t k)
    go (inr k) = inr (Memᴰ.eq_of_singleton k)

pub in-last : (u : ℕ) (t : List ℕ) → mem u (t ++ (u ∷ [])) ≡ true
in-last u t = mem-in (t ++ (u ∷ [])) (Memᴰ.append_right t (Memᴰ.head refl))

in-begun : (u x : ℕ) (t : List ℕ) → mem u t ≡ true → mem u (t ++ (x ∷ [])) ≡ true
in-begun u x t e = mem-in (t ++ (x ∷ [])) (Memᴰ.append_left (x ∷ []) (mem-out u t e))

pub others-as : (u x : ℕ) (t : List ℕ) → (u ≡ x → ⊥) → mem u (t ++ (x ∷ [])) ≡ mem u t
others-as u x t f = same_test (mem u (t ++ (x ∷ []))) (mem u t) (λ e. go (last-is u x t e)) (in-begun u x t)
  where
    go : (mem u t ≡ true) ⊎ (u ≡ x) → mem u t ≡ true
    go (inl h) = h
    go (inr q) = absurd (f q)

-- where each step appends, all of them together do
folds-extend : (f : List ℕ → ℕ → List ℕ) → ((t : List ℕ) (u : ℕ) → (s : List ℕ) × (f t u ≡ t ++ s))
    → (t us : List ℕ) → (s : List ℕ) × (foldl f t us ≡ t ++ s)
folds-extend f h t [] = ([], sym (append-nil t))
folds-extend f h t (u ∷ us) =
    let a = h t u in
    let b = folds-extend f h (f t u) us in
    (a.0 ++ b.0, b.1 ∙ ap (λ (l : List ℕ). l ++ b.0) a.1 ∙ append_assoc t a.0 b.0)

-- one list after another
pub folds-on : (f : List ℕ → ℕ → List ℕ) (t us ws : List ℕ) → foldl f t (us ++ ws) ≡ foldl f (foldl f t us) ws
folds-on f t [] ws = refl
folds-on f t (u ∷ us) ws = folds-on f (f t u) us ws

-- of two beginnings of a list the longer extends the shorter
beginning : (a b c d : List ℕ) → a ++ c ≡ b ++ d → length a ≤ length b → (s : List ℕ) × (b ≡ a ++ s)
beginning [] b c d e l = (b, refl)
beginning (x ∷ a) [] c d e l = absurd (omega arith)
beginning (x ∷ a) (y ∷ b) c d e l =
    let r = beginning a b c d (cc) (omega arith) in
    let q : x ≡ y = cc in
    let p = r.1 in
    (r.0, cc)

module _ (S : Sheet) (marked : ℕ → Bool) where
  -- what is looked at stays looked at
  pub look-extends : (n : ℕ) (t : List ℕ) (u : ℕ) → (s : List ℕ) × (look S marked n t u ≡ t ++ s)
  look-extends zero t u = (u ∷ [], refl)
  look-extends (suc n) t u = go (marked u && not (mem u t)) (folds-extend (look S marked n) (look-extends n) (t ++ (u ∷ [])) (node S u).operands)
    where
      go : (b : Bool) → (s : List ℕ) × (foldl (look S marked n) (t ++ (u ∷ [])) (node S u).operands ≡ (t ++ (u ∷ [])) ++ s)
          → (s : List ℕ) × (cond b (foldl (look S marked n) (t ++ (u ∷ [])) (node S u).operands) (t ++ (u ∷ [])) ≡ t ++ s)
      go true r = (u ∷ r.0, r.1 ∙ append_assoc t (u ∷ []) r.0)
      go false r = (u ∷ [], refl)

  pub all-extends : (n : ℕ) (t us : List ℕ) → (s : List ℕ) × (look_all S marked n t us ≡ t ++ s)
  all-extends n = folds-extend (look S marked n) (look-extends n)

  -- Two ends of one walk: neither is longer, since leaf k + 1 would be among the operands before its last.
  no-later : (k : ℕ) (whole t t' : List ℕ) → Stops S marked k whole t → Stops S marked k whole t' → length t < length t' → ⊥
  no-later k whole t t' (all e m) (all e' m') l = omega (arith, ap length e, ap length e')
  no-later k whole t t' (all e m) (wide b u rest p q h h') l = omega (arith, ap length e, ap length q, length-append t' rest)
  no-later k whole t t' (wide b u rest p q h h') (all e m) l = omega (arith, met-grows S marked t rest, ap (leaves_met S marked) (e ∙ q))
  no-later k whole t t' (wide b u rest p q h h') (wide b' u' rest' p' q' i i') l =
      let joined : t ++ rest ≡ b' ++ (u' ∷ rest') = sym q ∙ q' ∙ ap (λ (x : List ℕ). x ++ rest') p' ∙ append_assoc b' (u' ∷ []) rest' in
      let r = beginning t b' rest (u' ∷ rest') joined (omega (arith, ap length p', length-append b' (u' ∷ []))) in
      omega (arith, met-grows S marked t r.0, ap (leaves_met S marked) r.1)

  -- the count is determined, since neither end is later than the other
  pub looked-unique : (v k c c' : ℕ) → LookedAt S marked v k c → LookedAt S marked v k c' → c ≡ c'
  looked-unique v k c c' a b =
      go (ltb (length a.operands) (length b.operands)) refl (ltb (length b.operands) (length a.operands)) refl
    where
      go : (x : Bool) → ltb (length a.operands) (length b.operands) ≡ x → (y : Bool) → ltb (length b.operands) (length a.operands) ≡ y
          → c ≡ c'
      go true e y f = absurd (no-later k _ _ _ a.stops b.stops (ltb-true _ _ e))
      go false e true f = absurd (no-later k _ _ _ b.stops a.stops (ltb-true _ _ f))
      go false e false f = omega (arith, ltb-false, a.count, b.count)

  -- the operands that are looked at right after u: those of u, where it is marked and met for the first time
  abbrev pub next : (t : List ℕ) → (u : ℕ) → List ℕ
  next t u = cond (marked u && not (mem u t)) (node S u).operands []

  module _ (v : ℕ) where
    -- How a walk goes on ids below v: with the operands t looked at it looks at us one after the other, and ends with r looked at.
    pub data Looked : (t us r : List ℕ) → Type 0 where
      done : {t : List ℕ} → Looked t [] t
      more : {t us q r : List ℕ} {u : ℕ} → u < v → Looked (t ++ (u ∷ [])) (next t u) q → Looked q us r → Looked t (u ∷ us) r

    kept : {t us r : List ℕ} → Looked t us r → (u : ℕ) → mem u t ≡ true → mem u r ≡ true
    kept done u e = e
    kept (more {t = t} {u = x} l i k) u e = kept k u (kept i u (in-begun u x t e))

    -- what was to be looked at is
    given : {t us r : List ℕ} → Looked t us r → (u : ℕ) → mem u us ≡ true → mem u r ≡ true
    given done u e = clash e
    given (more {t = t} {us = us} {r = r} {u = x} l i k) u e = go (given k u) (or-true (eqb u x) (mem u us) e)
      where
        go : (mem u us ≡ true → mem u r ≡ true) → (eqb u x ≡ true) ⊎ (mem u us ≡ true) → mem u r ≡ true
        go rec (inl h) = rw (eqb-true u x h) (kept k x (kept i x (in-last x t)))
        go rec (inr h) = rec h

    -- only ids below v are
    low : {t us r : List ℕ} → Looked t us r → ((u : ℕ) → mem u t ≡ true → u < v) → (u : ℕ) → mem u r ≡ true → u < v
    low done h = h
    low (more {t = t} {u = x} l i k) h = low k (low i (λ u e. go u (last-is u x t e)))
      where
        go : (u : ℕ) → (mem u t ≡ true) ⊎ (u ≡ x) → u < v
        go u (inl m) = h u m
        go u (inr q) = omega arith

    -- a marked node that is newly looked at has its operands looked at
    closed : {t us r : List ℕ} → Looked t us r → (m u : ℕ) → marked m ≡ true → mem m t ≡ false → mem m r ≡ true → reads S m u ≡ true
        → mem u r ≡ true
    closed done m u b n e h = clash (sym n ∙ e)
    closed (more {t = t} {q = q} {r = r} {u = x} l i k) m u b n e h =
        go (closed i m u b) (closed k m u b) (passes (mem m (t ++ (x ∷ [])))) (passes (mem m q))
      where
        now : (mem m t ≡ true) ⊎ (m ≡ x) → mem u r ≡ true
        now (inl p) = clash (sym n ∙ p)
        now (inr p) = kept k u (given i u (rw (← p, b, n) h))

        go : (mem m (t ++ (x ∷ [])) ≡ false → mem m q ≡ true → reads S m u ≡ true → mem u q ≡ true)
            → (mem m q ≡ false → mem m r ≡ true → reads S m u ≡ true → mem u r ≡ true)
            → (mem m (t ++ (x ∷ [])) ≡ true) ⊎ (mem m (t ++ (x ∷ [])) ≡ false) → (mem m q ≡ true) ⊎ (mem m q ≡ false) → mem u r ≡ true
        go own rest (inl p) z = now (last-is m x t p)
        go own rest (inr p) (inl z) = kept k u (own p z h)
        go own rest (inr p) (inr z) = rest z e h

    -- u is an operand of a marked node in r
    record Reader (r : List ℕ) (u : ℕ) : Type 0 where
      reader : ℕ
      mark : marked reader ≡ true
      seen : mem reader r ≡ true
      operand : reads S reader u ≡ true

    -- what is newly looked at was to be, or a marked node reads it
    read : {t us r : List ℕ} → Looked t us r → (u : ℕ) → mem u t ≡ false → mem u r ≡ true → (mem u us ≡ true) ⊎ Reader r u
    read done u n e = clash (sym n ∙ e)
    read (more {t = t} {us = us} {q = q} {r = r} {u = x} l i k) u n e =
        go (read i u) (read k u) (passes (mem u (t ++ (x ∷ [])))) (passes (mem u q))
      where
        now : (mem u t ≡ true) ⊎ (u ≡ x) → (mem u (x ∷ us) ≡ true) ⊎ Reader r u
        now (inl p) = clash (sym n ∙ p)
        now (inr p) = inl (rw (p, eq-eqb x x refl))

        of : (b c : Bool) → marked x ≡ b → mem x t ≡ c → mem u (cond (b && not c) (node S x).operands []) ≡ true → Reader r u
        of true false b c h = record { reader = x; mark = b; seen = kept k x (kept i x (in-last x t)); operand = h }
        of true true b c h = clash h
        of false c b z h = clash h

        own : (mem u (next t x) ≡ true) ⊎ Reader q u → (mem u (x ∷ us) ≡ true) ⊎ Reader r u
        own (inl p) = inr (of (marked x) (mem x t) refl refl p)
        own (inr a) = inr (record { reader = a.reader; mark = a.mark; seen = kept k a.reader a.seen; operand = a.operand })

        rest : (mem u us ≡ true) ⊎ Reader r u → (mem u (x ∷ us) ≡ true) ⊎ Reader r u
        rest (inl p) = inl (or_right (eqb u x) (mem u us) p)
        rest (inr a) = inr a

        go : (mem u (t ++ (x ∷ [])) ≡ false → mem u q ≡ true → (mem u (next t x) ≡ true) ⊎ Reader q u)
            → (mem u q ≡ false → mem u r ≡ true → (mem u us ≡ true) ⊎ Reader r u)
            → (mem u (t ++ (x ∷ [])) ≡ true) ⊎ (mem u (t ++ (x ∷ [])) ≡ false) → (mem u q ≡ true) ⊎ (mem u q ≡ false)
            → (mem u (x ∷ us) ≡ true) ⊎ Reader r u
        go f g (inl p) z = now (last-is u x t p)
        go f g (inr p) (inl z) = own (f p z)
        go f g (inr p) (inr z) = rest (g z e)

    -- where operands fall
    module _ (falls : (m u : ℕ) → m ≤ v → reads S m u ≡ true → u < m) where
      operands-below : (m n : ℕ) → m ≤ v → m ≤ n → All (λ u. u < n) (node S m).operands
      operands-below m n l h = All-of (λ u. u < n) (node S m).operands (λ u e. omega (arith, falls m u l (mem-in (node S m).operands e)))

      -- the walk goes so: a number above u, or above each of us, is enough
      goes-all : (n : ℕ) → n ≤ v → ((t : List ℕ) (u : ℕ) → u < n → Looked (t ++ (u ∷ [])) (next t u) (look S marked n t u))
          → (t us : List ℕ) → All (λ u. u < n) us → Looked t us (look_all S marked n t us)
      goes-all n l one t [] h = done
      goes-all n l one t (u ∷ us) h = more {u = u} (omega (arith, h.0)) (one t u h.0) (goes-all n l one (look S marked n t u) us h.1)

      goes : (n : ℕ) → n ≤ v → (t : List ℕ) (u : ℕ) → u < n → Looked (t ++ (u ∷ [])) (next t u) (look S marked n t u)
      goes zero l t u h = absurd (omega arith)
      goes (suc n) l t u h =
          let all-below = operands-below u n (omega arith) (omega arith) in
          go (marked u && not (mem u t)) (goes-all n (omega arith) (goes n (omega arith)) (t ++ (u ∷ [])) (node S u).operands all-below)
        where
          go : (b : Bool) → Looked (t ++ (u ∷ [])) (node S u).operands (look_all S marked n (t ++ (u ∷ [])) (node S u).operands)
              → Looked (t ++ (u ∷ [])) (cond b (node S u).operands [])
              (cond b (look_all S marked n (t ++ (u ∷ [])) (node S u).operands) (t ++ (u ∷ [])))
          go true k = k
          go false k = done

      pub looks-go : Looked [] (node S v).operands (looks S marked v)
      unfolding looks
      looks-go = goes-all v (omega arith) (goes v (omega arith)) [] (node S v).operands (operands-below v v (omega arith) (omega arith))

      -- whatever is looked at has an id below v
      pub looks-low : (u : ℕ) → mem u (looks S marked v) ≡ true → u < v
      looks-low = low looks-go (λ u e. clash e)

      pub member-low : (m : ℕ) → members marked v (looks S marked v) m ≡ true → m ≤ v
      member-low m e = go (member_is marked v (looks S marked v) m e)
        where
          go : (m ≡ v) ⊎ ((marked m ≡ true) × (mem m (looks S marked v) ≡ true)) → m ≤ v
          go (inl q) = omega arith
          go (inr a) = omega (arith, looks-low m a.1)

      -- each operand of a member is looked at: those of v are to be, and those of another follow when it is met for the first time
      pub looks-closed : (m u : ℕ) → members marked v (looks S marked v) m ≡ true → reads S m u ≡ true → mem u (looks S marked v) ≡ true
      looks-closed m u e h = go (member_is marked v (looks S marked v) m e)
        where
          go : (m ≡ v) ⊎ ((marked m ≡ true) × (mem m (looks S marked v) ≡ true)) → mem u (looks S marked v) ≡ true
          go (inl q) = given looks-go u (subst (λ (w : ℕ). reads S w u ≡ true) q h)
          go (inr a) = closed looks-go m u a.0 refl a.1 h

      -- whatever is looked at is read by a member: by v, or by the marked node that it followed
      pub looks-read : (u : ℕ) → mem u (looks S marked v) ≡ true
          → (m : ℕ) × (members marked v (looks S marked v) m ≡ true) × (reads S m u ≡ true)
      looks-read u e = go (read looks-go u refl e)
        where
          go : (reads S v u ≡ true) ⊎ Reader (looks S marked v) u
              → (m : ℕ) × (members marked v (looks S marked v) m ≡ true) × (reads S m u ≡ true)
          go (inl h) = (v, root-member marked v (looks S marked v), h)
          go (inr a) = (a.reader, marked-member marked v (looks S marked v) a.reader a.mark a.seen, a.operand)
