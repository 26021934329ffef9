-- The walk and the cones of the sheet: its members are the cone inside the marks, and its leaves are that cone's cut.
use Prim.Native.Nat.{ℕ, zero, suc, ◌+◌, ◌≤◌, ◌<◌}
use mathlib.Core.Path.{◌≡◌, refl, sym, ap, ◌∙◌, fun_ext}
use mathlib.Core.Bool.{Bool, true, false, not, cond, ◌&&◌, ◌||◌}
use mathlib.Core.List.{List, [], ◌∷◌, append-nil}
use mathlib.Core.Logic.{◌⊎◌, inl, inr}
use native.Mathlib.Decide.{le_ind}
use native.Mathlib.Omega.{arith}
use lib.Dec.{eqb}
use lib.ListN.{length, get_or, take}
use borrow.Author.Tests.{ne_eqb, not-true}
use Rattle.maps.specs.Lists.{mem, any, keep, below}
use Rattle.maps.specs.Sheet.{Sheet, node, size}
use Rattle.maps.specs.Cut.{reads, logic_node, PathTo, end, edge, leaf, cut}
use Rattle.maps.proofs.Over.{and-true, same_test}
use Rattle.maps.proofs.Member.{any_found, any_of, below_in, mem-out, mem_index, keep_append}
use Rattle.maps.proofs.Enumerate.{clash}
use Rattle.rows.specs.Table.{Falling}
use Rattle.cone.specs.Walk.{marked, ConeInside, Question, FitTest}
use Rattle.cone.specs.Looks.{looks, leaves_met, Stops, all, wide}
use Rattle.cone.specs.declared.Part.{Part}
use Rattle.cone.specs.declared.Part.TheVariants.{Unmet, Member, Leaf}
use Rattle.cone.specs.Part.{part_of, is_leaf, Ended, leaves_below}
use Rattle.cone.proofs.LeafLaws.{passing-few, met-grows}
use Rattle.cone.proofs.Visits.{all-met}
use Rattle.cone.proofs.LookLaws.{members, root-member, marked-member, member_is, looks-low, member-low, looks-closed, looks-read}

-- there is one cone of v inside the marks
module _ (S : Sheet) (marked : ℕ → Bool) (v : ℕ) where
  -- C has v and marked nodes only
  abbrev Inside : (ℕ → Bool) → Type 0
  Inside C = (u : ℕ) → C u ≡ true → (u ≡ v) ⊎ (marked u ≡ true)

  -- D has the marked operands of its members
  abbrev Whole : (ℕ → Bool) → Type 0
  Whole D = (m u : ℕ) → D m ≡ true → reads S m u ≡ true → marked u ≡ true → D u ≡ true

  -- a member of one is a member of the other
  joins : (C D : ℕ → Bool) → Inside C → D v ≡ true → Whole D → {u : ℕ} → C u ≡ true → PathTo S C v u → D u ≡ true
  joins C D inside root whole e end = root
  joins C D inside root whole {u} e (edge m r i p) = go (joins C D inside root whole i p) (inside u e)
    where
      go : D m ≡ true → (u ≡ v) ⊎ (marked u ≡ true) → D u ≡ true
      go h (inl q) = ap D q ∙ root
      go h (inr t) = whole m u h r t

  pub one-cone : (C D : ℕ → Bool) → ConeInside S marked v C → ConeInside S marked v D → (u : ℕ) → C u ≡ D u
  one-cone C D c d u =
      same_test (C u) (D u) (λ e. joins C D c.inside d.is_cone.holds d.whole e (c.is_cone.joined u e))
      (λ e. joins D C d.inside c.is_cone.holds c.whole e (d.is_cone.joined u e))

  -- the members that the walk finds
  module _ (falls : (m u : ℕ) → m ≤ v → reads S m u ≡ true → u < m) where
    abbrev found : ℕ → Bool
    found = members marked v (looks S marked v)

    root : found v ≡ true
    root = root-member marked v (looks S marked v)

    inside : Inside found
    inside u e = go (member_is marked v (looks S marked v) u e)
      where
        go : (u ≡ v) ⊎ ((marked u ≡ true) × (mem u (looks S marked v) ≡ true)) → (u ≡ v) ⊎ (marked u ≡ true)
        go (inl q) = inl q
        go (inr a) = inr a.0

    whole : Whole found
    whole m u e r t = marked-member marked v (looks S marked v) u t (looks-closed S marked v falls m u e r)

    -- a member is v, or a member with a higher id reads it; n bounds how far that goes on
    path : (n u : ℕ) → v ≤ u + n → found u ≡ true → PathTo S found v u
    path zero u h e =
        let q : u ≡ v = omega (arith, member-low S marked v falls u e) in
        rw q end
    path (suc n) u h e = go (path n) (member_is marked v (looks S marked v) u e)
      where
        go : ((m : ℕ) → v ≤ m + n → found m ≡ true → PathTo S found v m) → (u ≡ v) ⊎ ((marked u ≡ true) × (mem u (looks S marked v) ≡ true))
            → PathTo S found v u
        go rec (inl q) = rw q end
        go rec (inr a) =
            let r = looks-read S marked v falls u a.1 in
            let m = r.0 in
            edge m r.2 r.1 (rec m (omega (arith, falls m u (member-low S marked v falls m r.1) r.2)) r.1)

    -- they are the cone, if they are logic nodes
    pub found-cone : ((u : ℕ) → found u ≡ true → logic_node S u ≡ true) → ConeInside S marked v found
    found-cone logics =
        record {
          is_cone = record { holds = root; logics = logics; joined = λ u e. path v u (omega arith) e };
          inside = inside;
          whole = whole;
        }

    -- whatever is the cone has these members
    pub cone-found : (C : ℕ → Bool) → ConeInside S marked v C → (u : ℕ) → C u ≡ found u
    cone-found C c u =
        same_test (C u) (found u) (λ e. joins C found c.inside root whole e (c.is_cone.joined u e))
        (λ e. joins found C inside c.is_cone.holds c.whole e (path v u (omega arith) e))

-- selections that agree below n
keep_same : (p q : ℕ → Bool) (n : ℕ) → ((u : ℕ) → u < n → p u ≡ q u) → keep p (below n) ≡ keep q (below n)
keep_same p q zero h = refl
keep_same p q (suc n) h =
    rw (keep_append p (below n) (n ∷ []), keep_append q (below n) (n ∷ []), keep_same p q n (λ u l. h u (omega arith)), h n (omega arith))

-- a selection that has nothing from v on
keep-end : (p : ℕ → Bool) (v : ℕ) → ((u : ℕ) → v ≤ u → p u ≡ false) → (n : ℕ) → v ≤ n → keep p (below n) ≡ keep p (below v)
keep-end p v h =
    le_ind (λ n. keep p (below n) ≡ keep p (below v)) refl
    (λ n l e. rw (keep_append p (below n) (n ∷ []), h n l) (append-nil (keep p (below n)) ∙ e))

module _ (S : Sheet) (g : List ℕ) (marks : List Bool) (v : ℕ) (falling : Falling g) (low : v < 256) (asked : Question S g marks v) where
  -- operands fall: they do in the table, which holds those of the sheet
  pub reads-fall : (m u : ℕ) → m ≤ v → reads S m u ≡ true → u < m
  reads-fall m u l r =
      let a = mem_index 0 (node S m).operands (mem-out u (node S m).operands r) in
      let h : m < 256 = omega arith in
      let fall = falling.falls m a.0 h (omega (arith, a.1, asked.tabled.counts m h)) in
      omega (arith, fall, asked.tabled.operands m a.0 h a.1, a.2)

  -- what the walk looks at, and the members
  abbrev looked : List ℕ
  looked = looks S (marked marks) v

  abbrev cone : ℕ → Bool
  cone = members (marked marks) v (looks S (marked marks) v)

  -- the members are the cone inside the marks
  pub cone-inside : ConeInside S (marked marks) v (members (marked marks) v (looks S (marked marks) v))
  cone-inside = found-cone S (marked marks) v reads-fall (λ u e. of u (inside S (marked marks) v reads-fall u e))
    where
      of : (u : ℕ) → (u ≡ v) ⊎ (marked marks u ≡ true) → logic_node S u ≡ true
      of u (inl q) = ap (logic_node S) q ∙ asked.logic
      of u (inr t) = asked.logics u t

  -- A leaf of the cone is looked at, since a member reads it, and is not marked, or it would be a member.
  leaf-met : (u : ℕ) → leaf S cone u ≡ true → (mem u looked && not (marked marks u)) ≡ true
  leaf-met u e =
      let a = and-true (any (λ m. cone m && reads S m u) (below (size S))) (not (cone u)) e in
      let r = any_found (λ m. cone m && reads S m u) (below (size S)) a.0 in
      let b = and-true (cone r.0) (reads S r.0 u) r.2 in
      let seen = looks-closed S (marked marks) v reads-fall r.0 u b.0 b.1 in
      rw seen (go (eqb u v) (marked marks u) (rw seen at a.1))
    where
      go : (x y : Bool) → not (x || (y && true)) ≡ true → not y ≡ true
      go true y h = clash h
      go false true h = clash h
      go false false h = refl

  met-leaf : (u : ℕ) → (mem u looked && not (marked marks u)) ≡ true → leaf S cone u ≡ true
  met-leaf u e =
      let a = and-true (mem u looked) (not (marked marks u)) e in
      let r = looks-read S (marked marks) v reads-fall u a.0 in
      let m = r.0 in
      let l = looks-low S (marked marks) v reads-fall u a.0 in
      let here = below_in (size S) m (omega (arith, asked.within, member-low S (marked marks) v reads-fall m r.1)) in
      let found : any (λ m. cone m && reads S m u) (below (size S)) ≡ true = any_of (λ m. cone m && reads S m u) here (rw (r.1, r.2)) in
      rw (found, ne_eqb u v (λ q. omega arith), not-true (marked marks u) a.1)

  -- its cut is what is looked at and not marked
  pub cut-met : cut S (members (marked marks) v (looks S (marked marks) v))
      ≡ keep (λ u. mem u (looks S (marked marks) v) && not (marked marks u)) (below (size S))
  unfolding cut
  cut-met = ap (λ (t : ℕ → Bool). keep t (below (size S))) (fun_ext (λ u. same_test _ _ (leaf-met u) (met-leaf u)))

  -- so the leaves that are met are those of the cut
  cut-count : length (cut S cone) ≡ leaves_met S (marked marks) looked
  unfolding leaves_met
  cut-count = ap length cut-met

  -- `part` is the table of the whole walk
  abbrev Shown : (part : List Part) → Type 0
  Shown part = (u : ℕ) → u < 256 → get_or part u Unmet ≡ part_of (marked marks) v looked u

  -- the cut's leaves are all below v
  cut_low : cut S cone ≡ keep (λ u. mem u looked && not (marked marks u)) (below v)
  cut_low = cut-met ∙ keep-end (λ u. mem u looked && not (marked marks u)) v past (size S) (omega (arith, asked.within))
    where
      past : (u : ℕ) → v ≤ u → (mem u looked && not (marked marks u)) ≡ false
      past u l = go (mem u looked) refl
        where
          go : (b : Bool) → mem u looked ≡ b → (b && not (marked marks u)) ≡ false
          go true e = absurd (omega (arith, looks-low S (marked marks) v reads-fall u e))
          go false e = refl

  -- so `part` has them
  cut-listed : (part : List Part) → Shown part → cut S cone ≡ leaves_below part v
  unfolding leaves_below
  cut-listed part h = cut_low ∙ keep_same (λ u. mem u looked && not (marked marks u)) (λ u. is_leaf (get_or part u Unmet)) v two
    where
      two : (u : ℕ) → u < v → (mem u looked && not (marked marks u)) ≡ is_leaf (get_or part u Unmet)
      two u l = rw (h u (omega arith), ne_eqb u v (λ q. omega arith)) (go (mem u looked) (marked marks u))
        where
          go : (a b : Bool) → (a && not b) ≡ is_leaf (cond a (cond b Member Leaf) Unmet)
          go true true = refl
          go true false = refl
          go false b = refl

  module _ (k : ℕ) (o : List ℕ) (part : List Part) (spare : ℕ) (h : Ended S g (marked marks) v k (looks S (marked marks) v) o part spare) where
    -- The walk has ended early: the cut has more than k leaves, since so many are among the operands up to there.
    pub fit_wide : spare ≡ 0 → (list : List ℕ) → FitTest S (marked marks) v k (k + 1) list
    fit_wide none list = go h.stops
      where
        many : k < length (cut S cone) → FitTest S (marked marks) v k (k + 1) list
        many l = record { cone = cone; is_cone = cone-inside; count = omega arith; leaves = λ z. absurd (omega arith) }

        go : Stops S (marked marks) k looked o → FitTest S (marked marks) v k (k + 1) list
        go (all e m) = absurd (omega (arith, h.walking.spared))
        go (wide b u rest p q x y) = many (omega (arith, cut-count, met-grows S (marked marks) o rest, ap (leaves_met S (marked marks)) q))

    -- A cut has fewer than v + 1 leaves, so a walk that may meet v of them looks at all.
    pub walked_all : v ≤ k → o ≡ looks S (marked marks) v
    walked_all l = go h.stops
      where
        go : Stops S (marked marks) k looked o → o ≡ looked
        go (all e m) = e
        go (wide b u rest p q x y) =
            absurd (omega (
              arith,
              met-grows S (marked marks) o rest,
              ap (leaves_met S (marked marks)) q,
              cut-count,
              ap length cut_low,
              passing-few (λ u. mem u looked && not (marked marks u)) v,
            ))

    -- It has not: all is looked at, and `part` has the leaves of the cut.
    module _ (spares : 0 < spare) where
      whole-looked : Shown part × (length (cut S cone) + spare ≡ k + 1)
      whole-looked =
          let w = all-met S g (marked marks) v k looked o part spare h spares in
          (w.table, omega (arith, cut-count, w.spared))

      pub leaves-met : length (leaves_below part v) + spare ≡ k + 1
      leaves-met = omega (arith, whole-looked.1, ap length (cut-listed part whole-looked.0))

      pub fit-listed : (r : ℕ) (list : List ℕ) → r ≡ length (leaves_below part v) → take r list ≡ leaves_below part v → FitTest S (marked marks) v k r list
      fit-listed r list count leaves =
          let q = cut-listed part whole-looked.0 in
          record {
            cone = cone;
            is_cone = cone-inside;
            count = omega (arith, whole-looked.1, count, ap length q);
            leaves = λ z. leaves ∙ sym q;
          }
