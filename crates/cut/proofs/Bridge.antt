-- From the search's tables to document 01's cones and cuts.
use mathlib.Core.Path.{◌≡◌, refl, sym, ap, ◌∙◌, subst}
use mathlib.Core.Logic.{◌⊎◌, inl, inr, ⊎_elim}
use mathlib.Core.List.{List, [], ◌∷◌, Memᴰ}
use mathlib.Core.Bool.{Bool, true, false, not, ◌&&◌}
use Prim.Native.Nat.{ℕ, zero, suc, ◌≤◌, ◌<◌}
use native.Mathlib.Nat.{not-suc-le-zero, eq-or-lt_of_le}
use native.Mathlib.Omega.{arith}
use lib.ListN.{length, get_or}
use Rattle.maps.specs.Lists.{All, any, below, before}
use Rattle.maps.specs.Sheet.{Sheet, size, node}
use Rattle.maps.specs.Cut.{reads, logic_node, Cone, leaf, cut}
use Rattle.maps.proofs.Over.{and-true, same_test}
use Rattle.maps.proofs.Member.{All-at, All-of, any_found, any_of, keep-in, keep_out, mem-in, mem-out, below_in, below_out}
use Rattle.maps.proofs.Enumerate.{Ordered, path-le}
use Rattle.maps.proofs.Planned.{ordered}
use Rattle.rows.specs.Table.{count_in, operand_in, Falling}
use Rattle.cut.specs.Question.{AllowedCut, Fewest, Best, code_for, Asked}
use Rattle.flow.specs.Search.{may_inside, Leafy, Closed, Touch, Leaf, bit, Valued, Settled, Augmented, Final, member, leaf_mark, rising}
use Rattle.flow.proofs.Bools.{bool, differ, bit-true, and_yes}
use Rattle.flow.proofs.Sums.{sum, sum-tight, length-rising}
use Rattle.cut.proofs.Listing.{keep-rising, rising-same, rising-low}
use Rattle.flow.proofs.Duality.{units-least}
use Rattle.flow.proofs.Failed.{settled-closed, settled_root, leaf-mark, marks-size}
use Rattle.cut.proofs.Exchange.{final-first}
use Rattle.cut.proofs.Joined.{joined, joined-root, joined_in, joined-le, joined-path, joined-whole}
use Rattle.flow.specs.declared.Code.{Code}
use Rattle.flow.specs.declared.Code.TheVariants.{Inner, Barred}

-- an element stands at a place
member-place : {u : ℕ} (us : List ℕ) → Memᴰ u us → (j : ℕ) × (j < length us) × (get_or us j 0 ≡ u)
member-place {u = u} [] x' = elim x' [ ]
member-place (x ∷ xs) (Memᴰ.head e) = (0, omega arith, sym e)
member-place (x ∷ xs) (Memᴰ.tail m) = let r = member-place xs m in let l = r.1 in (suc r.0, omega arith, r.2)

place-member : (us : List ℕ) (j : ℕ) → j < length us → Memᴰ (get_or us j 0) us
place-member [] j lt = absurd (not-suc-le-zero lt)
place-member (x ∷ xs) zero lt = Memᴰ.head refl
place-member (x ∷ xs) (suc j) lt = Memᴰ.tail (place-member xs j (omega arith))

module _ {S : Sheet} {may : ℕ → Bool} {v : ℕ} {graph : List ℕ} {code : List Code} (asked : Asked S may v graph code) where
  ord : Ordered S
  ord = ordered S asked.well

  few : size S ≤ 256
  few = asked.well.size.most

  low : v < 256
  low = omega (arith, few, asked.node)

  -- ---- operands

  reads_in : (m j : ℕ) → m < 256 → j < count_in graph m → reads S m (operand_in graph m j) ≡ true
  reads_in m j lt l =
      let e = asked.tabled.counts m lt in
      let l' : j < length (node S m).operands = omega arith in
      subst (λ (u : ℕ). reads S m u ≡ true) (sym (asked.tabled.operands m j lt l')) (mem-in (node S m).operands (place-member (node S m).operands j l'))

  reads-out : (m u : ℕ) → m < 256 → reads S m u ≡ true → (j : ℕ) × (j < count_in graph m) × (operand_in graph m j ≡ u)
  reads-out m u lt r =
      let p = member-place (node S m).operands (mem-out u (node S m).operands r) in
      let e = asked.tabled.counts m lt in
      let l = p.1 in
      (p.0, omega arith, asked.tabled.operands m p.0 lt l ∙ p.2)

  -- ---- leaves

  leaf-out : (C : ℕ → Bool) (x : ℕ) → leaf S C x ≡ true → (Leaf graph C x) × (x < size S)
  unfolding Leaf Touch
  leaf-out C x t =
      let b = and-true (any (λ m. C m && reads S m x) (below (size S))) (not (C x)) t in
      let r = any_found (λ m. C m && reads S m x) (below (size S)) b.0 in
      let q = and-true (C r.0) (reads S r.0 x) r.2 in
      let l = below_out (size S) r.0 r.1 in
      let o = reads-out r.0 x (omega (arith, few)) q.1 in
      ((no (C x) b.1, (r.0, o.0, q.0, o.1, o.2)), omega (arith, ord r.0 x q.1))
    where
      no : (b : Bool) → not b ≡ true → b ≡ false
      no true e = sym e
      no false e = refl

  leaf-in : (C : ℕ → Bool) → ((m : ℕ) → C m ≡ true → m < size S) → (x : ℕ) → Leaf graph C x → leaf S C x ≡ true
  unfolding Leaf Touch
  leaf-in C all x h =
      let l = all h.1.0 h.1.2 in
      and_yes (any (λ m. C m && reads S m x) (below (size S))) (not (C x))
      (any_of (λ m. C m && reads S m x) (below_in (size S) h.1.0 l)
      (and_yes (C h.1.0) (reads S h.1.0 x) h.1.2 (subst (λ (u : ℕ). reads S h.1.0 u ≡ true) h.1.4 (reads_in h.1.0 h.1.1 (omega (arith, few)) h.1.3))))
      (ap not h.0)

  cut-rising : (C : ℕ → Bool) → cut S C ≡ rising (leaf S C) 256
  unfolding cut
  cut-rising C = keep-rising (leaf S C) (size S) ∙ rising-low (leaf S C) (size S) 256 few (λ x t. (leaf-out C x t).1)

  -- ---- codes

  -- what holds of v and of the nodes below
  down_to : (P : ℕ → Type 0) → P v → ((u : ℕ) → u < v → P u) → (u : ℕ) → u ≤ v → P u
  down_to P here under u le = go (eq-or-lt_of_le le)
    where
      go : (u ≡ v) ⊎ (u < v) → P u
      go (inl e) = subst P (sym e) here
      go (inr l) = under u l

  code_inside : (u : ℕ) → u ≤ v → logic_node S u ≡ true → may_inside (get_or code u Inner) ≡ true
  code_inside = down_to (λ u. logic_node S u ≡ true → may_inside (get_or code u Inner) ≡ true) (λ t. ap may_inside asked.own) (λ u l t. go (logic_node S u) (may u) t (asked.below u l))
    where
      go : {n : Code} (a b : Bool) → a ≡ true → n ≡ code_for a b → may_inside n ≡ true
      go true true t e = ap may_inside e
      go true false t e = ap may_inside e
      go false b t e = absurd (differ false t refl)

  code-logic : (u : ℕ) → u ≤ v → may_inside (get_or code u Inner) ≡ true → logic_node S u ≡ true
  code-logic = down_to (λ u. may_inside (get_or code u Inner) ≡ true → logic_node S u ≡ true) (λ l. asked.logic) (λ u l t. go (logic_node S u) (may u) t (asked.below u l))
    where
      go : {n : Code} (a b : Bool) → may_inside n ≡ true → n ≡ code_for a b → a ≡ true
      go true b t e = refl
      go false true t e = sym (ap may_inside e) ∙ t
      go false false t e = sym (ap may_inside e) ∙ t

  code-leafy : (u : ℕ) → u < v → may u ≡ true → Leafy code u
  code-leafy u l t = go (logic_node S u) (may u) t (asked.below u l)
    where
      go : {n : Code} (a b : Bool) → b ≡ true → n ≡ code_for a b → ((n ≡ Inner) → ⊥) × ((n ≡ Barred) → ⊥)
      go true true t e = (λ z. (cc), λ z. (cc))
      go false true t e = (λ z. (cc), λ z. (cc))
      go a false t e = absurd (differ false t refl)

  code-may : (u : ℕ) → u < v → Leafy code u → may u ≡ true
  code-may u l t = go (logic_node S u) (may u) t (asked.below u l)
    where
      go : {n : Code} (a b : Bool) → ((n ≡ Inner) → ⊥) × ((n ≡ Barred) → ⊥) → n ≡ code_for a b → b ≡ true
      go a true t e = refl
      go true false t e = absurd (t.0 e)
      go false false t e = absurd (t.1 e)

  -- ---- cones are closed sets

  module _ (C : ℕ → Bool) (cone : Cone S v C) where
    cone-le : (m : ℕ) → C m ≡ true → m ≤ v
    cone-le m t = path-le S ord v C cone (cone.joined m t)

    cone-low : (m : ℕ) → C m ≡ true → m < size S
    cone-low m t = omega (arith, cone-le m t, asked.node)

    cone-closed : All (λ u. may u ≡ true) (cut S C) → Closed graph code C
    unfolding Closed Leaf Touch cut
    cone-closed all m t = (omega (arith, low, cone-le m t), code_inside m (cone-le m t) (cone.logics m t), λ j lt. go j lt (bool (C (operand_in graph m j))))
      where
        go : (j : ℕ) → j < count_in graph m → (C (operand_in graph m j) ≡ true) ⊎ (C (operand_in graph m j) ≡ false) → (C (operand_in graph m j) ≡ true) ⊎ Leafy code (operand_in graph m j)
        go j lt (inl i) = inl i
        go j lt (inr n) =
            let r = reads_in m j (omega (arith, low, cone-le m t)) lt in
            let f = ord m (operand_in graph m j) r in
            let k = keep-in (leaf S C) (below_in (size S) (operand_in graph m j) (omega (arith, cone-low m t))) (leaf-in C cone-low (operand_in graph m j) (n, (m, j, t, lt, refl))) in
            inr (code-leafy (operand_in graph m j) (omega (arith, cone-le m t)) (All-at (λ u. may u ≡ true) (cut S C) all k))

  -- no allowed cut has fewer leaves than a flow has units
  units-few : {above : List ℕ} {f : ℕ} → Valued graph code above v f → (c : List ℕ) → AllowedCut S may v c → f ≤ length c
  units-few value c a =
      let C = a.cone in
      let l = units-least low value C (cone-closed C a.is_cone (subst (All (λ u. may u ≡ true)) a.is_cut a.allowed)) a.is_cone.holds
      (λ x. bit (leaf S C x)) (λ x lt h. omega (arith, ap bit (leaf-in C (cone-low C a.is_cone) x h))) in
      let n = length-rising (leaf S C) 256 in
      let e = ap length (a.is_cut ∙ cut-rising C) in
      omega arith

  -- ---- the marks of a failed search have the leaves of a cone

  module _ (falling : Falling graph) {s : List Bool} {above : List ℕ} {f : ℕ} (settled : Settled graph code s above v f) where
    R : ℕ → Bool
    R = joined S (member s) v

    marks-root : member s v ≡ true
    marks-root = settled_root falling low settled

    R-low : (m : ℕ) → R m ≡ true → m < size S
    unfolding R
    R-low m t = omega (arith, joined-le S ord (member s) v asked.node marks-root m t, asked.node)

    R-cone : Cone S v R
    unfolding R Closed
    R-cone = record {
      holds = joined-root S ord (member s) v asked.node marks-root;
      logics = λ u t. code-logic u (joined-le S ord (member s) v asked.node marks-root u t)
          (settled-closed falling low settled u (joined_in S ord (member s) v asked.node marks-root u t)).1;
      joined = joined-path S ord (member s) v asked.node marks-root;
    }

    -- a leaf of R is one of the marks
    R-leaf : (x : ℕ) → Leaf graph R x → Leaf graph (member s) x
    unfolding R Leaf Touch
    R-leaf x h = (⊎_elim (λ t. absurd (differ (R x) (whole t) h.0)) (λ n. n) (bool (member s x)), (m, h.1.1, joined_in S ord (member s) v asked.node marks-root m h.1.2, h.1.3, h.1.4))
      where
        m : ℕ
        m = h.1.0

        whole : member s x ≡ true → R x ≡ true
        whole t =
            joined-whole S ord (member s) v asked.node marks-root m x h.1.2
            (subst (λ (u : ℕ). reads S m u ≡ true) h.1.4 (reads_in m h.1.1 (omega (arith, few, R-low m h.1.2)) h.1.3)) t

    R-closed : Closed graph code R
    unfolding R Closed
    R-closed m t =
        let l = settled-closed falling low settled m (joined_in S ord (member s) v asked.node marks-root m t) in
        (l.0, l.1, λ j lt. ⊎_elim (λ h. inl (joined-whole S ord (member s) v asked.node marks-root m (operand_in graph m j) t (reads_in m j l.0 lt) h)) inr (l.2 j lt))

    R-marked : (x : ℕ) → x < 256 → leaf S R x ≡ true → leaf_mark s x ≡ true
    R-marked x lt t = leaf-mark falling low settled x lt (R-leaf x (leaf-out R x t).0)

    -- and as the marks have as few leaves as can be, theirs are R's
    marked-R : (x : ℕ) → x < 256 → leaf_mark s x ≡ true → leaf S R x ≡ true
    marked-R x lt t =
        bit-true (leaf S R x)
        (omega (arith, ap bit t, sum-tight (λ x. bit (leaf S R x)) (λ x. bit (leaf_mark s x)) 256 (λ y l. pick (leaf S R y) (leaf_mark s y) (R-marked y l)) few-marks x lt))
      where
        pick : (a b : Bool) → (a ≡ true → b ≡ true) → bit a ≤ bit b
        pick true b h = omega (arith, ap bit (h refl))
        pick false b h = omega arith

        few-marks : sum (λ x. bit (leaf_mark s x)) 256 ≤ sum (λ x. bit (leaf S R x)) 256
        few-marks =
            let n = length-rising (leaf_mark s) 256 in
            let e = marks-size falling low settled in
            let l = units-least low settled.value R R-closed R-cone.holds (λ x. bit (leaf S R x)) (λ x lt h. omega (arith, ap bit (leaf-in R R-low x h))) in
            omega arith

    marks-cut : rising (leaf_mark s) 256 ≡ cut S R
    marks-cut = rising-same (leaf_mark s) (leaf S R) 256 (λ x lt. same_test (leaf_mark s x) (leaf S R x) (marked-R x lt) (R-marked x lt)) ∙ sym (cut-rising R)

    R-may : (x : ℕ) → leaf S R x ≡ true → may x ≡ true
    unfolding Closed Leaf Touch
    R-may x t =
        let h = (leaf-out R x t).0 in
        let m = h.1.0 in
        let l = R-closed m h.1.2 in
        let f = ord m x (subst (λ (u : ℕ). reads S m u ≡ true) h.1.4 (reads_in m h.1.1 l.0 h.1.3)) in
        let le = path-le S ord v R R-cone (R-cone.joined m h.1.2) in
        ⊎_elim (λ i. absurd (differ (R x) (subst (λ (u : ℕ). R u ≡ true) h.1.4 i) h.0))
        (λ y. code-may x (omega arith) (subst (λ (u : ℕ). Leafy code u) h.1.4 y))
        (l.2 h.1.1 h.1.3)

    pub marks-allowed : AllowedCut S may v (rising (leaf_mark s) 256)
    unfolding cut
    marks-allowed = record {
      cone = R;
      is_cone = R-cone;
      is_cut = marks-cut;
      allowed = subst (All (λ u. may u ≡ true)) (sym marks-cut) (All-of (λ u. may u ≡ true) (cut S R) (λ x m. R-may x (keep_out (leaf S R) (below (size S)) m).1));
    }

    pub marks-length : length (rising (leaf_mark s) 256) ≡ f
    marks-length = marks-size falling low settled

  -- ---- what the public functions promise

  pub fewest-units : Falling graph → {s : List Bool} {above : List ℕ} {k r : ℕ} → Augmented graph code s above v k r → Fewest S may v k r
  fewest-units falling {s} a = record {
    most = a.most;
    met = λ le. (rising (leaf_mark s) 256, marks-allowed falling (a.settled le), marks-length falling (a.settled le));
    least = units-few a.value;
  }

  pub best-marks : Falling graph → {s : List Bool} {above : List ℕ} {f : ℕ} → Final graph code s above v f → Best S may v (rising (leaf_mark s) 256)
  best-marks falling {s} fin = record {
    is_allowed = marks-allowed falling fin.settled;
    fewest = λ o a. omega (arith, marks-length falling fin.settled, units-few fin.settled.value o a);
    first = λ o a e. first o a.cone a.is_cone (a.is_cut ∙ cut-rising a.cone) (subst (All (λ u. may u ≡ true)) a.is_cut a.allowed) e;
  }
    where
      first : (o : List ℕ) (C : ℕ → Bool) (cone : Cone S v C) → o ≡ rising (leaf S C) 256 → All (λ u. may u ≡ true) (cut S C) → length o ≡ length (rising (leaf_mark s) 256)
          → (rising (leaf_mark s) 256 ≡ o) ⊎ (before (rising (leaf_mark s) 256) o ≡ true)
      first o C cone q all e =
          subst (λ (l : List ℕ). (rising (leaf_mark s) 256 ≡ l) ⊎ (before (rising (leaf_mark s) 256) l ≡ true)) (sym q)
          (final-first falling low fin C (leaf S C) (cone-closed C cone all) cone.holds (λ x lt h. leaf-in C (cone-low C cone) x h)
          (sym (ap length q) ∙ e ∙ marks-length falling fin.settled))
