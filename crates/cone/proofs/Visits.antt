-- The walk from operand to operand: what `part` and the spare leaves say after each, and where the walk ends.
use Prim.Native.Nat.{ℕ, zero, suc, ◌+◌, ◌-◌, ◌≤◌, ◌<◌}
use mathlib.Core.Path.{◌≡◌, refl, sym, subst, ap, ◌∙◌}
use mathlib.Core.Bool.{Bool, true, false, cond, ◌||◌, and-false, or-false}
use mathlib.Core.List.{List, [], ◌∷◌, ◌++◌, append-nil, append_assoc}
use native.Mathlib.Decide.{ℕ_discrete}
use native.Mathlib.Numerals.{add-one}
use native.Mathlib.Omega.{arith}
use lib.Dec.{eqb}
use lib.ListN.{length, get_or, set, take, drop, replicate, get_or-replicate, take-append-drop}
use lib.Seq.{get_or-set_same, get_or-set_other, take-suc, take_all}
use borrow.Author.Tests.{eq-eqb, ne_eqb}
use Rattle.maps.specs.Lists.{mem}
use Rattle.maps.specs.Sheet.{Sheet, node, size}
use Rattle.maps.proofs.Member.{mem-append}
use Rattle.rows.specs.Table.{Tabled, count_in, operand_in}
use Rattle.cone.specs.Looks.{look, look_all, leaves_met, Stops, all, wide}
use Rattle.cone.specs.declared.Part.{Part}
use Rattle.cone.specs.declared.Part.TheVariants.{Unmet, Member, Leaf}
use Rattle.cone.specs.Walk.{marked}
use Rattle.cone.specs.Part.{part_of, Lent, Walking, Ended}
use Rattle.cone.proofs.LeafLaws.{met-none, met-again, met-new}
use Rattle.cone.proofs.LookLaws.{all-extends, folds-on}

pub in-part : {g : List ℕ} {p : List Part} {u : ℕ} → Lent g p u → u < length p
in-part l = omega (arith, l.node, l.wide)

module _ (S : Sheet) (g : List ℕ) (marked : ℕ → Bool) (v k : ℕ) where
  -- the walk goes on only where a leaf is spare
  not_wide : {t : List ℕ} {part : List Part} {spare : ℕ} → Walking S g marked v k t part spare → 0 < spare → leaves_met S marked t ≤ k
  not_wide w l = omega (arith, w.spared)

  -- all that was to be looked at is
  pub ended : {t : List ℕ} {part : List Part} {spare : ℕ} → Walking S g marked v k t part spare → 0 < spare → Ended S g marked v k t t part spare
  ended w l = record { stops = all refl (not_wide w l); walking = w }

  -- where a leaf is spare, the walk has looked at all that it was to
  module _ (whole t : List ℕ) (part : List Part) (spare : ℕ) (e : Ended S g marked v k whole t part spare) (l : 0 < spare) where
    pub met_all : t ≡ whole
    met_all = of e.stops
      where
        of : Stops S marked k whole t → t ≡ whole
        of (all q few) = q
        of (wide before u rest q r s m) = absurd (omega (arith, e.walking.spared, l, m))

    pub all-met : Walking S g marked v k whole part spare
    all-met = subst (λ (o : List ℕ). Walking S g marked v k o part spare) met_all e.walking

  -- the walk begins where v alone is met
  pub walk-begun : (spare : ℕ) → Tabled S g → v < size S → v < 256 → spare ≡ k + 1 → Walking S g marked v k [] (set (replicate 256 Unmet) v Member) spare
  walk-begun spare tabled within low e =
      record { tabled = tabled; within = within; table = λ u l. go u l (ℕ_discrete u v); spared = omega (arith, met-none S marked) }
    where
      go : (u : ℕ) → u < 256 → Dec (u ≡ v) → ◌≡◌ {A = Part} (get_or (set (replicate 256 Unmet) v Member) u Unmet) (cond (eqb u v) Member Unmet)
      go u l (yes q) = rw (q, eq-eqb v v refl) (get_or-set_same (replicate 256 Unmet) v Member Unmet low)
      go u l (no f) = rw (ne_eqb u v f) (get_or-set_other (replicate 256 Unmet) v u Member Unmet f ∙ get_or-replicate {A = Part} 256 u Unmet Unmet l)

  -- the operand u, below v
  module _ (t : List ℕ) (part : List Part) (spare u : ℕ) (w : Walking S g marked v k t part spare) (spares : 0 < spare) (lent : Lent g part u) (lower : u < v) where
    other : eqb u v ≡ false
    other = ne_eqb u v (λ e. omega arith)

    -- what is met of u
    here : get_or part u Unmet ≡ cond (mem u t) (cond (marked u) Member Leaf) Unmet
    here = w.table u lent.node ∙ rw other

    met : (get_or part u Unmet ≡ Unmet → ⊥) → mem u t ≡ true
    met f = go (mem u t) (here)
      where
        go : (b : Bool) → get_or part u Unmet ≡ cond b (cond (marked u) Member Leaf) Unmet → b ≡ true
        go true e = refl
        go false e = absurd (f e)

    new : get_or part u Unmet ≡ Unmet → mem u t ≡ false
    new z = go (mem u t) (marked u) (sym here ∙ z)
      where
        go : (b m : Bool) → ◌≡◌ {A = Part} (cond b (cond m Member Leaf) Unmet) Unmet → b ≡ false
        go true true e = (cc)
        go true false e = (cc)
        go false m e = refl

    -- the operand adds nothing to what is met
    pub met-visit : (n : ℕ) → u < n → (get_or part u Unmet ≡ Unmet → ⊥) → Ended S g marked v k (look S marked n t u) (t ++ (u ∷ [])) part spare
    met-visit zero l f = absurd (omega arith)
    met-visit (suc n) l f = rw stays (ended after spares)
      where
        stays : look S marked (suc n) t u ≡ t ++ (u ∷ [])
        stays = rw (met f, and-false (marked u))

        same : (x : ℕ) → mem x (t ++ (u ∷ [])) ≡ mem x t
        same x = mem-append x t (u ∷ []) ∙ go (ℕ_discrete x u)
          where
            go : Dec (x ≡ u) → (mem x t || (eqb x u || false)) ≡ mem x t
            go (yes q) = rw (q, met f)
            go (no h) = rw (ne_eqb x u h) (or-false (mem x t))

        after : Walking S g marked v k (t ++ (u ∷ [])) part spare
        after =
            record {
              tabled = w.tabled;
              within = w.within;
              table = λ x l. w.table x l ∙ rw (same x);
              spared = rw (met-again S marked t u (rw (met f))) w.spared;
            }

    -- u is met for the first time
    stored : get_or part u Unmet ≡ Unmet → (m : Bool) → marked u ≡ m → (x : ℕ) → x < 256 → get_or (set part u (cond m Member Leaf)) x Unmet ≡ part_of marked v (t ++ (u ∷ [])) x
    stored z m e x l = rw (mem-append x t (u ∷ [])) (go (ℕ_discrete x u))
      where
        go : Dec (x ≡ u) → get_or (set part u (cond m Member Leaf)) x Unmet ≡ cond (eqb x v) Member (cond (mem x t || (eqb x u || false)) (cond (marked x) Member Leaf) Unmet)
        go (yes q) = rw (q, get_or-set_same part u (cond m Member Leaf) Unmet (in-part lent), other, new z, eq-eqb u u refl, e)
        go (no h) = rw (get_or-set_other part u x (cond m Member Leaf) Unmet h, ne_eqb x u h, or-false (mem x t)) (w.table x l)

    -- a new leaf: one is spare less, and where none is left the walk ends
    pub leaf-visit : (n : ℕ) → u < n → get_or part u Unmet ≡ Unmet → marked u ≡ false → Ended S g marked v k (look S marked n t u) (t ++ (u ∷ [])) (set part u Leaf) (spare - 1)
    leaf-visit zero l z free = absurd (omega arith)
    leaf-visit (suc n) l z free = rw free (go (ℕ_discrete (spare - 1) 0))
      where
        one : leaves_met S marked (t ++ (u ∷ [])) ≡ leaves_met S marked t + 1
        one = met-new S marked t u (rw (new z, free)) (omega (arith, w.within))

        after : Walking S g marked v k (t ++ (u ∷ [])) (set part u Leaf) (spare - 1)
        after = record { tabled = w.tabled; within = w.within; table = stored z false free; spared = omega (arith, one, w.spared) }

        go : Dec (spare - 1 ≡ 0) → Ended S g marked v k (t ++ (u ∷ [])) (t ++ (u ∷ [])) (set part u Leaf) (spare - 1)
        go (yes q) =
            record {
              stops = wide t u [] refl (sym (append-nil (t ++ (u ∷ [])))) (omega (arith, w.spared)) (omega (arith, one, w.spared));
              walking = after;
            }
        go (no h) = ended after (omega arith)

    -- a new member: its operands follow
    module _ (n : ℕ) (l : u < n) (z : get_or part u Unmet ≡ Unmet) (mark : marked u ≡ true) where
      pub member-begun : Walking S g marked v k (t ++ (u ∷ [])) (set part u Member) spare
      member-begun =
          record {
            tabled = w.tabled;
            within = w.within;
            table = stored z true mark;
            spared = rw (met-again S marked t u (rw (new z, mark))) w.spared;
          }

      pub member-visit : (o : List ℕ) (part' : List Part) (r : ℕ) → Ended S g marked v k (look_all S marked (n - 1) (t ++ (u ∷ [])) (node S u).operands) o part' r
          → Ended S g marked v k (look S marked n t u) o part' r
      member-visit o part' r e = go n l e
        where
          go : (n : ℕ) → u < n → Ended S g marked v k (look_all S marked (n - 1) (t ++ (u ∷ [])) (node S u).operands) o part' r
              → Ended S g marked v k (look S marked n t u) o part' r
          go zero l e = absurd (omega arith)
          go (suc n) l e =
              let same : suc n - 1 ≡ n = omega arith in
              rw (mark, new z) (subst (λ (m : ℕ). Ended S g marked v k (look_all S marked m (t ++ (u ∷ [])) (node S u).operands) o part' r) same e)

  -- the operands of u, after the operands t
  module _ (u n : ℕ) (low : u < 256) (t : List ℕ) where
    -- those before the jth are looked at
    abbrev pub first : ℕ → List ℕ
    first j = look_all S marked n t (take j (node S u).operands)

    -- all are
    pub all-first : (j : ℕ) → Tabled S g → count_in g u ≤ j → first j ≡ look_all S marked n t (node S u).operands
    all-first j tabled h = ap (λ (us : List ℕ). look_all S marked n t us) (take_all j (node S u).operands (omega (arith, h, tabled.counts u low)))

    -- the operand y at j
    module _ (j : ℕ) (tabled : Tabled S g) (here : j < count_in g u) (y : ℕ) (q : y ≡ operand_in g u j) where
      within : j < length (node S u).operands
      within = omega (arith, here, tabled.counts u low)

      pub next : first (j + 1) ≡ look S marked n (first j) y
      next =
          ap (λ (us : List ℕ). look_all S marked n t us) (ap (λ (i : ℕ). take i (node S u).operands) (add-one j) ∙ take-suc (node S u).operands j 0 within)
          ∙ folds-on (look S marked n) t (take j (node S u).operands) (get_or (node S u).operands j 0 ∷ [])
          ∙ ap (λ (x : ℕ). look S marked n (first j) x) (sym (q ∙ tabled.operands u j low within))

      -- no leaf is spare: y, or an operand below it, is leaf k + 1
      pub stop-here : (o : List ℕ) (part : List Part) (left : ℕ) → left ≡ 0 → Ended S g marked v k (look S marked n (first j) y) o part left
          → Ended S g marked v k (look_all S marked n t (node S u).operands) o part left
      stop-here o part left z e = of e.stops
        where
          rest_of : List ℕ
          rest_of = drop (j + 1) (node S u).operands

          whole : look_all S marked n t (node S u).operands ≡ look_all S marked n (look S marked n (first j) y) rest_of
          whole =
              ap (λ (us : List ℕ). look_all S marked n t us) (sym (take-append-drop (j + 1) (node S u).operands))
              ∙ folds-on (look S marked n) t (take (j + 1) (node S u).operands) rest_of ∙ ap (λ (l : List ℕ). look_all S marked n l rest_of) next

          of : Stops S marked k (look S marked n (first j) y) o → Ended S g marked v k (look_all S marked n t (node S u).operands) o part left
          of (all p few) = absurd (omega (arith, e.walking.spared))
          of (wide before x rest p r s m) =
              let more = all-extends S marked n (look S marked n (first j) y) rest_of in
              record {
                stops = wide before x (rest ++ more.0) p (whole ∙ more.1 ∙ ap (λ (l : List ℕ). l ++ more.0) r ∙ append_assoc o rest more.0) s m;
                walking = e.walking;
              }

-- the first j operands of u are looked at, and leaves are spare still
abbrev pub OperandsMet : (g : List ℕ) (marks : List Bool) (p p' : List Part) (E E' : ℕ → Type 0) (spare r u j : ℕ) → Type 0
OperandsMet g marks p p' E E' spare r u j =
    (S : Sheet) (v k n : ℕ) (t : List ℕ) → u ≤ n → n ≤ v → Walking S g (marked marks) v k t p spare → E (length t)
    → Walking S g (marked marks) v k (look_all S (marked marks) n t (take j (node S u).operands)) p' r
    × E' (length (look_all S (marked marks) n t (take j (node S u).operands)))
