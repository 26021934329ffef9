-- The marks of held nodes: what one mark more changes, what a sweep over the nodes keeps, and that the marks are in the end exactly the held
-- nodes.
use Prim.Native.Nat.{ℕ, zero, suc, ◌+◌, ◌-◌, ◌≤◌, ◌<◌}
use mathlib.Core.Path.{◌≡◌, refl, sym, ap, ◌∙◌, subst}
use mathlib.Core.Bool.{Bool, true, false, not, cond, ◌||◌, or-true, or-false}
use mathlib.Core.List.{List}
use mathlib.Core.Logic.{inl, inr}
use native.Mathlib.Omega.{arith}
use native.Mathlib.Decide.{ℕ_discrete}
use lib.Dec.{ltb}
use lib.ListN.{length, get_or, set, replicate, length-set, length-replicate}
use lib.Seq.{get_or-set_same, get_or-set_other}
use borrow.Author.Count.{below_none, below_more}
use borrow.Author.Tests.{ltb-true}
use Rattle.std.proofs.lemmas.Bool.{lt-ltb}
use Rattle.std.proofs.lemmas.List.Sums.{sum_by-set}
use Rattle.std.specs.List.{count_by}
use Rattle.rows.specs.Table.{operand_in, latency_in}
use Rattle.hold.specs.declared.Order.{Order}
use Rattle.hold.specs.declared.Order.TheVariants.{Rising, Falling}
use Rattle.hold.specs.Turn.{turn_of}
use Rattle.hold.specs.Mark.{HeldIn, early-in, operand-in, target-in, Floats, held_in, OnlyHeld, HeldEarly, Near, Holdable, NodeHeld, Marked, Swept, AllMarked}

-- ---- tests

pub not-both : {b : Bool} → b ≡ true → b ≡ false → ⊥
not-both p q = let z : ◌≡◌ {A = ℕ} 0 1 = cc in omega arith

-- operand j of v, read as u with its ready step, holds v where u is marked and its ready step is close
pub near_by : (graph steps : List ℕ) (held : List Bool) (p v j : ℕ) {u ready own : ℕ} → u ≡ operand_in graph v j → ready ≡ get_or steps u 0 + latency_in graph u
    → own ≡ get_or steps v 0 → held_in held u ≡ true → own ≤ ready + p → Near graph steps held p v j
near_by graph steps held p v j e r o h c = record { holds = rw (← e) h; close = rw (← e) (omega arith) }

-- ---- one mark

held-here : (l : List Bool) (v : ℕ) (b : Bool) → v < length l → held_in (set l v b) v ≡ b
held-here l v b h = get_or-set_same l v b false h

held-there : (l : List Bool) (v u : ℕ) (b : Bool) → (u ≡ v → ⊥) → held_in (set l v b) u ≡ held_in l u
held-there l v u b f = get_or-set_other l v u b false f

held-still : (l : List Bool) (v u : ℕ) → v < length l → held_in l u ≡ true → held_in (set l v true) u ≡ true
held-still l v u h e = go (ℕ_discrete u v)
  where
    go : Dec (u ≡ v) → held_in (set l v true) u ≡ true
    go (yes p) = ap (held_in (set l v true)) p ∙ held-here l v true h
    go (no f) = held-there l v u true f ∙ e

-- ---- the nodes of a step below the shift

none-held : (n v : ℕ) → held_in (replicate n false) v ≡ false
none-held zero v = refl
none-held (suc n) zero = refl
none-held (suc n) (suc v) = none-held n v

pub early-none : (steps : List ℕ) (p : ℕ) → HeldEarly steps (replicate 256 false) p 0
early-none steps p =
    record {
      wide = length-replicate {A = Bool} 256 false;
      early = below_none _;
      only = λ v k. absurd (not-both k (none-held 256 v));
    }

-- the turn of v: it is marked where its step is below the shift
pub early-more : {steps : List ℕ} {held : List Bool} {p v own : ℕ} → HeldEarly steps held p v → v < 256 → own ≡ get_or steps v 0
    → HeldEarly steps (set held v (ltb own p)) p (v + 1)
early-more {steps} {held} {p} {v} {own} g l e =
    let h : v < length held = omega (arith, g.wide) in
    record {
      wide = length-set held v (ltb own p) ∙ g.wide;
      early = below_more _ v (λ u k z. held-there held v u (ltb own p) (omega arith) ∙ g.early u k z) (λ z. held-here held v (ltb own p) h ∙ lt-ltb own p (omega arith));
      only = λ u k. go u k (ℕ_discrete u v);
    }
  where
    go : (u : ℕ) → held_in (set held v (ltb own p)) u ≡ true → Dec (u ≡ v) → (u < v + 1) × (get_or steps u 0 < p)
    go u k (yes q) =
        let h : v < length held = omega (arith, g.wide) in
        let b = ltb-true own p (sym (ap (held_in (set held v (ltb own p))) q ∙ held-here held v (ltb own p) h) ∙ k) in
        (omega arith, omega (arith, ap (λ (w : ℕ). get_or steps w 0) q))
    go u k (no f) = let o = g.only u (sym (held-there held v u (ltb own p) f) ∙ k) in (omega (arith, o.0), o.1)

-- ---- a sweep over the nodes

-- one node fewer is left to mark
left-fewer : (l : List Bool) (v : ℕ) → v < length l → held_in l v ≡ false → count_by not (set l v true) + 1 ≡ count_by not l
left-fewer l v h e =
    let k : count_by not (set l v true) + cond {A = ℕ} (not (held_in l v)) 1 0 ≡ count_by not l + 0 = sum_by-set (λ (b : Bool). cond {A = ℕ} (not b) 1 0) l v true false h in
    let z : cond {A = ℕ} (not (held_in l v)) 1 0 ≡ 1 = ap (λ (b : Bool). cond {A = ℕ} (not b) 1 0) e in
    omega arith

marked-new : (l : List Bool) (v : ℕ) → v < length l → held_in l v ≡ false → Marked l (set l v true) true
marked-new l v h e =
    (record { wide = length-set l v true; still = λ u. held-still l v u h }, omega (arith, left-fewer l v h e))

marked-then : (a b c : List Bool) (g : Bool) → Marked a b g → Marked b c true → Marked a c true
marked-then a b c true p q =
    (record { wide = q.0.wide ∙ p.0.wide; still = λ v e. q.0.still v (p.0.still v e) }, omega (arith, p.1, q.1))
marked-then a b c false p q = subst (λ (l : List Bool). Marked l c true) p q

marked-wide : (a b : List Bool) (g : Bool) → Marked a b g → length b ≡ length a
marked-wide a b true p = p.0.wide
marked-wide a b false p = ap length p

module _ {graph differences steps : List ℕ} {p n m : ℕ} where
  -- what a marked node holds is held
  held_next : (held : List Bool) (v : ℕ) → OnlyHeld graph differences steps held p n m → v < n → Holdable graph differences steps held p m v
      → HeldIn graph differences steps p n m v
  held_next held v only l (inl w) = operand-in v w.0 l w.1 (only _ w.2.holds) w.2.close
  held_next held v only l (inr w) =
      let t = w.1 in
      let q = t.into in
      subst (HeldIn graph differences steps p n m) q (target-in w.0 t.within (omega arith) (only _ t.ties.holds) t.ties.tight)

  -- one mark more, of a node that is held
  only-mark : (held : List Bool) (v : ℕ) → OnlyHeld graph differences steps held p n m → HeldIn graph differences steps p n m v
      → OnlyHeld graph differences steps (set held v true) p n m
  only-mark held v only h u k = go (ℕ_discrete u v)
    where
      go : Dec (u ≡ v) → HeldIn graph differences steps p n m u
      go (yes q) = subst (HeldIn graph differences steps p n m) (sym q) h
      go (no f) = only u (sym (held-there held v u true f) ∙ k)

  swept_none : {a : List Bool} {low high : ℕ} → high ≤ low → Swept graph differences steps a a p n m low high false
  swept_none l = record { marked = refl; closed = λ z v b t. absurd (omega arith); only = λ h. h }

  module _ {a b : List Bool} {low high : ℕ} {g : Bool} (s : Swept graph differences steps a b p n m low high g) where
    swept-wide : length b ≡ length a
    swept-wide = marked-wide a b g s.marked

    -- the turn of v: the nodes from low up to high had theirs, and now those from low' up to high' have
    swept-yes : {c : List Bool} {low' high' : ℕ} (v : ℕ) → v < n → v < length b → NodeHeld graph differences steps b c p m v true
        → Swept graph differences steps a c p n m low' high' true
    swept-yes {c} {low'} {high'} v l wide t =
        subst (λ (x : List Bool). Swept graph differences steps a x p n m low' high' true) (sym t.2)
        (record {
          marked = marked-then a b (set b v true) g s.marked (marked-new b v wide t.0);
          closed = λ z. absurd (not-both refl z);
          only = λ h. only-mark b v (s.only h) (held_next b v (s.only h) l t.1);
        })

    swept-no : {c : List Bool} {low' high' : ℕ} (v : ℕ) → ((u : ℕ) → low' ≤ u → u < high' → (u ≡ v → ⊥) → (low ≤ u) × (u < high))
        → NodeHeld graph differences steps b c p m v false → Swept graph differences steps a c p n m low' high' g
    swept-no {c} {low'} {high'} v rest t =
        subst (λ (x : List Bool). Swept graph differences steps a x p n m low' high' g) (sym t.1)
        (record { marked = s.marked; closed = λ z u f h. at z u f h (ℕ_discrete u v); only = s.only })
      where
        at : g ≡ false → (u : ℕ) → low' ≤ u → u < high' → Dec (u ≡ v) → Holdable graph differences steps b p m u → held_in b u ≡ true
        at z u f h (yes q) = subst (λ (x : ℕ). Holdable graph differences steps b p m x → held_in b x ≡ true) (sym q) t.0
        at z u f h (no q) = let w = rest u f h q in s.closed z u w.0 w.1

    -- the turn of v, whether or not it is marked
    swept-turn : {c : List Bool} {low' high' : ℕ} (v : ℕ) → v < n → v < length b
        → ((u : ℕ) → low' ≤ u → u < high' → (u ≡ v → ⊥) → (low ≤ u) × (u < high))
        → (r : Bool) → NodeHeld graph differences steps b c p m v r → Swept graph differences steps a c p n m low' high' (g || r)
    swept-turn v l wide rest true t = rw or-true (swept-yes v l wide t)
    swept-turn v l wide rest false t = rw or-false (swept-no v rest t)

-- the nodes that had their turn after i turns of n: those from `turned_low` up to `turned_high`
abbrev pub turned_low : Order → (i n : ℕ) → ℕ
turned_low Rising i n = 0
turned_low Falling i n = n - i

abbrev pub turned_high : Order → (i n : ℕ) → ℕ
turned_high Rising i n = i
turned_high Falling i n = n

module _ {graph differences steps : List ℕ} {p n m : ℕ} where
  -- before the first turn
  pub turned_none : {a : List Bool} (o : Order) → Swept graph differences steps a a p n m (turned_low o 0 n) (turned_high o 0 n) false
  turned_none Rising = swept_none (omega arith)
  turned_none Falling = swept_none (omega arith)

  module _ {a b : List Bool} {i : ℕ} where
    -- one turn more
    pub turned_more : (o : Order) {c : List Bool} {v : ℕ} {g : Bool} (r : Bool)
        → Swept graph differences steps a b p n m (turned_low o i n) (turned_high o i n) g → i < n → n ≤ length a → v ≡ turn_of o i n
        → NodeHeld graph differences steps b c p m v r
        → Swept graph differences steps a c p n m (turned_low o (i + 1) n) (turned_high o (i + 1) n) (g || r)
    turned_more Rising {c} {v} {g} r s l wide e t =
        swept-turn s v (omega arith) (omega (arith, swept-wide s)) (λ u f h k. (omega arith, omega arith)) r t
    turned_more Falling {c} {v} {g} r s l wide e t =
        swept-turn s v (omega arith) (omega (arith, swept-wide s)) (λ u f h k. (omega arith, omega arith)) r t

    -- after the last one
    pub turned_all : (o : Order) {g : Bool} → n ≤ i → i ≤ n → Swept graph differences steps a b p n m (turned_low o i n) (turned_high o i n) g
        → Swept graph differences steps a b p n m 0 n g
    turned_all Rising h k s = record { marked = s.marked; closed = λ z v f l. s.closed z v f (omega arith); only = s.only }
    turned_all Falling h k s = record { marked = s.marked; closed = λ z v f l. s.closed z v (omega arith) l; only = s.only }

-- ---- all marks

-- between two sweeps: the nodes of a step below the shift are marked, and only what is held is
pub record Marks (graph differences steps : List ℕ) (held : List Bool) (p n m : ℕ) : Type 0 where
  pub wide : length held ≡ 256
  pub early : (v : ℕ) → v < n → get_or steps v 0 < p → held_in held v ≡ true
  pub only : OnlyHeld graph differences steps held p n m

module _ {graph differences steps : List ℕ} {p n m : ℕ} where
  pub marks-first : {held : List Bool} → HeldEarly steps held p n → Marks graph differences steps held p n m
  marks-first z =
      record { wide = z.wide; early = z.early; only = λ v k. let o = z.only v k in early-in v o.0 o.1 }

  -- a sweep that marks something
  pub marks-again : {held more : List Bool} → Marks graph differences steps held p n m → Swept graph differences steps held more p n m 0 n true
      → Marks graph differences steps more p n m × (count_by not more < count_by not held)
  marks-again k w =
      let g = w.marked in (
        record {
          wide = g.0.wide ∙ k.wide;
          early = λ v l z. g.0.still v (k.early v l z);
          only = w.only k.only;
        },
        g.1,
      )

  -- marks that are closed under holding have every held node
  marks-all : {held : List Bool} → Marks graph differences steps held p n m
      → ((v : ℕ) → v < n → Holdable graph differences steps held p m v → held_in held v ≡ true)
      → (v : ℕ) → HeldIn graph differences steps p n m v → held_in held v ≡ true
  marks-all k t v (early-in u l e) = k.early v l e
  marks-all k t v (operand-in u j l h o c) = t v l (inl (j, h, record { holds = marks-all k t (operand_in graph v j) o; close = c }))
  marks-all k t v (target-in i l b o c) =
      t v b (inr (i, record { within = l; into = refl; ties = record { holds = marks-all k t _ o; tight = c } }))

  -- a sweep that marks nothing: the marks are exactly the held nodes
  pub marks-exact : {held more : List Bool} → Marks graph differences steps held p n m → Swept graph differences steps held more p n m 0 n false
      → (b : Bool) → AllMarked more n b → Floats graph differences steps p n m (not b)
  marks-exact {held} {more} k w b h = go b h
    where
      same : Marks graph differences steps more p n m
      same = subst (λ (l : List Bool). Marks graph differences steps l p n m) (sym w.marked) k

      go : (b : Bool) → AllMarked more n b → Floats graph differences steps p n m (not b)
      go true all = λ v l. same.only v (all v l)
      go false f = (f.0, f.1, λ o. not-both (marks-all same (λ v l. w.closed refl v (omega arith) l) f.0 o) f.2)
