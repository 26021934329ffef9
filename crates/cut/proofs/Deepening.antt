-- Deepening: going down the ids once leaves no leaf that could be inside without more leaves.
use mathlib.Core.Path.{◌≡◌, refl, sym, ap, ◌∙◌, subst}
use mathlib.Core.Logic.{◌⊎◌, inl, inr, ⊎_elim}
use mathlib.Core.List.{List}
use mathlib.Core.Bool.{Bool, true, false}
use Prim.Native.Nat.{ℕ, zero, suc, ◌+◌, ◌≤◌, ◌<◌}
use native.Mathlib.Decide.{ℕ_discrete, dec_lt}
use native.Mathlib.Nat.{eq-or-lt_of_le}
use native.Mathlib.Omega.{arith}
use lib.ListN.{length, set, length-set}
use lib.Seq.{get_or-set_other}
use borrow.Author.Tests.{eq-eqb, ne_eqb}
use Rattle.rows.specs.Table.{Falling}
use Rattle.rows.specs.Cells.{cell}
use Rattle.flow.specs.Search.{bit, gate, count, Seen, Settled, Leaf, Excluded, Turned, within, held, grown, Final, member, leaf_mark, rising}
use Rattle.flow.proofs.Bools.{bool, differ, out-no}
use Rattle.flow.proofs.Marks.{member-yes, member-no}
use Rattle.flow.proofs.Laws.{count_set}
use Rattle.flow.proofs.Duality.{exclude}
use Rattle.flow.proofs.Failed.{settle-more, settled-closed, settled_root, stay, cross-leaf, leaf-mark, mark-cross, marks-size, marks-have}
use Rattle.flow.specs.declared.Code.{Code}

-- an element at two places counts twice
twice : (u i j : ℕ) (l : List ℕ) → i < length l → j < length l → ((i ≡ j) → ⊥) → cell l i ≡ u → cell l j ≡ u → 2 ≤ count u l
twice u i j l li lj ne e e' =
    let a = count_set u (u + 1) l i li in
    let n = length-set l i (u + 1) in
    let b = count_set u (u + 1) (set l i (u + 1)) j (omega arith) in
    let p = ap bit (eq-eqb (cell l i) u e) in
    let q = ap bit (eq-eqb (cell (set l i (u + 1)) j) u (get_or-set_other l i j (u + 1) 0 (λ q. ne (sym q)) ∙ e')) in
    let r = ap bit (ne_eqb (u + 1) u (λ q. omega arith)) in
    omega arith

module _ {graph : List ℕ} {code : List Code} {s : List Bool} {above : List ℕ} {v f : ℕ} (falling : Falling graph) (low-v : v < 256) (t : Settled graph code s above v f) where
  -- a member but v that another node names carries flow, from a member above it
  climb : (q y : ℕ) → q < 256 → y < 256 → ((y ≡ q) → ⊥) → cell above y ≡ q → member s q ≡ true → ((q ≡ v) → ⊥) → (q < cell above q) × (member s (cell above q) ≡ true)
  climb q y lq ly ne e h nv = (go (ℕ_discrete (cell above q) q), stay falling low-v t q lq h)
    where
      go : Dec (cell above q ≡ q) → q < cell above q
      go (yes z) =
          let len = t.value.flow.above-len in
          let two = twice q y q above (omega arith) (omega arith) ne e z in
          let one = t.value.once q lq (record { members = member s; closed = settled-closed falling low-v t; holds = h }) in
          let w = ap (λ (b : Bool). gate b f) (ne_eqb v q (λ z. nv (sym z))) in
          absurd (omega arith)
      go (no n) = ⊎_elim (λ e. absurd (n (sym e))) (λ l. l) (eq-or-lt_of_le (t.value.flow.rise q lq))

  -- follow the flow upward
  below_root : (n q y : ℕ) → 256 ≤ n + q → q < 256 → y < 256 → ((y ≡ q) → ⊥) → cell above y ≡ q → member s q ≡ true → q ≤ v
  below_root zero q y fuel lq ly ne e h = absurd (omega arith)
  below_root (suc n) q y fuel lq ly ne e h = go (λ r lt lr h' e'. below_root n r q (omega arith) lr lq (λ z. omega arith) e' h') (ℕ_discrete q v)
    where
      go : ((r : ℕ) → q < r → r < 256 → member s r ≡ true → cell above q ≡ r → r ≤ v) → Dec (q ≡ v) → q ≤ v
      go rec (yes z) = omega arith
      go rec (no nv) = let c = climb q y lq ly ne e h nv in let l = rec (cell above q) c.0 (t.value.flow.low q lq) c.1 refl in let g = c.0 in omega arith

  -- the flow reaches a leaf from a member above it
  leaf-cross : (x : ℕ) → x < 256 → Leaf graph (member s) x → (member s x ≡ false) × (x < cell above x) × (member s (cell above x) ≡ true)
  leaf-cross x lt h =
      let o = out-no (member s x) (member s (cell above x)) (mark-cross falling low-v t x lt (leaf-mark falling low-v t x lt h)) in
      (o.0, ⊎_elim (λ e. absurd (differ (member s x) (ap (member s) e ∙ o.1) o.0)) (λ l. l) (eq-or-lt_of_le (t.value.flow.rise x lt)), o.1)

  leaf-below : (x : ℕ) → x < 256 → Leaf graph (member s) x → x < v
  leaf-below x lt h =
      let c = leaf-cross x lt h in
      let g = c.1 in
      let l = below_root 256 (cell above x) x (omega arith) (t.value.flow.low x lt) lt (λ e. omega arith) refl c.2 in
      omega arith

-- all leaves from x on are excluded. This holds at v, as every leaf is below v, and each turn takes it from x + 1 to x (`partly-turn`):
-- If x is no leaf there is nothing to show. If the search from x succeeds, x is excluded by weak duality with one more source, and the marks stay.
-- If it fails, its marks are added and x is inside; the flow is the same, so there are still f leaves. Let y be a leaf of the new marks above x.
-- It carries a unit from a member. If that was a member before, y was a leaf before, and is excluded. Otherwise follow the flow upward from this
-- new member q: q carries a unit too, as y names it, and ids rise on the way, so that a member of before is reached, at the latest v. The last new
-- member on the way was then a leaf before, above x and hence excluded, and cannot be in a closed set with f leaves: so there is no such q
-- (`new-below`). So growing at x brings leaves below x only.
pub record Partly (graph : List ℕ) (code : List Code) (s : List Bool) (above : List ℕ) (v f x : ℕ) : Type 0 where
  pub settled : Settled graph code s above v f
  pub excluded : (y : ℕ) → x ≤ y → y < 256 → Leaf graph (member s) y → Excluded graph code v f y

module _ {graph : List ℕ} {code : List Code} {s s' : List Bool} {above : List ℕ} {v f : ℕ} (x : ℕ) (falling : Falling graph) (low-v : v < 256) (old : Partly graph code s above v f (x + 1)) (new : Settled graph code s' above v f) where
  -- a node that the new marks hold is not excluded
  free : (q : ℕ) → member s' q ≡ true → Excluded graph code v f q → ⊥
  unfolding Excluded
  free q h r =
      let l = r (member s') (settled-closed falling low-v new) (settled_root falling low-v new) h (rising (leaf_mark s') 256) (marks-have falling low-v new) in
      let e = marks-size falling low-v new in
      omega arith

  -- a node that only the new marks hold, and that another names, is at most x
  new-below : (n q y : ℕ) → 256 ≤ n + q → q < 256 → y < 256 → ((y ≡ q) → ⊥) → cell above y ≡ q → member s' q ≡ true → member s q ≡ false → q ≤ x
  new-below zero q y fuel lq ly ne e h out = absurd (omega arith)
  new-below (suc n) q y fuel lq ly ne e h out =
      let c = climb falling low-v new q y lq ly ne e h (λ z. differ (member s q) (ap (member s) z ∙ settled_root falling low-v old.settled) out) in
      go (λ r lt lr h' e' o. new-below n r q (omega arith) lr lq (λ z. omega arith) e' h' o) c.0 c.1 (bool (member s (cell above q))) (dec_lt x q)
    where
      go : ((r : ℕ) → q < r → r < 256 → member s' r ≡ true → cell above q ≡ r → member s r ≡ false → r ≤ x) → q < cell above q → member s' (cell above q) ≡ true → (member s (cell above q) ≡ true) ⊎ (member s (cell above q) ≡ false) → Dec (x < q) → q ≤ x
      go rec up h' i (no g) = omega arith
      go rec up h' (inl i) (yes g) = absurd (free q h (old.excluded q (omega arith) lq (cross-leaf falling low-v old.settled q lq out i)))
      go rec up h' (inr o) (yes g) = let l = rec (cell above q) up (new.value.flow.low q lq) h' refl o in omega arith

  -- the new leaves from x on are excluded
  new-excluded : ((i : ℕ) → Seen s i → Seen s' i) → Seen s' x → x < 256 → (y : ℕ) → x ≤ y → y < 256 → Leaf graph (member s') y → Excluded graph code v f y
  new-excluded grow seen lx y le ly leaf =
      let c = leaf-cross falling low-v new y ly leaf in
      go c.0 c.1 c.2 (bool (member s y)) (bool (member s (cell above y))) (eq-or-lt_of_le le)
    where
      go : member s' y ≡ false → y < cell above y → member s' (cell above y) ≡ true → (member s y ≡ true) ⊎ (member s y ≡ false) → (member s (cell above y) ≡ true) ⊎ (member s (cell above y) ≡ false) → (x ≡ y) ⊎ (x < y) → Excluded graph code v f y
      go n up h i j (inl e) = absurd (differ (member s' y) (ap (member s') (sym e) ∙ member-yes s' x lx seen) n)
      go n up h (inl i) j (inr l) = absurd (differ (member s' y) (member-yes s' y ly (grow y (member-no s y i).1)) n)
      go n up h (inr o) (inl i) (inr l) = old.excluded y (omega arith) ly (cross-leaf falling low-v old.settled y ly o i)
      go n up h (inr o) (inr o') (inr l) =
          let q = new-below 256 (cell above y) y (omega arith) (new.value.flow.low y ly) ly (λ e. omega arith) refl h o' in
          absurd (omega arith)

-- ---- one turn

pub partly-first : {graph : List ℕ} {code : List Code} {s : List Bool} {above : List ℕ} {v f : ℕ} → Falling graph → v < 256 → Settled graph code s above v f → Partly graph code s above v f v
partly-first falling low t = record { settled = t; excluded = λ y le lt h. let b = leaf-below falling low t y lt h in absurd (omega arith) }

pub partly-last : {graph : List ℕ} {code : List Code} {s : List Bool} {above : List ℕ} {v f : ℕ} → Partly graph code s above v f 0 → Final graph code s above v f
partly-last p = record { settled = p.settled; excluded = λ x lt h. p.excluded x (omega arith) lt h }

-- the marks stay, for a reason at x
partly-same : {graph : List ℕ} {code : List Code} {s : List Bool} {above : List ℕ} {v f x : ℕ} → Partly graph code s above v f (x + 1) → (Leaf graph (member s) x → Excluded graph code v f x) → Partly graph code s above v f x
partly-same {graph} {code} {s} {above} {v} {f} {x} p here = record { settled = p.settled; excluded = λ y le lt h. go y lt h (eq-or-lt_of_le le) }
  where
    go : (y : ℕ) → y < 256 → Leaf graph (member s) y → (x ≡ y) ⊎ (x < y) → Excluded graph code v f y
    go y lt h (inl e) = subst (λ (z : ℕ). Excluded graph code v f z) e (here (subst (λ (z : ℕ). Leaf graph (member s) z) (sym e) h))
    go y lt h (inr l) = p.excluded y (omega arith) lt h

pub partly-turn : {graph : List ℕ} {code : List Code} {s s' : List Bool} {above : List ℕ} {v f x : ℕ} → Falling graph → v < 256 → x < 256 → Turned graph code s s' above x → Partly graph code s above v f (x + 1) → Partly graph code s' above v f x
partly-turn {x = x} falling low lx (grown b seen) p =
    let new = settle-more p.settled b in
    record { settled = new; excluded = new-excluded x falling low p new b.grow seen lx }
partly-turn {graph} {code} {s} {s'} {above} {v} {f} {x} falling low lx (held e above' push) p =
    subst (λ (m : List Bool). Partly graph code m above v f x) (sym e) (partly-same p (λ h. exclude low lx p.settled.value push))
partly-turn {graph} {code} {s} {s'} {above} {v} {f} {x} falling low lx (within e out) p =
    subst (λ (m : List Bool). Partly graph code m above v f x) (sym e) (partly-same p (λ h. absurd (differ (leaf_mark s x) (leaf-mark falling low p.settled x lx h) out)))
