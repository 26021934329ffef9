-- Weak duality: no closed set for v has fewer leaves than a flow from v has units.
-- Each node x names a node, `above[x]`: itself, or the node from which its unit of flow comes. Let C be a closed set that holds v, and count the
-- nodes that name a member of C, in two ways. Each member is named once and v f times more, so they are as many as the members and f more
-- (`balance`). On the other hand such a node is a member, or else an operand of a member and so a leaf, for that is what a link between the two
-- says. So they are at most as many as members and leaves together (`lower`), and there are at least f leaves (`units-least`).
use mathlib.Core.Path.{◌≡◌, refl, sym, ap, ◌∙◌, subst}
use mathlib.Core.Logic.{◌⊎◌, inl, inr, ⊎_elim}
use mathlib.Core.List.{List}
use mathlib.Core.Bool.{Bool, true, false, not, ◌&&◌}
use Prim.Native.Nat.{ℕ, ◌+◌, ◌≤◌, ◌<◌}
use native.Mathlib.Omega.{arith}
use lib.ListN.{length}
use lib.Dec.{eqb}
use borrow.Author.Tests.{eq-eqb, ne_eqb}
use Rattle.rows.specs.Cells.{cell}
use Rattle.flow.specs.Search.{Closed, Inside, Link, Flow, bit, gate, count, Pushed, Valued, Leaf, Excluded}
use Rattle.flow.proofs.Bools.{bool, differ}
use Rattle.flow.proofs.Laws.{link-under, under-self}
use Rattle.flow.proofs.Sums.{sum, sum-ext, sum-le, sum-add, sum_one, gate-add, gate-zero, gate-one, hits, hits-sum, hits-count, sum-count, count-sum}
use Rattle.flow.specs.declared.Code.{Code}

-- the empty flow
pub valued-none : (graph : List ℕ) (code : List Code) (above : List ℕ) (v : ℕ) → length above ≡ 256 → ((i : ℕ) → i < 256 → cell above i ≡ i) → Valued graph code above v 0
valued-none graph code above v len self = record {
  flow = record {
    above-len = len;
    low = λ x lt. let e = self x lt in omega arith;
    rise = λ x lt. let e = self x lt in omega arith;
    link = λ x lt. rw (self x lt) (link-under graph code x x (under-self graph code x));
    still = λ x lt z. self x lt;
  };
  once = λ u lt n.
      let c : count u above ≡ sum (λ x. bit (eqb (cell above x) u)) 256 = subst (λ (n : ℕ). count u above ≡ sum (λ x. bit (eqb (cell above x) u)) n) len (count-sum u above) in
      let o = sum_one (λ x. bit (eqb (cell above x) u)) u 256 lt (λ x l ne. ap bit (ne_eqb (cell above x) u (λ e. ne (sym (self x l) ∙ e)))) in
      let w = ap bit (eq-eqb (cell above u) u (self u lt)) in
      let z = gate-zero (eqb v u) in
      omega arith;
}

-- one unit more
pub valued-more : {graph : List ℕ} {code : List Code} {s : List Bool} {above above' : List ℕ} {v k : ℕ} → Valued graph code above v k → Pushed graph code s above above' v → Valued graph code above' v (k + 1)
valued-more {v = v} {k = k} f p = record { flow = p.flow; once = λ u lt n. let a = p.more u lt n in let b = f.once u lt n in let c = step (eqb v u) in omega arith }
  where
    step : (b : Bool) → gate b (k + 1) ≡ gate b k + bit b
    step true = refl
    step false = refl

-- a flow that names each node u that some closed set holds 1 + w u times
module _ (graph : List ℕ) (code : List Code) (above : List ℕ) (w : ℕ → ℕ) (flow : Flow graph code above) (once : (u : ℕ) → u < 256 → Inside graph code u → count u above ≡ 1 + w u) (C : ℕ → Bool) (closed : Closed graph code C) where
  each : (p : ℕ) → p < 256 → gate (C p) (count p above) ≡ bit (C p) + gate (C p) (w p)
  each p lt = ⊎_elim
      (λ t. let o = once p lt (record { members = C; closed = closed; holds = t }) in let a = ap (λ (b : Bool). gate b (count p above)) t in let b = ap bit t in let c = ap (λ (b : Bool). gate b (w p)) t in omega arith)
      (λ n. let a = ap (λ (b : Bool). gate b (count p above)) n in let b = ap bit n in let c = ap (λ (b : Bool). gate b (w p)) n in omega arith)
      (bool (C p))

  -- the members, and what the flow sends out of them, are the nodes whose name lies in C
  balance : sum (λ x. bit (C (cell above x))) 256 ≡ sum (λ x. bit (C x)) 256 + sum (λ p. gate (C p) (w p)) 256
  balance =
      let len = flow.above-len in
      let e1 = hits-count C above 256 (λ x lt. flow.low x (omega arith)) in
      let e2 = sum-ext (λ p. gate (C p) (count p above)) (λ p. bit (C p) + gate (C p) (w p)) 256 each in
      let e3 = sum-add (λ p. bit (C p)) (λ p. gate (C p) (w p)) 256 in
      let e4 : hits C above ≡ sum (λ x. bit (C (cell above x))) 256 = subst (λ (n : ℕ). hits C above ≡ sum (λ x. bit (C (cell above x))) n) len (hits-sum C above) in
      omega arith

  -- what counts every leaf counts as much as the flow sends out
  lower : (g : ℕ → ℕ) → ((x : ℕ) → x < 256 → Leaf graph C x → 1 ≤ g x) → sum (λ p. gate (C p) (w p)) 256 ≤ sum g 256
  unfolding Leaf Link
  lower g all =
      let b = balance in
      let e1 = sum-le (λ x. bit (C (cell above x))) (λ x. bit (C x) + g x) 256 (λ x lt. point x lt (bool (C x)) (bool (C (cell above x)))) in
      let e2 = sum-add (λ x. bit (C x)) g 256 in
      omega arith
    where
      leaf : (x : ℕ) → x < 256 → C x ≡ false → C (cell above x) ≡ true → Leaf graph C x
      leaf x lt n t = (n, ⊎_elim (λ e. absurd (differ (C x) e n)) (λ e. e) (flow.link x lt C closed t))

      point : (x : ℕ) → x < 256 → (C x ≡ true) ⊎ (C x ≡ false) → (C (cell above x) ≡ true) ⊎ (C (cell above x) ≡ false) → bit (C (cell above x)) ≤ bit (C x) + g x
      point x lt (inl t) (inl t') = let a = ap bit t in let b = ap bit t' in omega arith
      point x lt (inl t) (inr n') = let b = ap bit n' in omega arith
      point x lt (inr n) (inl t') = let l = all x lt (leaf x lt n t') in let b = ap bit t' in omega arith
      point x lt (inr n) (inr n') = let b = ap bit n' in omega arith

  -- if besides each member names a member, no unit comes into C from outside. Then the second count is exact: the nodes outside that name a
  -- member are as many as the units that start in C
  pub crossing : ((x : ℕ) → x < 256 → C x ≡ true → C (cell above x) ≡ true) → sum (λ x. bit (not (C x) && C (cell above x))) 256 ≡ sum (λ p. gate (C p) (w p)) 256
  crossing stay =
      let b = balance in
      let e1 = sum-ext (λ x. bit (C (cell above x))) (λ x. bit (C x) + bit (not (C x) && C (cell above x))) 256 (λ x lt. point (C x) (C (cell above x)) (stay x lt)) in
      let e2 = sum-add (λ x. bit (C x)) (λ x. bit (not (C x) && C (cell above x))) 256 in
      omega arith
    where
      point : (a b : Bool) → (a ≡ true → b ≡ true) → bit b ≡ bit a + bit (not a && b)
      point true true h = refl
      point true false h = absurd (differ false (h refl) refl)
      point false true h = refl
      point false false h = refl

-- k units from v, which C holds
pub one-source : (C : ℕ → Bool) (v k : ℕ) → v < 256 → C v ≡ true → sum (λ p. gate (C p) (gate (eqb v p) k)) 256 ≡ k
one-source C v k root t =
    sum_one (λ p. gate (C p) (gate (eqb v p) k)) v 256 root (λ x lt ne. ap (λ (b : Bool). gate (C x) (gate b k)) (ne_eqb v x (λ q. ne (sym q))) ∙ gate-zero (C x))
    ∙ ap (λ (b : Bool). gate b (gate (eqb v v) k)) t ∙ ap (λ (b : Bool). gate b k) (eq-eqb v v refl)

-- k units from v and one from x
two-sources : (C : ℕ → Bool) (v k x : ℕ) → v < 256 → x < 256 → C v ≡ true → C x ≡ true → sum (λ p. gate (C p) (gate (eqb v p) k + bit (eqb x p))) 256 ≡ k + 1
two-sources C v k x root low t u =
    let e1 = sum-ext (λ p. gate (C p) (gate (eqb v p) k + bit (eqb x p))) (λ p. gate (C p) (gate (eqb v p) k) + gate (C p) (gate (eqb x p) 1)) 256
    (λ p lt. gate-add (C p) (gate (eqb v p) k) (bit (eqb x p)) ∙ ap (λ (n : ℕ). gate (C p) (gate (eqb v p) k) + gate (C p) n) (sym (gate-one (eqb x p)))) in
    let e2 = sum-add (λ p. gate (C p) (gate (eqb v p) k)) (λ p. gate (C p) (gate (eqb x p) 1)) 256 in
    let e3 = one-source C v k root t in
    let e4 = one-source C x 1 low u in
    omega arith

-- weak duality: no closed set for v has fewer leaves than a flow from v has units
pub units-least : {graph : List ℕ} {code : List Code} {above : List ℕ} {v f : ℕ} → v < 256 → Valued graph code above v f → (C : ℕ → Bool) → Closed graph code C → C v ≡ true
    → (g : ℕ → ℕ) → ((x : ℕ) → x < 256 → Leaf graph C x → 1 ≤ g x) → f ≤ sum g 256
units-least {graph} {code} {above} {v} {f} low value C closed root g all =
    let l = lower graph code above (λ u. gate (eqb v u) f) value.flow value.once C closed g all in
    let o = one-source C v f low root in
    omega arith

-- The same with one more source. A search from x that succeeds makes a flow of f units from v and one from x. A closed set that holds both then has
-- f + 1 names more than members, and so at least f + 1 leaves: x is in none that has only f.
pub exclude : {graph : List ℕ} {code : List Code} {s : List Bool} {above above' : List ℕ} {v f x : ℕ} → v < 256 → x < 256 → Valued graph code above v f → Pushed graph code s above above' x → Excluded graph code v f x
unfolding Excluded
exclude {graph} {code} {s} {above} {above'} {v} {f} {x} root low value p C closed t u L all =
    let l = lower graph code above' (λ u. gate (eqb v u) f + bit (eqb x u)) p.flow (λ u lt i. let a = p.more u lt i in let b = value.once u lt i in omega arith) C closed (λ y. count y L) all in
    let o = two-sources C v f x root low t u in
    let c = sum-count L 256 in
    omega arith
