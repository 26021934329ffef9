-- The exchange: the marks that no search extends give the chosen cut, the one nearest the inputs.
use mathlib.Core.Path.{◌≡◌, ap}
use mathlib.Core.Logic.{◌⊎◌, inl, inr, ⊎_elim}
use mathlib.Core.List.{List}
use mathlib.Core.Bool.{Bool, true, false, ◌&&◌, ◌||◌}
use Prim.Native.Nat.{ℕ, ◌≤◌, ◌<◌}
use native.Mathlib.Decide.{dec_lt}
use native.Mathlib.Omega.{arith}
use lib.ListN.{length}
use lib.Dec.{ltb}
use borrow.Author.Tests.{lt-ltb, ltb-true}
use Rattle.maps.specs.Lists.{before}
use Rattle.maps.proofs.Over.{and-true}
use Rattle.maps.proofs.Member.{or-true, or_right}
use Rattle.rows.specs.Table.{count_in, operand_in, Falling}
use Rattle.flow.specs.Search.{Leafy, Closed, Touch, bit, count, Settled, Leaf, Excluded, Final, member, leaf_mark, rising}
use Rattle.flow.proofs.Bools.{bool, differ, and_yes, or_left}
use Rattle.flow.proofs.Sums.{sum, sum-count, mix, mix-low, mix-high, sum-mix, rising-bit}
use Rattle.cut.proofs.Ascending.{first-rising}
use Rattle.flow.proofs.Duality.{units-least}
use Rattle.flow.proofs.Failed.{settled-closed, settled_root, marks-size, marks-have}
use Rattle.flow.specs.declared.Code.{Code}

-- Let S be the final marks, with f leaves, and M any closed set for v with as few. No leaf of S is in M, as no closed set with f leaves holds v and
-- that leaf. Fix an id b, and take of S the nodes that are in M or below b. This set is closed and holds v (`joined-closed`). A leaf of it below b
-- is not in S, so it is a leaf of S. A leaf x of it from b on is read by a node above b, hence by a member of M, and is not in M: were it in S
-- too, it would be in the set, and otherwise it would be a leaf of S in M. So it is a leaf of M (`joined-leaf`). Weak duality gives f leaves at
-- least, so S's leaves below b with M's from b on are no fewer than all of M's: below b, S has at least as many leaves as M (`exchange`).
-- That holds for each b, and so S's list has the smaller id at the first difference (`first-rising`).
module _ (graph : List ℕ) (code : List Code) (falling : Falling graph) (S M : ℕ → Bool) (closed : Closed graph code S) (closed' : Closed graph code M)
    (out : (x : ℕ) → x < 256 → Leaf graph S x → M x ≡ true → ⊥) (b : ℕ) where
  abbrev joined : ℕ → Bool
  joined x = S x && (M x || ltb x b)

  joined-closed : Closed graph code joined
  unfolding Closed
  joined-closed m t =
      let p = and-true (S m) (M m || ltb m b) t in
      let l = closed m p.0 in
      (l.0, l.1, λ j lt. go j lt l.0 (l.2 j lt) (bool (S (operand_in graph m j))) (bool (M (operand_in graph m j))) (or-true (M m) (ltb m b) p.1))
    where
      go : (j : ℕ) → j < count_in graph m → m < 256 → (S (operand_in graph m j) ≡ true) ⊎ Leafy code (operand_in graph m j) → (S (operand_in graph m j) ≡ true) ⊎ (S (operand_in graph m j) ≡ false) → (M (operand_in graph m j) ≡ true) ⊎ (M (operand_in graph m j) ≡ false) → (M m ≡ true) ⊎ (ltb m b ≡ true)
          → (joined (operand_in graph m j) ≡ true) ⊎ Leafy code (operand_in graph m j)
      go j lt low (inr leafy) s' m' h = inr leafy
      go j lt low (inl s) s' (inl i) h = inl (and_yes (S (operand_in graph m j)) (M (operand_in graph m j) || ltb (operand_in graph m j) b) s (or_left (M (operand_in graph m j)) (ltb (operand_in graph m j) b) i))
      go j lt low (inl s) s' (inr n) (inl i) = ⊎_elim (λ e. absurd (differ (M (operand_in graph m j)) e n)) inr ((closed' m i).2 j lt)
      go j lt low (inl s) s' (inr n) (inr below) =
          let f = falling.falls m j low lt in
          let k = ltb-true m b below in
          inl (and_yes (S (operand_in graph m j)) (M (operand_in graph m j) || ltb (operand_in graph m j) b) s (or_right (M (operand_in graph m j)) (ltb (operand_in graph m j) b) (lt-ltb (operand_in graph m j) b (omega arith))))

  joined-root : (v : ℕ) → S v ≡ true → M v ≡ true → joined v ≡ true
  joined-root v s m = and_yes (S v) (M v || ltb v b) s (or_left (M v) (ltb v b) m)

  joined-leaf : (x : ℕ) → x < 256 → Leaf graph joined x → ((x < b) × Leaf graph S x) ⊎ ((b ≤ x) × Leaf graph M x)
  unfolding Leaf Touch Closed
  joined-leaf x lt h =
      let m = h.1.0 in
      let p = and-true (S m) (M m || ltb m b) h.1.2 in
      go p.0 (or-true (M m) (ltb m b) p.1) (bool (S x)) (bool (M x)) (dec_lt x b)
    where
      inside : S x ≡ true → (M x || ltb x b) ≡ true → ⊥
      inside s e = differ (joined x) (and_yes (S x) (M x || ltb x b) s e) h.0

      go : S h.1.0 ≡ true → (M h.1.0 ≡ true) ⊎ (ltb h.1.0 b ≡ true) → (S x ≡ true) ⊎ (S x ≡ false) → (M x ≡ true) ⊎ (M x ≡ false) → Dec (x < b)
          → ((x < b) × Leaf graph S x) ⊎ ((b ≤ x) × Leaf graph M x)
      go s i (inl sx) q (yes l) = absurd (inside sx (or_right (M x) (ltb x b) (lt-ltb x b l)))
      go s i (inr nx) q (yes l) = inl (l, (nx, (h.1.0, h.1.1, s, h.1.3, h.1.4)))
      go s (inr below) q q' (no n) =
          let f = falling.falls h.1.0 h.1.1 (closed h.1.0 s).0 h.1.3 in
          let k = ltb-true h.1.0 b below in
          let e = h.1.4 in
          absurd (n (omega arith))
      go s (inl i) (inl sx) (inl mx) (no n) = absurd (inside sx (or_left (M x) (ltb x b) mx))
      go s (inl i) (inr nx) (inl mx) (no n) = absurd (out x lt (nx, (h.1.0, h.1.1, s, h.1.3, h.1.4)) mx)
      go s (inl i) q (inr nm) (no n) = inr (omega arith, (nm, (h.1.0, h.1.1, i, h.1.3, h.1.4)))

-- of the leaves of the final marks at least as many lie below b as of any closed set's leaves that are as few
exchange : {graph : List ℕ} {code : List Code} {s : List Bool} {above : List ℕ} {v f : ℕ} → Falling graph → v < 256 → Settled graph code s above v f → ((x : ℕ) → x < 256 → Leaf graph (member s) x → Excluded graph code v f x)
    → (L D : List ℕ) (M : ℕ → Bool) → Closed graph code M → M v ≡ true → length D ≤ f
    → ((x : ℕ) → x < 256 → Leaf graph (member s) x → 1 ≤ count x L) → ((x : ℕ) → x < 256 → Leaf graph M x → 1 ≤ count x D)
    → (b : ℕ) → b ≤ 256 → sum (λ x. count x D) b ≤ sum (λ x. count x L) b
unfolding Excluded
exchange {graph} {code} {s} {above} {v} {f} falling low t excluded L D M closed root few all all' b le =
    let z = units-least low t.value (joined graph code falling (member s) M S-closed closed out b) (joined-closed graph code falling (member s) M S-closed closed out b)
    (joined-root graph code falling (member s) M S-closed closed out b v (settled_root falling low t) root)
    (mix b (λ x. count x L) (λ x. count x D))
    (λ x lt h. ⊎_elim
    (λ p. let a = all x lt p.1 in let m = mix-low b (λ x. count x L) (λ x. count x D) x p.0 in omega arith)
    (λ p. let a = all' x lt p.1 in let m = mix-high b (λ x. count x L) (λ x. count x D) x p.0 in omega arith)
    (joined-leaf graph code falling (member s) M S-closed closed out b x lt h)) in
    let m = sum-mix b 256 (λ x. count x L) (λ x. count x D) le in
    let c = sum-count D 256 in
    omega arith
  where
    S-closed : Closed graph code (member s)
    S-closed = settled-closed falling low t

    out : (x : ℕ) → x < 256 → Leaf graph (member s) x → M x ≡ true → ⊥
    out x lt leaf e = let r = excluded x lt leaf M closed root e D all' in omega arith

-- the leaves of final marks come first among the leaves of all closed sets for v that have as few
pub final-first : {graph : List ℕ} {code : List Code} {s : List Bool} {above : List ℕ} {v f : ℕ} → Falling graph → v < 256 → Final graph code s above v f
    → (C : ℕ → Bool) (g : ℕ → Bool) → Closed graph code C → C v ≡ true → ((x : ℕ) → x < 256 → Leaf graph C x → g x ≡ true) → length (rising g 256) ≡ f
    → (rising (leaf_mark s) 256 ≡ rising g 256) ⊎ (before (rising (leaf_mark s) 256) (rising g 256) ≡ true)
final-first {graph} {code} {s} {above} {v} {f} falling low fin C g closed root all size =
    first-rising (leaf_mark s) g 256 (let z = marks-size falling low fin.settled in omega arith)
    (exchange falling low fin.settled fin.excluded (rising (leaf_mark s) 256) (rising g 256) C closed root (omega arith)
    (marks-have falling low fin.settled) (λ x lt h. let u = rising-bit g 256 x lt in let e = ap bit (all x lt h) in omega arith))
