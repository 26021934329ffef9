-- The greatest step that operands and differences ask for, and the lists of differences by target.
use Prim.Native.Nat.{ℕ, zero, suc, ◌+◌, ◌≤◌, ◌<◌, max}
use mathlib.Core.Path.{◌≡◌, refl, sym, ap, ◌∙◌}
use mathlib.Core.Bool.{Bool, true, false, cond}
use mathlib.Core.List.{List}
use mathlib.Core.Logic.{◌⊎◌, inl, inr}
use native.Mathlib.Omega.{arith}
use native.Mathlib.Numerals.{add-one}
use native.Mathlib.Nat.{not-suc-le-zero}
use lib.Dec.{eqb, ltb}
use lib.ListN.{length, get_or, set, replicate, get_or-replicate}
use lib.Seq.{get_or-set_same, get_or-set_other}
use borrow.Author.Tests.{eqb-true, eqb-false, ltb-true, ltb-false}
use Rattle.maps.proofs.Over.{last_or}
use Rattle.rows.specs.Table.{operand_in, latency_in, to_in}
use Rattle.bound.specs.Lookup.{last_into, Linked, Heeded, Heeding}
use Rattle.bound.specs.Bound.{Greatest, ready_step, Into}

module _ (s : ℕ) (x : ℕ → ℕ) where
  pub greatest-none : (P : ℕ → Type 0) → ((i : ℕ) → P i → ⊥) → Greatest s P x s
  greatest-none P none = record { own = omega arith; all = λ i p. absurd (none i p); least = λ b h all. h }

  pub greatest-more : (P Q : ℕ → Type 0) (r k q : ℕ) → Greatest s P x r → ((i : ℕ) → Q i → P i ⊎ (i ≡ k)) → ((i : ℕ) → P i → Q i) → Q k → q ≡ max r (x k) → Greatest s Q x q
  greatest-more P Q r k q g split wide here e =
      record {
        own = omega (arith, g.own);
        all = λ i p. at i (split i p);
        least = λ b h all. omega (arith, g.least b h (λ i p. all i (wide i p)), all k here);
      }
    where
      at : (i : ℕ) → P i ⊎ (i ≡ k) → x i ≤ q
      at i (inl p) = omega (arith, g.all i p)
      at i (inr w) = omega (arith, ap x w)

  pub greatest-same : (P Q : ℕ → Type 0) (r : ℕ) → Greatest s P x r → ((i : ℕ) → Q i → P i) → ((i : ℕ) → P i → Q i) → Greatest s Q x r
  greatest-same P Q r g back wide =
      record { own = g.own; all = λ i p. g.all i (back i p); least = λ b h all. g.least b h (λ i p. all i (wide i p)) }

  -- the first k numbers, and one more
  pub greatest-next : (r k q : ℕ) → Greatest s (λ i. i < k) x r → q ≡ max r (x k) → Greatest s (λ i. i < k + 1) x q
  greatest-next r k q g e = greatest-more (λ i. i < k) (λ i. i < k + 1) r k q g (λ i h. last_or i k (omega arith)) (λ i h. omega arith) (omega arith) e

pub operand-ready : (graph steps : List ℕ) (v j u x : ℕ) → u ≡ operand_in graph v j → x ≡ get_or steps u 0 + latency_in graph u → x ≡ ready_step graph steps v j
operand-ready graph steps v j u x p q = q ∙ ap (λ (w : ℕ). get_or steps w 0 + latency_in graph w) p

-- lists of differences
module _ (d : List ℕ) where
  pub last-le : (k v : ℕ) → last_into d k v ≤ k
  unfolding last_into
  last-le zero v = omega arith
  last-le (suc k) v = go (eqb (to_in d k) v) (last-le k v)
    where
      go : (t : Bool) → last_into d k v ≤ k → cond t (suc k) (last_into d k v) ≤ suc k
      go true h = omega arith
      go false h = omega arith

  pub last-hit : (k v j : ℕ) → last_into d k v ≡ j + 1 → to_in d j ≡ v
  unfolding last_into
  last-hit zero v j e = absurd (omega arith)
  last-hit (suc k) v j e = go (eqb (to_in d k) v) refl (last-hit k v j) e
    where
      go : (t : Bool) → eqb (to_in d k) v ≡ t → (last_into d k v ≡ j + 1 → to_in d j ≡ v) → cond t (suc k) (last_into d k v) ≡ j + 1 → to_in d j ≡ v
      go true q rec w = ap (to_in d) (omega arith) ∙ eqb-true _ _ q
      go false q rec w = rec w

  pub last_none : (k v i : ℕ) → last_into d k v ≤ i → i < k → to_in d i ≡ v → ⊥
  unfolding last_into
  last_none zero v i l h e = not-suc-le-zero h
  last_none (suc k) v i l h e = go (eqb (to_in d k) v) refl (last_none k v i) l
    where
      go : (t : Bool) → eqb (to_in d k) v ≡ t → (last_into d k v ≤ i → i < k → to_in d i ≡ v → ⊥) → cond t (suc k) (last_into d k v) ≤ i → ⊥
      go true q rec w = omega arith
      go false q rec w = at (last_or i k h)
        where
          at : (i < k) ⊎ (i ≡ k) → ⊥
          at (inl m) = rec w m e
          at (inr m) = eqb-false (to_in d k) v q (sym (ap (to_in d) m) ∙ e)

  pub linked-none : Linked d 0 (replicate 256 0) (replicate 1024 0)
  unfolding last_into
  linked-none = record { heads = λ v l. get_or-replicate 256 v 0 0 l; nexts = λ i l. absurd (not-suc-le-zero l) }

  pub linked-more : (i : ℕ) (first next : List ℕ) → Linked d i first next → to_in d i < 256 → to_in d i < length first → i < length next
      → Linked d (i + 1) (set first (to_in d i) (i + 1)) (set next i (get_or first (to_in d i) 0))
  unfolding last_into
  linked-more i first next k to f n =
      record {
        heads = λ v l. head v l (eqb (to_in d i) v) refl;
        nexts = λ j l. link j (last_or j i (omega arith));
      }
    where
      head : (v : ℕ) → v < 256 → (t : Bool) → eqb (to_in d i) v ≡ t → get_or (set first (to_in d i) (i + 1)) v 0 ≡ last_into d (i + 1) v
      head v l true e =
          let q : to_in d i ≡ v = eqb-true _ _ e in
          ap (λ (w : ℕ). get_or (set first (to_in d i) (i + 1)) w 0) (sym q) ∙ get_or-set_same first (to_in d i) (i + 1) 0 f
          ∙ add-one i ∙ sym (rw (add-one i, e) refl)
      head v l false e =
          get_or-set_other first (to_in d i) v (i + 1) 0 (λ q. eqb-false (to_in d i) v e (sym q)) ∙ k.heads v l ∙ sym (rw (add-one i, e) refl)

      link : (j : ℕ) → (j < i) ⊎ (j ≡ i) → get_or (set next i (get_or first (to_in d i) 0)) j 0 ≡ last_into d j (to_in d j)
      link j (inl m) = get_or-set_other next i j (get_or first (to_in d i) 0) 0 (λ q. omega arith) ∙ k.nexts j m
      link j (inr q) =
          ap (λ (w : ℕ). get_or (set next i (get_or first (to_in d i) 0)) w 0) q ∙ get_or-set_same next i (get_or first (to_in d i) 0) 0 n
          ∙ k.heads (to_in d i) to ∙ ap (λ (w : ℕ). last_into d w (to_in d w)) (sym q)

  -- whole lists are lists of some nodes, and each difference is in one
  pub linked-heeding : {m : ℕ} {first next : List ℕ} → Linked d m first next → Heeding d m first next
  linked-heeding k = record { heads = λ v l h. k.heads v l; nexts = k.nexts }

  pub linked-heeded : {m : ℕ} {first next : List ℕ} → Linked d m first next → (i : ℕ) → i < m → to_in d i < 256 → Heeded first (to_in d i)
  linked-heeded {m} {first} k i l t = go (ltb 0 (get_or first (to_in d i) 0)) refl
    where
      go : (b : Bool) → ltb 0 (get_or first (to_in d i) 0) ≡ b → Heeded first (to_in d i)
      go true e = ltb-true 0 (get_or first (to_in d i) 0) e
      go false e =
          absurd (last_none m (to_in d i) i (omega (arith, ltb-false 0 (get_or first (to_in d i) 0) e, k.heads (to_in d i) t)) l refl)

  -- where the list of v begins
  module _ {m : ℕ} {first next : List ℕ} (k : Heeding d m first next) (v : ℕ) (l : v < 256) where
    pub head-le : get_or first v 0 ≤ m
    head-le = go (ltb 0 (get_or first v 0)) refl
      where
        go : (b : Bool) → ltb 0 (get_or first v 0) ≡ b → get_or first v 0 ≤ m
        go true e = omega (arith, k.heads v l (ltb-true 0 (get_or first v 0) e), last-le m v)
        go false e = omega (arith, ltb-false 0 (get_or first v 0) e)

    pub head-hit : (j : ℕ) → get_or first v 0 ≡ j + 1 → to_in d j ≡ v
    head-hit j e = last-hit m v j (sym (k.heads v l (omega arith)) ∙ e)

    pub head-none : (i : ℕ) → get_or first v 0 ≤ i → Into d first m v i → ⊥
    head-none i h w = last_none m v i (omega (arith, k.heads v l w.2)) w.0 w.1
