-- The list of the leaves below a node, turn by turn.
use Prim.Native.Nat.{ℕ, suc, ◌+◌, ◌≤◌, ◌<◌}
use mathlib.Core.Path.{◌≡◌, refl, sym, ap, ◌∙◌}
use mathlib.Core.Bool.{true, false, cond}
use mathlib.Core.List.{List, [], ◌∷◌, ◌++◌, append-nil, append_assoc}
use native.Mathlib.Numerals.{add-one}
use native.Mathlib.Decide.{le_ind}
use native.Mathlib.Omega.{arith}
use lib.ListN.{length, get_or, set, take, length-append, length-take}
use lib.Seq.{take-suc-set}
use Rattle.maps.specs.Lists.{below}
use Rattle.maps.proofs.Member.{keep_append}
use Rattle.cone.specs.declared.Part.{Part}
use Rattle.cone.specs.declared.Part.TheVariants.{Unmet, Member, Leaf}
use Rattle.cone.specs.Part.{is_leaf, leaves_below}

pub no_leaf : (p : Part) → (p ≡ Leaf → ⊥) → is_leaf p ≡ false
no_leaf Unmet f = refl
no_leaf Member f = refl
no_leaf Leaf f = absurd (f refl)

module _ (p : List Part) where
  leaves-turn : (i : ℕ) → leaves_below p (suc i) ≡ leaves_below p i ++ cond (is_leaf (get_or p i Unmet)) (i ∷ []) []
  unfolding leaves_below
  leaves-turn i = keep_append (λ u. is_leaf (get_or p u Unmet)) (below i) (i ∷ [])

  leaves-more : (i : ℕ) → is_leaf (get_or p i Unmet) ≡ true → leaves_below p (i + 1) ≡ leaves_below p i ++ (i ∷ [])
  leaves-more i e = rw (add-one, leaves-turn i, e)

  -- a node that is no leaf adds nothing
  leaves-same : (i : ℕ) → (is_leaf (get_or p i Unmet) ≡ false) → leaves_below p (suc i) ≡ leaves_below p i
  leaves-same i f = rw (leaves-turn i, f) (append-nil (leaves_below p i))

  -- the list so far: its first n are the leaves below i
  pub listed-none : [] ≡ leaves_below p 0
  unfolding leaves_below
  listed-none = refl

  pub listed_same : (list : List ℕ) (n i : ℕ) → (is_leaf (get_or p i Unmet) ≡ false) → take n list ≡ leaves_below p i → take n list ≡ leaves_below p (i + 1)
  listed_same list n i f e = rw add-one (e ∙ sym (leaves-same i f))

  pub listed_more : (list : List ℕ) (n i : ℕ) → n < length list → is_leaf (get_or p i Unmet) ≡ true → take n list ≡ leaves_below p i → take (n + 1) (set list n i) ≡ leaves_below p (i + 1)
  listed_more list n i l q e = rw (leaves-more i q, add-one, take-suc-set list n i l, e)

  leaves-begin : (i v : ℕ) → i ≤ v → (s : List ℕ) × (leaves_below p v ≡ leaves_below p i ++ s)
  leaves-begin i =
      le_ind (λ m. (s : List ℕ) × (leaves_below p m ≡ leaves_below p i ++ s)) ([], sym (append-nil (leaves_below p i)))
      (λ m l h.
      let more = cond (is_leaf (get_or p m Unmet)) (m ∷ []) [] in
      (h.0 ++ more, leaves-turn m ∙ ap (λ (xs : List ℕ). xs ++ more) h.1 ∙ append_assoc (leaves_below p i) h.0 more))

  -- no more leaves are below v than below i: they are the same
  leaves-same-end : (i v : ℕ) → i ≤ v → length (leaves_below p v) ≤ length (leaves_below p i) → leaves_below p i ≡ leaves_below p v
  leaves-same-end i v l e =
      let b = leaves-begin i v l in
      go b.0 b.1 (omega (arith, ap length b.1, length-append (leaves_below p i) b.0))
    where
      go : (s : List ℕ) → leaves_below p v ≡ leaves_below p i ++ s → length s ≡ 0 → leaves_below p i ≡ leaves_below p v
      go [] q z = sym (append-nil (leaves_below p i)) ∙ sym q
      go (x ∷ s) q z = absurd (omega arith)

  -- as many are listed as there are below v
  pub listed-all : (list : List ℕ) (v count n i : ℕ) → i ≤ v → n ≤ length list → take n list ≡ leaves_below p i → count ≤ n → length (leaves_below p v) ≡ count
      → take count list ≡ leaves_below p v
  listed-all list v count n i l w e full count-is =
      let n-is : n ≡ length (leaves_below p i) = omega (arith, length-take n list, ap length e) in
      let all = leaves-same-end i v l (omega arith) in
      let m : count ≡ n = omega (arith, ap length all) in
      rw m (e ∙ all)
