-- A merge of lists of positions: the state after k words, of which i come from the first list.
use Prim.Native.Nat.{ℕ, ◌+◌, ◌-◌, ◌≤◌, ◌<◌}
use mathlib.Core.Path.{◌≡◌, refl, sym, subst, ap, ◌∙◌}
use mathlib.Core.Bool.{Bool, true, false}
use mathlib.Core.List.{List, [], ◌∷◌, ◌++◌, map-append}
use native.Mathlib.Omega.{arith}
use lib.Dec.{ltb}
use lib.ListN.{length, get_or, take, drop, set, length-set, take-append-drop, drop_of_length-le}
use borrow.Author.Tests.{ltb-true, ltb-false}
use Rattle.blif.specs.Words.{Word}
use Rattle.blif.specs.Scan.{name_at}
use Rattle.blif.proofs.Positions.{at-cons}
use Rattle.std.specs.declared.cmp.Ordering.{Ordering}
use Rattle.std.specs.declared.cmp.Ordering.TheVariants as Is
use Rattle.std.specs.Prelude.{Result, Ok}
use Rattle.distinct.specs.declared.Repeated.{Repeated}
use Rattle.distinct.specs.Sorting.{order, Precedes, Ascending, Twice, Sorted, names, Heads}
use Rattle.distinct.proofs.Ordering.{greater-less}
use Rattle.distinct.proofs.Merging.{Before, Merging, merging_start, merging-swap, merging-next, merging-twice, merging-end}
use Rattle.distinct.proofs.Filling.{take-write, rest_all, parts-length}

names-drop : (s xs : List ℕ) (i : ℕ) → i < length xs → names s (drop i xs) ≡ name_at s (get_or xs i 0) ∷ names s (drop (i + 1) xs)
names-drop s xs i l = ap (names s) (at-cons xs i l)

before-rest : (s ys : List ℕ) (w : Word) (j : ℕ) → (j < length ys → Precedes w (name_at s (get_or ys j 0))) → Before w (names s (drop j ys))
before-rest s ys w j h = go (ltb j (length ys)) refl
  where
    go : (b : Bool) → ltb j (length ys) ≡ b → Before w (names s (drop j ys))
    go true e = subst (Before w) (sym (names-drop s ys j (ltb-true j (length ys) e))) (h (ltb-true j (length ys) e))
    go false e = subst (λ l. Before w (names s l)) (sym (drop_of_length-le ys (ltb-false j (length ys) e))) tt

module _ (s xs ys : List ℕ) where
  pub heads-both : (i j : ℕ) (r : Ordering) → i < length xs → j < length ys → r ≡ order (name_at s (get_or xs i 0)) (name_at s (get_or ys j 0)) → Heads s xs ys i j r
  heads-both i j Is.Less l m e = (l, λ q. sym e)
  heads-both i j Is.Equal l m e = (l, m, sym e)
  heads-both i j Is.Greater l m e = (m, λ q. sym e)

  -- where the lesser head stands
  pub head-left : (i j : ℕ) (r : Ordering) → Heads s xs ys i j r → r ≡ Is.Less → i < length xs
  head-left i j r h e = (subst (Heads s xs ys i j) e h).0

  pub head-right : (i j : ℕ) (r : Ordering) → Heads s xs ys i j r → r ≡ Is.Greater → j < length ys
  head-right i j r h e = (subst (Heads s xs ys i j) e h).0

  -- the words of both lists, and what is left of them after k words
  abbrev Rests : (out : List ℕ) → (i j k : ℕ) → Type 0
  Rests out i j k = Merging (names s xs ++ names s ys) (names s (drop i xs)) (names s (drop j ys)) (names s (take k out))

  pub record State (out : List ℕ) (i k : ℕ) : Type 0 where
    pub first : i ≤ length xs
    pub both : i ≤ k
    pub second : k ≤ i + length ys
    pub rests : Rests out i (k - i) k

  pub state-start : (out : List ℕ) → Ascending (names s xs) → Ascending (names s ys) → State out 0 0
  state-start out h k = record { first = omega arith; both = omega arith; second = omega arith; rests = merging_start (names s xs) (names s ys) h k }

  written : (out : List ℕ) (k p : ℕ) → k < length out → names s (take k out) ++ (name_at s p ∷ []) ≡ names s (take (k + 1) (set out k p))
  written out k p l = sym (ap (names s) (take-write out k p l) ∙ map-append (name_at s) (take k out) (p ∷ []))

  next-left : (out : List ℕ) (i j k : ℕ) → k < length out → Heads s xs ys i j Is.Less → Rests out i j k → Rests (set out k (get_or xs i 0)) (i + 1) j (k + 1)
  next-left out i j k l h m =
      let p = get_or xs i 0 in
      subst (Merging (names s xs ++ names s ys) (names s (drop (i + 1) xs)) (names s (drop j ys))) (written out k p l)
      (merging-next (names s xs ++ names s ys) (name_at s p) (names s (drop (i + 1) xs)) (names s (drop j ys)) (names s (take k out))
      (subst (λ ws. Merging (names s xs ++ names s ys) ws (names s (drop j ys)) (names s (take k out))) (names-drop s xs i h.0) m)
      (before-rest s ys (name_at s p) j h.1))

  next-right : (out : List ℕ) (i j k : ℕ) → k < length out → Heads s xs ys i j Is.Greater → Rests out i j k → Rests (set out k (get_or ys j 0)) i (j + 1) (k + 1)
  next-right out i j k l h m =
      let p = get_or ys j 0 in
      subst (Merging (names s xs ++ names s ys) (names s (drop i xs)) (names s (drop (j + 1) ys))) (written out k p l)
      (merging-swap
      (merging-next (names s xs ++ names s ys) (name_at s p) (names s (drop (j + 1) ys)) (names s (drop i xs)) (names s (take k out))
      (merging-swap (subst (λ ws. Merging (names s xs ++ names s ys) (names s (drop i xs)) ws (names s (take k out))) (names-drop s ys j h.0) m))
      (before-rest s xs (name_at s p) i (λ q. greater-less (name_at s (get_or xs i 0)) (name_at s p) (h.1 q)))))

  module _ (out : List ℕ) (i k : ℕ) (m : State out i k) where
    step_left : k < length out → Heads s xs ys i (k - i) Is.Less → State (set out k (get_or xs i 0)) (i + 1) (k + 1)
    step_left l h =
        let e : k - i ≡ k + 1 - (i + 1) = omega (arith, m.both) in
        record {
          first = omega (arith, h.0);
          both = omega (arith, m.both);
          second = omega (arith, m.second);
          rests = subst (λ j. Rests (set out k (get_or xs i 0)) (i + 1) j (k + 1)) e (next-left out i (k - i) k l h m.rests);
        }

    step_right : k < length out → Heads s xs ys i (k - i) Is.Greater → State (set out k (get_or ys (k - i) 0)) i (k + 1)
    step_right l h =
        let e : k - i + 1 ≡ k + 1 - i = omega (arith, m.both) in
        record {
          first = m.first;
          both = omega (arith, m.both);
          second = omega (arith, m.both, h.0);
          rests = subst (λ j. Rests (set out k (get_or ys (k - i) 0)) i j (k + 1)) e (next-right out i (k - i) k l h m.rests);
        }

    -- one word more, from the first list or from the second
    module _ (l : k < length out) (r : Ordering) (h : Heads s xs ys i (k - i) r) (out' : List ℕ) (i' : ℕ) where
      pub state-left : r ≡ Is.Less → out' ≡ set out k (get_or xs i 0) → i' ≡ i + 1 → State out' i' (k + 1) × (length out' ≡ length out)
      state-left e f g = rw (f, g) (step_left l (subst (Heads s xs ys i (k - i)) e h), length-set out k (get_or xs i 0))

      pub state-right : r ≡ Is.Greater → out' ≡ set out k (get_or ys (k - i) 0) → i' ≡ i → State out' i' (k + 1) × (length out' ≡ length out)
      state-right e f g = rw (f, g) (step_right l (subst (Heads s xs ys i (k - i)) e h), length-set out k (get_or ys (k - i) 0))

    pub state-twice : (r : Ordering) → Heads s xs ys i (k - i) r → r ≡ Is.Equal → Twice (names s xs ++ names s ys)
    state-twice r g e =
        let j = k - i in
        let h = subst (Heads s xs ys i (k - i)) e g in
        merging-twice (names s xs ++ names s ys) (name_at s (get_or xs i 0)) (name_at s (get_or ys j 0)) (names s (drop (i + 1) xs)) (names s (drop (j + 1) ys)) (names s (take k out))
        (subst (λ ws. Merging (names s xs ++ names s ys) (name_at s (get_or xs i 0) ∷ names s (drop (i + 1) xs)) ws (names s (take k out))) (names-drop s ys j h.1)
        (subst (λ ws. Merging (names s xs ++ names s ys) ws (names s (drop j ys)) (names s (take k out))) (names-drop s xs i h.0) m.rests))
        h.2

    pub state-end : length xs + length ys ≤ k → Sorted (names s xs ++ names s ys) (names s (take (length xs + length ys) out)) (Ok tt)
    state-end l =
        let e : k ≡ length xs + length ys = omega (arith, m.first, m.second) in
        subst (λ n. Sorted (names s xs ++ names s ys) (names s (take n out)) (Ok tt)) e
        (merging-end (names s xs ++ names s ys) (names s (take k out))
        (subst (λ r. Merging (names s xs ++ names s ys) [] (names s r) (names s (take k out))) (drop_of_length-le ys {i = k - i} (omega (arith, m.first)))
        (subst (λ r. Merging (names s xs ++ names s ys) (names s r) (names s (drop (k - i) ys)) (names s (take k out))) (drop_of_length-le xs {i = i} (omega (arith, m.second))) m.rests)))

-- the two parts of a list, merged
pub sorted-parts : (s l out : List ℕ) (h : ℕ) (r : Result (Unit {0}) Repeated) → h ≤ length l
    → Sorted (names s (take h l) ++ names s (take (length l - h) (drop h l))) (names s (take (length (take h l) + length (take (length l - h) (drop h l))) out)) r
    → Sorted (names s l) (names s (take (length l) out)) r
sorted-parts s l out h r b m =
    subst (λ ws. Sorted ws (names s (take (length l) out)) r) whole
    (subst (λ n. Sorted (names s (take h l) ++ names s (take (length l - h) (drop h l))) (names s (take n out)) r) (parts-length l h b) m)
  where
    whole : names s (take h l) ++ names s (take (length l - h) (drop h l)) ≡ names s l
    whole = sym (map-append (name_at s) (take h l) (take (length l - h) (drop h l))) ∙ ap (λ t. names s (take h l ++ t)) (rest_all l h) ∙ ap (names s) (take-append-drop h l)
