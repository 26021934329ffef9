-- Two lists of words merged: what holds after each word.
use Prim.Native.Nat.{◌+◌}
use mathlib.Core.Path.{◌≡◌, sym, subst, ◌∙◌}
use mathlib.Core.List.{List, [], ◌∷◌, ◌++◌, append-nil}
use native.Mathlib.Omega.{arith}
use lib.Seq.{append_snoc}
use Rattle.maps.specs.Lists.{All}
use Rattle.maps.proofs.Member.{All-map, All-join, All-split}
use Rattle.blif.specs.Words.{Word}
use Rattle.std.specs.declared.cmp.Ordering.TheVariants as Is
use Rattle.std.specs.Prelude.{Result, Ok, Err}
use Rattle.distinct.specs.declared.Repeated.{Repeated}
use Rattle.distinct.specs.Sorting.{order, Precedes, Ascending, occurrences, Twice, Sorted}
use Rattle.distinct.proofs.Ordering.{equal-same, precedes-transitive}
use Rattle.distinct.proofs.Repeating.{occurrences-append, self-once}

-- x comes before the first of the words
abbrev pub Before : Word → List Word → Type 0
Before x [] = Unit {0}
Before x (y ∷ ys) = Precedes x y

before-all : (x : Word) (ys : List Word) → Before x ys → Ascending ys → All (Precedes x) ys
before-all x [] b h = tt
before-all x (y ∷ ys) b h = (b, All-map (λ z p. precedes-transitive x y z b p) ys h.0)

ascending-right : (xs ys : List Word) → Ascending (xs ++ ys) → Ascending ys
ascending-right [] ys h = h
ascending-right (x ∷ xs) ys h = ascending-right xs ys h.1

-- x between what precedes it and what it precedes
between : (out : List Word) (x : Word) (xs ys : List Word) → Ascending (out ++ x ∷ xs) → Ascending (out ++ ys) → All (Precedes x) ys → Ascending ((out ++ (x ∷ [])) ++ ys)
between [] x xs ys h k b = (b, k)
between (o ∷ out) x xs ys h k b = (
  All-join (Precedes o) (out ++ (x ∷ [])) ys
      (All-join (Precedes o) out (x ∷ []) (All-split (Precedes o) out ys k.0).0 ((All-split (Precedes o) out (x ∷ xs) h.0).1.0, tt))
      (All-split (Precedes o) out ys k.0).1,
  between out x xs ys h.1 k.1 b,
)

-- The words `out` are merged, xs and ys are left, and all of them together are those of `total`.
pub record Merging (total xs ys out : List Word) : Type 0 where
  pub left : Ascending (out ++ xs)
  pub right : Ascending (out ++ ys)
  pub kept : (w : Word) → occurrences w out + (occurrences w xs + occurrences w ys) ≡ occurrences w total

pub merging_start : (xs ys : List Word) → Ascending xs → Ascending ys → Merging (xs ++ ys) xs ys []
merging_start xs ys h k = record { left = h; right = k; kept = λ w. omega (arith, occurrences-append w xs ys) }

pub merging-swap : {total xs ys out : List Word} → Merging total xs ys out → Merging total ys xs out
merging-swap m = record { left = m.right; right = m.left; kept = λ w. omega (arith, m.kept w) }

-- the lesser head is the next word
pub merging-next : (total : List Word) (x : Word) (xs ys out : List Word) → Merging total (x ∷ xs) ys out → Before x ys → Merging total xs ys (out ++ (x ∷ []))
merging-next total x xs ys out m b = record {
  left = subst Ascending (sym (append_snoc out x xs)) m.left;
  right = between out x xs ys m.left m.right (before-all x ys b (ascending-right out ys m.right));
  kept = λ w. omega (arith, m.kept w, occurrences-append w out (x ∷ []));
}

-- equal heads are a word that comes twice
pub merging-twice : (total : List Word) (x y : Word) (xs ys out : List Word) → Merging total (x ∷ xs) (y ∷ ys) out → order x y ≡ Is.Equal → Twice total
merging-twice total x y xs ys out m e =
    let b : occurrences x (y ∷ ys) ≡ occurrences x ys + 1 = subst (λ z. occurrences x (z ∷ ys) ≡ occurrences x ys + 1) (equal-same x y e) (self-once x ys) in
    (x, omega (arith, m.kept x, self-once x xs, b))

pub merging-end : (total out : List Word) → Merging total [] [] out → Sorted total out (Ok tt)
merging-end total out m = (subst Ascending (append-nil out) m.left, λ w. omega (arith, m.kept w))

-- Two parts sorted, and then merged: the whole is sorted.
pub sorted-both : (xs ys xs' ys' out : List Word) (r : Result (Unit {0}) Repeated) → Sorted xs xs' (Ok tt) → Sorted ys ys' (Ok tt) → Sorted (xs' ++ ys') out r → Sorted (xs ++ ys) out r
sorted-both xs ys xs' ys' out r h k m = go r m
  where
    same : (w : Word) → occurrences w (xs' ++ ys') ≡ occurrences w (xs ++ ys)
    same w = omega (arith, occurrences-append w xs ys, occurrences-append w xs' ys', h.1 w, k.1 w)

    go : (r : Result (Unit {0}) Repeated) → Sorted (xs' ++ ys') out r → Sorted (xs ++ ys) out r
    go (Ok u) m = (m.0, λ w. m.1 w ∙ same w)
    go (Err e) m = (m.0, omega (arith, m.1, same m.0))

-- and where a word comes twice in a part, it does in the whole
pub twice-left : (xs ys : List Word) → Twice xs → Twice (xs ++ ys)
twice-left xs ys h = (h.0, omega (arith, h.1, occurrences-append h.0 xs ys))

pub twice-right : (xs ys : List Word) → Twice ys → Twice (xs ++ ys)
twice-right xs ys h = (h.0, omega (arith, h.1, occurrences-append h.0 xs ys))
