-- A list of positions sorted in two parts: `a` and `b` are what its parts before and from h on have become.
use Prim.Native.Nat.{ℕ, ◌-◌, ◌≤◌, ◌<◌}
use mathlib.Core.Path.{◌≡◌, refl, sym, subst, ap, ◌∙◌}
use mathlib.Core.List.{List, [], ◌∷◌, ◌++◌, append-nil, map-append}
use native.Mathlib.Omega.{arith}
use lib.ListN.{length, take, drop, length-drop, take-append-drop, drop_of_length-le}
use lib.Seq.{length-take-le, length_front, take_at, drop_at}
use borrow.Rule.Slice.PartMut.{put_mid, same_len_mid}
use Rattle.blif.specs.Words.{Word}
use Rattle.blif.specs.Scan.{name_at}
use Rattle.std.specs.Prelude.{Result, Ok}
use Rattle.distinct.specs.declared.Repeated.{Repeated}
use Rattle.distinct.specs.Sorting.{Ascending, Twice, Sorted, names}
use Rattle.distinct.proofs.Merging.{sorted-both, twice-left, twice-right}
use Rattle.distinct.proofs.Filling.{rest_all}

pub sorted-short : (s l : List ℕ) → length l < 2 → Sorted (names s l) (names s l) (Ok tt)
sorted-short s [] q = (tt, λ w. refl)
sorted-short s (p ∷ []) q = ((tt, tt), λ w. refl)
sorted-short s (p ∷ r ∷ l) q = absurd (omega arith)

module _ (s l : List ℕ) (h : ℕ) where
  parted : names s (take h l) ++ names s (drop h l) ≡ names s l
  parted = sym (map-append (name_at s) (take h l) (drop h l)) ∙ ap (names s) (take-append-drop h l)

  -- a word comes twice before h
  pub first-twice : Twice (names s (take h l)) → Twice (names s l)
  first-twice m = subst Twice parted (twice-left (names s (take h l)) (names s (drop h l)) m)

  module _ (a : List ℕ) (q : length a ≡ length (take h l)) (u : h ≤ length l) where
    long : length a ≡ h
    long = q ∙ length-take-le h l u

    -- the part from h on is lent as it was
    pub second-part : take (length (a ++ drop h l) - h) (drop h (a ++ drop h l)) ≡ drop h l
    second-part = rest_all (a ++ drop h l) h ∙ drop_at a (drop h l) h long

    pub second-length : length (take (length (a ++ drop h l) - h) (drop h (a ++ drop h l))) ≡ length l - h
    second-length = ap (length {A = ℕ}) second-part ∙ length-drop h l

    pub second-twice : Twice (names s (take (length (a ++ drop h l) - h) (drop h (a ++ drop h l)))) → Twice (names s l)
    second-twice m = subst Twice parted (twice-right (names s (take h l)) (names s (drop h l)) (subst (λ r. Twice (names s r)) second-part m))

    module _ (b : List ℕ) where
      pub parts-long : length b ≡ length (take (length (a ++ drop h l) - h) (drop h (a ++ drop h l))) → length (put_mid h (length (a ++ drop h l) - h) (a ++ drop h l) b) ≡ length l
      parts-long e = same_len_mid h (length (a ++ drop h l) - h) (a ++ drop h l) b e ∙ length_front l a h q

      -- both parts as they stand in the list
      pub both-parts : put_mid h (length (a ++ drop h l) - h) (a ++ drop h l) b ≡ a ++ b
      both-parts =
          let x = a ++ drop h l in
          ap (λ r. take h x ++ (b ++ r)) (drop_of_length-le (drop h x) {i = length x - h} (omega (arith, length-drop h x)))
          ∙ ap (λ r. take h x ++ r) (append-nil b)
          ∙ ap (λ r. r ++ b) (take_at a (drop h l) h long)

      pub parts-ascend : Ascending (names s a) → Ascending (names s b) → let y = put_mid h (length (a ++ drop h l) - h) (a ++ drop h l) b in Ascending (names s (take h y)) × Ascending (names s (drop h y))
      parts-ascend m n = rw (both-parts, take_at a b h long, drop_at a b h long) (m, n)

      pub halves-sorted : (out : List Word) (r : Result (Unit {0}) Repeated) → Sorted (names s (take h l)) (names s a) (Ok tt) → Sorted (names s (take (length (a ++ drop h l) - h) (drop h (a ++ drop h l)))) (names s b) (Ok tt)
          → Sorted (names s (put_mid h (length (a ++ drop h l) - h) (a ++ drop h l) b)) out r → Sorted (names s l) out r
      halves-sorted out r m n o =
          subst (λ ws. Sorted ws out r) parted
          (sorted-both (names s (take h l)) (names s (drop h l)) (names s a) (names s b) out r m (subst (λ t. Sorted (names s t) (names s b) (Ok tt)) second-part n)
          (subst (λ ws. Sorted ws out r) (ap (names s) both-parts ∙ map-append (name_at s) a b) o))
