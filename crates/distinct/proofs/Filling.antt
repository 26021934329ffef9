-- Lists read and written from place to place.
use Prim.Native.Nat.{ℕ, ◌+◌, ◌-◌, ◌≤◌, ◌<◌}
use mathlib.Core.Path.{◌≡◌, ap, ◌∙◌}
use mathlib.Core.List.{List, [], ◌∷◌, ◌++◌}
use native.Mathlib.Omega.{arith}
use native.Mathlib.Numerals.{add-one}
use lib.ListN.{length, take, drop, set, length-drop}
use lib.Seq.{length-take-le, take_all, take-suc-set}

pub take-write : (l : List ℕ) (i a : ℕ) → i < length l → take (i + 1) (set l i a) ≡ take i l ++ (a ∷ [])
take-write l i a h = ap (λ n. take n (set l i a)) (add-one i) ∙ take-suc-set l i a h

-- a list parted at h, as the code parts it
pub rest_all : (l : List ℕ) (h : ℕ) → take (length l - h) (drop h l) ≡ drop h l
rest_all l h = take_all (length l - h) (drop h l) (omega (arith, length-drop h l))

pub parts-length : (l : List ℕ) (h : ℕ) → h ≤ length l → length (take h l) + length (take (length l - h) (drop h l)) ≡ length l
parts-length l h b = omega (arith, length-take-le h l b, ap (length {A = ℕ}) (rest_all l h), length-drop h l)
