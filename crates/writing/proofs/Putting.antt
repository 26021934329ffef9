-- The leaves of a row, written one after another, and all rows.
use Prim.Native.Nat.{ℕ, ◌+◌, ◌*◌, ◌≤◌, ◌<◌}
use mathlib.Core.Path.{◌≡◌}
use mathlib.Core.Bool.{Bool, true, false, cond}
use mathlib.Core.List.{List, ◌++◌, map}
use native.Mathlib.Omega.{arith}
use native.Mathlib.Nat.{mul-le-mul_right}
use native.Mathlib.Numerals.{add-one}
use lib.ListN.{length, take}
use Rattle.std.specs.Int.{from_bool}
use Rattle.maps.specs.Lists.{below, concat}
use Rattle.maps.specs.Number.{encoded, bytes_for}
use Rattle.maps.specs.Limits.{leaves_range}
use Rattle.maps.specs.Sizes.{id_bytes_most, cut_bytes_most, row_bytes_most, plan_most}
use Rattle.maps.proofs.WrittenSize.{within-bytes, id-bytes}
use Rattle.out_bytes.specs.Put.{Put}
use Rattle.out_bytes.proofs.Putting.{put-within, put_then, concat-more}
use Rattle.bound.specs.Lookup.{count_of, leaf_of}
use Rattle.cover.specs.Cover.{row_of}
use Rattle.cover.proofs.CoverMarks.{over-more}

-- a number, with the bytes of one that it does not exceed
pub put-most : {x most : ℕ} {a b : List ℕ} {p q : ℕ} → x ≤ most → Put (bytes_for x) a b p q (encoded x) → Put (bytes_for most) a b p q (encoded x)
put-most l f = put-within _ (within-bytes l) f

-- the bytes of a number that equals one in a table
pub equal-bytes : {x y most : ℕ} → x ≡ y → y ≤ most → bytes_for x ≤ bytes_for most
equal-bytes e l = within-bytes (omega arith)

-- the number that says a mark
pub bit-of : {r : ℕ} (b : Bool) → r ≡ from_bool b → (r ≡ cond {A = ℕ} b 1 0) × (r ≤ 1)
bit-of true e = (e, omega arith)
bit-of false e = (e, omega arith)

-- the first j leaves of the row of v
abbrev pub leaves_to : (cuts : List ℕ) (v j : ℕ) → List ℕ
leaves_to cuts v j = map (leaf_of cuts v) (below j)

pub put-leaf : (cuts : List ℕ) (v j : ℕ) {a b c : List ℕ} {p q r : ℕ} → leaf_of cuts v j < 256 → Put (j * id_bytes_most) a b p q (concat (map encoded (leaves_to cuts v j)))
    → Put (bytes_for (leaf_of cuts v j)) b c q r (encoded (leaf_of cuts v j)) → Put ((j + 1) * id_bytes_most) a c p r (concat (map encoded (leaves_to cuts v (j + 1))))
put-leaf cuts v j l f g =
    rw (over-more (leaf_of cuts v) j, concat-more encoded (leaves_to cuts v j) (leaf_of cuts v j))
    (put_then _ (omega arith) f (put-within _ (id-bytes l) g))

-- the count and every leaf
pub put-leaves : (cuts : List ℕ) (v j : ℕ) {a b c : List ℕ} {p q r : ℕ} → count_of cuts v ≤ leaves_range.high → j ≡ count_of cuts v
    → Put (bytes_for (count_of cuts v)) a b p q (encoded (count_of cuts v))
    → Put (j * id_bytes_most) b c q r (concat (map encoded (leaves_to cuts v j))) → Put cut_bytes_most a c p r (encoded (count_of cuts v) ++ concat (map encoded (row_of cuts v)))
put-leaves cuts v j few e f g =
    let m = mul-le-mul_right id_bytes_most few in
    put_then cut_bytes_most (omega arith) (put-most few f) (rw e at g)

-- one more row
module _ (f : ℕ → List ℕ) where
  pub put_next : (v : ℕ) {a b c : List ℕ} {p q r : ℕ} → Put (v * row_bytes_most) a b p q (concat (map f (below v))) → Put row_bytes_most b c q r (f v)
      → Put ((v + 1) * row_bytes_most) a c p r (concat (map f (below (v + 1))))
  put_next v h g = rw (add-one v, concat-more f (below v) v) (put_then _ (omega arith) h g)

-- what is written from the start
pub put_first : {a b : List ℕ} {r : ℕ} {xs : List ℕ} → Put plan_most a b 0 r xs → (r ≡ length xs) × (take r b ≡ xs) × (r ≤ plan_most)
put_first f = (omega (arith, f.end), f.front, omega (arith, f.near))
