-- What stands in a table of rows.
use Prim.Native.Nat.{ℕ, zero, suc, ◌+◌, ◌*◌, ◌≤◌, ◌<◌}
use mathlib.Core.Path.{◌≡◌, refl, ◌∙◌}
use mathlib.Core.List.{List, [], ◌∷◌, map}
use native.Mathlib.Omega.{arith}
use native.Mathlib.Nat.{not-suc-le-zero, add-zero, zero-add}
use lib.ListN.{length, get_or, set, replicate, length-set, length-map, length-replicate, get_or-map}
use lib.Seq.{get_or-set_same, get_or-set_other}
use Rattle.maps.specs.Lists.{All}
use Rattle.maps.proofs.Member.{zeros-at}
use Rattle.rows.specs.Table.{store_from, store_rows}

pub store_length : (g : List ℕ) (p : ℕ) (xs : List ℕ) → length (store_from g p xs) ≡ length g
unfolding store_from
store_length g p [] = refl
store_length g p (x ∷ xs) = store_length (set g p x) (p + 1) xs ∙ length-set g p x

pub store-before : (g : List ℕ) (p : ℕ) (xs : List ℕ) (q : ℕ) → q < p → get_or (store_from g p xs) q 0 ≡ get_or g q 0
unfolding store_from
store-before g p [] q l = refl
store-before g p (x ∷ xs) q l = store-before (set g p x) (p + 1) xs q (omega arith) ∙ get_or-set_other g p q x 0 (λ e. omega arith)

pub store-after : (g : List ℕ) (p : ℕ) (xs : List ℕ) (q : ℕ) → p + length xs ≤ q → get_or (store_from g p xs) q 0 ≡ get_or g q 0
unfolding store_from
store-after g p [] q l = refl
store-after g p (x ∷ xs) q l = store-after (set g p x) (p + 1) xs q (omega arith) ∙ get_or-set_other g p q x 0 (λ e. omega arith)

pub store_at : (g : List ℕ) (p : ℕ) (xs : List ℕ) (j : ℕ) → p + length xs ≤ length g → j < length xs → get_or (store_from g p xs) (p + j) 0 ≡ get_or xs j 0
unfolding store_from
store_at g p [] j room l = absurd (not-suc-le-zero l)
store_at g p (x ∷ xs) zero room l = rw add-zero (store-before (set g p x) (p + 1) xs p (omega arith) ∙ get_or-set_same g p x 0 (omega arith))
store_at g p (x ∷ xs) (suc j) room l =
    let e : p + suc j ≡ p + 1 + j = omega arith in
    rw e (store_at (set g p x) (p + 1) xs j (rw (length-set g p x) (omega arith)) (omega arith))

-- rows of at most k numbers, k apart
module _ (k : ℕ) where
  abbrev place : ℕ → ℕ
  place i = i * k

  rows-length : (g : List ℕ) (i : ℕ) (rs : List (List ℕ)) → length (store_rows place g i rs) ≡ length g
  unfolding store_rows
  rows-length g i [] = refl
  rows-length g i (r ∷ rs) = rows-length (store_from g (place i) r) (i + 1) rs ∙ store_length g (place i) r

  rows_before : (g : List ℕ) (i : ℕ) (rs : List (List ℕ)) (q : ℕ) → q < place i → get_or (store_rows place g i rs) q 0 ≡ get_or g q 0
  unfolding store_rows
  rows_before g i [] q l = refl
  rows_before g i (r ∷ rs) q l =
      rows_before (store_from g (place i) r) (i + 1) rs q (omega arith) ∙ store-before g (place i) r q l

  rows-after : (g : List ℕ) (i : ℕ) (rs : List (List ℕ)) (q : ℕ) → All (λ r. length r ≤ k) rs → place (i + length rs) ≤ q
      → get_or (store_rows place g i rs) q 0 ≡ get_or g q 0
  unfolding store_rows
  rows-after g i [] q h l = refl
  rows-after g i (r ∷ rs) q h l =
      rows-after (store_from g (place i) r) (i + 1) rs q h.1 (omega arith) ∙ store-after g (place i) r q (omega (arith, h.0))

  rows_at : (e g : List ℕ) (i : ℕ) (rs : List (List ℕ)) (v j : ℕ) → All (λ r. length r ≤ k) rs → place (i + length rs) ≤ length g
      → v < length rs → j < length (get_or rs v e) → get_or (store_rows place g i rs) (place (i + v) + j) 0 ≡ get_or (get_or rs v e) j 0
  unfolding store_rows
  rows_at e g i [] v j h room l m = absurd (not-suc-le-zero l)
  rows_at e g i (r ∷ rs) zero j h room l m =
      rw add-zero
      (rows_before (store_from g (place i) r) (i + 1) rs (place i + j) (omega (arith, h.0)) ∙ store_at g (place i) r j (omega (arith, h.0)) m)
  rows_at e g i (r ∷ rs) (suc v) j h room l m =
      let q : i + suc v ≡ i + 1 + v = omega arith in
      rw q (rows_at e (store_from g (place i) r) (i + 1) rs v j h.1 (rw (store_length g (place i) r) (omega arith)) (omega arith) m)

  -- what is past a row and before the next is as it was
  rows-gap : (e g : List ℕ) (i : ℕ) (rs : List (List ℕ)) (v j : ℕ) → All (λ r. length r ≤ k) rs → v < length rs → length (get_or rs v e) ≤ j → j < k
      → get_or (store_rows place g i rs) (place (i + v) + j) 0 ≡ get_or g (place (i + v) + j) 0
  unfolding store_rows
  rows-gap e g i [] v j h l m n = absurd (not-suc-le-zero l)
  rows-gap e g i (r ∷ rs) zero j h l m n =
      rw add-zero
      (rows_before (store_from g (place i) r) (i + 1) rs (place i + j) (omega (arith, h.0)) ∙ store-after g (place i) r (place i + j) (omega arith))
  rows-gap e g i (r ∷ rs) (suc v) j h l m n =
      let q : i + suc v ≡ i + 1 + v = omega arith in
      rw q
      (rows-gap e (store_from g (place i) r) (i + 1) rs v j h.1 (omega arith) m n
      ∙ store-after g (place i) r (place (i + 1 + v) + j) (omega (arith, h.0)))

-- a table of zeros into which the rows of xs are stored
module _ {A : Type 0} (row : A → List ℕ) (k m : ℕ) (xs : List A) (none : A) (short : All (λ x. length (row x) ≤ k) xs) (room : length xs * k ≤ m) where
  abbrev stored : List ℕ
  stored = store_rows (λ i. i * k) (replicate m 0) 0 (map row xs)

  short-rows : (ys : List A) → All (λ x. length (row x) ≤ k) ys → All (λ r. length r ≤ k) (map row ys)
  short-rows [] h = tt
  short-rows (y ∷ ys) h = (h.0, short-rows ys h.1)

  pub stored-length : length stored ≡ m
  stored-length = rows-length k (replicate m 0) 0 (map row xs) ∙ length-replicate m 0

  pub stored_at : (v j : ℕ) → v < length xs → j < length (row (get_or xs v none)) → get_or stored (v * k + j) 0 ≡ get_or (row (get_or xs v none)) j 0
  stored_at v j l h =
      let e : get_or (map row xs) v (row none) ≡ row (get_or xs v none) = get_or-map row xs v none in
      let big : (0 + length (map row xs)) * k ≤ length {A = ℕ} (replicate m 0) = rw (length-map xs row, length-replicate {A = ℕ} m 0, zero-add) room in
      let here = rows_at k (row none) (replicate m 0) 0 (map row xs) v j (short-rows xs short) big (rw (length-map xs row) l) (rw e h) in
      rw (zero-add v, e) at here

  pub stored-gap : (v j : ℕ) → v < length xs → length (row (get_or xs v none)) ≤ j → j < k → get_or stored (v * k + j) 0 ≡ 0
  stored-gap v j l h n =
      let e : get_or (map row xs) v (row none) ≡ row (get_or xs v none) = get_or-map row xs v none in
      let here = rows-gap k (row none) (replicate m 0) 0 (map row xs) v j (short-rows xs short) (rw (length-map xs row) l) (rw e h) n in
      rw (zero-add v) at here ∙ zeros-at m (v * k + j)

  pub stored_past : (q : ℕ) → length xs * k ≤ q → get_or stored q 0 ≡ 0
  stored_past q l =
      rows-after k (replicate m 0) 0 (map row xs) q (short-rows xs short) (rw (length-map xs row, zero-add) l) ∙ zeros-at m q
