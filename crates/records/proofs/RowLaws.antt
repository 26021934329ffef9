-- The numbers of a row.
use Prim.Native.Nat.{ℕ, ◌+◌, ◌-◌, ◌*◌, ◌≤◌, ◌<◌, min}
use mathlib.Core.Path.{◌≡◌}
use mathlib.Core.List.{List, [], ◌∷◌, ◌++◌, append_assoc}
use native.Mathlib.Omega.{arith}
use native.Mathlib.Numerals.{add-one}
use lib.ListN.{length}
use borrow.Author.Tests.{lt-ltb, le-ltb}
use Rattle.maps.specs.Write.{code_of_weight}
use Rattle.records.specs.Rows.{node_row, end_of, signed}
use Rattle.records.specs.declared.NodeRow.{NodeRow}

-- the code of a weight from its 32 bits
pub code-plus : (x : ℕ) → x < 2147483648 → code_of_weight (signed x) ≡ 2 * x
code-plus x l = rw (lt-ltb x 2147483648 l)

pub code-minus : (x : ℕ) → 2147483648 ≤ x → code_of_weight (signed x) ≡ 2 * (4294967295 - x) + 1
code-minus x l = rw (le-ltb x 2147483648 l)

-- where a node's operands end
module _ (nodes operands : List ℕ) (v : ℕ) (row : NodeRow) (e : row ≡ node_row nodes v) where
  end_is : end_of nodes operands (v + 1) ≡ min row.end (length operands)
  end_is = rw (add-one v, e)

  pub end-capped : length operands < row.end → length operands ≡ end_of nodes operands (v + 1)
  end-capped l = omega (arith, end_is)

  pub end-own : row.end ≤ length operands → row.end ≡ end_of nodes operands (v + 1)
  end-own l = omega (arith, end_is)

-- six numbers stored one behind the other stand behind what stood before
pub six-more : (front : List ℕ) {a b c d e f : List ℕ} (u v w x y z : ℕ) → a ≡ front ++ (u ∷ []) → b ≡ a ++ (v ∷ []) → c ≡ b ++ (w ∷ []) → d ≡ c ++ (x ∷ [])
    → e ≡ d ++ (y ∷ []) → f ≡ e ++ (z ∷ []) → f ≡ front ++ (u ∷ v ∷ w ∷ x ∷ y ∷ z ∷ [])
six-more front u v w x y z p q r s t o = rw (o, t, s, r, q, p) (simp append_assoc)
