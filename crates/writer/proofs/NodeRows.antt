-- The numbers of a node from its row and the array of operand ids.
use Prim.Native.Nat.{ℕ, zero, suc, ◌+◌, ◌-◌, ◌*◌, ◌≤◌}
use mathlib.Core.Path.{◌≡◌}
use mathlib.Core.List.{List, [], ◌∷◌, ◌++◌, map}
use native.Mathlib.Omega.{arith}
use native.Mathlib.Nat.{zero-add}
use native.Mathlib.Numerals.{add-one}
use lib.ListN.{length, get_or, take, drop, length-drop}
use lib.Seq.{length-take-le, take-length}
use Rattle.maps.specs.Lists.{All, below, concat}
use Rattle.maps.specs.Limits.{top_range}
use Rattle.maps.specs.Form.{under}
use Rattle.maps.specs.Write.{Entry, entry, head_entries, Passes}
use Rattle.maps.specs.Sizes.{id_bytes_most, bytes_most, node_bytes_most}
use Rattle.maps.proofs.Numbers.{slice-below}
use Rattle.maps.proofs.WrittenSize.{head-ids-most, most-append, ids-most}
use Rattle.records.specs.Rows.{node_row, end_of, operands_in, node_entries}
use Rattle.fields.specs.Wrote.{Wrote, passed}
use Rattle.records.specs.declared.NodeRow.{NodeRow}
use Rattle.std.specs.Prelude.{Ok}
use Rattle.fields.specs.declared.Position.{Position}

-- the numbers of a node before its operand ids, of which there are `count`
abbrev pub head_of : (top : ℕ) → NodeRow → (count : ℕ) → List Entry
head_of top row count = head_entries top row.kind row.output row.delay row.latency row.clock count

-- where they pass, they and so many ids take at most the bytes of a node
pub head-room : (top count : ℕ) (row : NodeRow) {a b : List ℕ} {p next : Position} → top ≤ top_range.high → Wrote (head_of top row count) a b p (Ok next)
    → bytes_most (head_of top row count) + count * id_bytes_most ≤ node_bytes_most
head-room top count row l (passed good f n) = head-ids-most top row.kind row.output row.delay row.latency row.clock count l good.1.1.1.1.1.0

end-most : (nodes operands : List ℕ) (v : ℕ) → end_of nodes operands v ≤ length operands
end-most nodes operands zero = omega arith
end-most nodes operands (suc v) = omega arith

-- the operands of node v are `count` of them from `first` on
module _ (nodes operands : List ℕ) (v first end count : ℕ) (begins : first ≡ end_of nodes operands v) (ends : end ≡ end_of nodes operands (v + 1))
    (counts : count ≡ end - first) where
  pub within-array : first + count ≤ length operands
  within-array = omega (arith, end-most nodes operands v, end-most nodes operands (v + 1))

  operands-are : operands_in nodes operands v ≡ take count (drop first operands)
  operands-are =
      let e : end ≡ end_of nodes operands (suc v) = rw (add-one v) at ends in
      let n : end_of nodes operands (suc v) - end_of nodes operands v ≡ count = omega arith in
      rw (n, ← begins)

  pub operands-count : length (take count (drop first operands)) ≡ count
  operands-count = length-take-le count (drop first operands) (omega (arith, length-drop first operands, within-array))

  pub node-numbers : (top : ℕ) (row : NodeRow) → row ≡ node_row nodes v
      → node_entries top nodes operands v ≡ head_of top row count ++ map (entry (under v)) (take count (drop first operands))
  node-numbers top row e = rw (e, operands-are, operands-count)

-- the number of one operand, and those of all
abbrev pub operand_in : (own : ℕ) → List ℕ → ℕ → List Entry
operand_in own us j = entry (under own) (get_or us j 0) ∷ []

pub operands-below : (own : ℕ) (us : List ℕ) → map (entry (under own)) us ≡ concat (map (operand_in own us) (below (length us)))
operands-below own us =
    let e = rw (take-length us) at (slice-below (entry (under own)) us 0 (length us) (omega arith)) in
    simp zero-add at e

-- the bytes of a node that passes
pub node-bytes : (top : ℕ) (nodes operands : List ℕ) → top ≤ top_range.high → (v : ℕ) → All Passes (node_entries top nodes operands v)
    → bytes_most (node_entries top nodes operands v) ≤ node_bytes_most
node-bytes top nodes operands l v good =
    let us = operands_in nodes operands v in
    let r = node_row nodes v in
    omega (
      arith,
      most-append (head_of top r (length us)) (map (entry (under v)) us),
      ids-most v us,
      head-ids-most top r.kind r.output r.delay r.latency r.clock (length us) l good.1.1.1.1.1.0,
    )
