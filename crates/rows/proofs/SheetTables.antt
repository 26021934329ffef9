-- The table of a sheet's nodes holds its nodes, and that of its differences its differences.
use Prim.Native.Nat.{ℕ, zero, suc, ◌+◌, ◌*◌, ◌≤◌, ◌<◌}
use mathlib.Core.Path.{◌≡◌, refl, sym, subst, ap, ◌∙◌}
use mathlib.Core.Bool.{Bool, true, false}
use mathlib.Core.List.{List}
use native.Mathlib.Omega.{arith}
use native.Mathlib.Nat.{add-zero}
use lib.Dec.{eqb, ltb}
use lib.ListN.{length, get_or, get_or-eq_default}
use borrow.Author.Tests.{eqb-true, ne_eqb, ltb-true, ltb-false}
use Rattle.maps.specs.Lists.{All}
use Rattle.maps.specs.Sheet.{Sheet, Kind, input, logic, box, is_logic, latency_of, clock_to_q_of, Node, no_node, Window, box_in, node, size, window}
use Rattle.maps.specs.Read.{kind_of}
use Rattle.maps.specs.Limits.{operands_most, ranges_of}
use Rattle.maps.specs.WellFormed.{Within, code_of, WellNode, WellFormed}
use Rattle.maps.proofs.Member.{All-ids, All-get, everywhere}
use Rattle.maps.proofs.Planned.{operands-below}
use Rattle.maps.proofs.RecordLaws.{mark-again}
use Rattle.rows.specs.Table.{node_stride, difference_stride, nodes_wide, differences_wide, node_row, difference_row, no_difference, nodes_of, graph_of, differences_of, kind_at, mark_in, open_in, closing, Tabled, Falling, Listed}
use Rattle.rows.proofs.StoredRows.{stored-length, stored_at, stored-gap, stored_past}
use Rattle.rows.proofs.StoredWindows.{windows-length, windows-beside, window-stored}

-- no node has more operands than the most
few : (top own : ℕ) (v : Node) → WellNode top own v → length v.operands ≤ operands_most
few top own v h = go v.kind h.count
  where
    go : (k : Kind) → Within (ranges_of top (code_of k)).operands (length v.operands) → length v.operands ≤ operands_most
    go input w = omega (arith, w.most)
    go logic w = w.most
    go (box lat q) w = w.most

module _ (S : Sheet) (well : WellFormed S) where
  short : All (λ v. length (node_row v) ≤ node_stride) S.nodes
  short = All-ids (λ v. length (node_row v) ≤ node_stride) no_node S.nodes (λ v l. omega (arith, few S.top v (node S v) (well.nodes v l)))

  room : length S.nodes * node_stride ≤ nodes_wide
  room = omega (arith, well.size.most)

  blank : (j : ℕ) → get_or (node_row no_node) j 0 ≡ 0
  blank zero = refl
  blank (suc zero) = refl
  blank (suc (suc zero)) = refl
  blank (suc (suc (suc zero))) = refl
  blank (suc (suc (suc (suc zero)))) = refl
  blank (suc (suc (suc (suc (suc zero))))) = refl
  blank (suc (suc (suc (suc (suc (suc j)))))) = refl

  -- the number j of node v's row
  node-cell : (v j : ℕ) → j < length (node_row (node S v)) → get_or (nodes_of S) (v * node_stride + j) 0 ≡ get_or (node_row (node S v)) j 0
  unfolding nodes_of
  node-cell v j l = go (ltb v (size S)) refl
    where
      go : (b : Bool) → ltb v (size S) ≡ b → get_or (nodes_of S) (v * node_stride + j) 0 ≡ get_or (node_row (node S v)) j 0
      go true e = stored_at node_row node_stride nodes_wide S.nodes no_node short room v j (ltb-true _ _ e) l
      go false e =
          stored_past node_row node_stride nodes_wide S.nodes no_node short room (v * node_stride + j) (omega (arith, ltb-false))
          ∙ sym (ap (λ (x : Node). get_or (node_row x) j 0) (get_or-eq_default S.nodes no_node (ltb-false _ _ e)) ∙ blank j)

  row-short : (v : ℕ) → length (node_row (node S v)) ≤ 12
  row-short v = go (ltb v (size S)) refl
    where
      go : (b : Bool) → ltb v (size S) ≡ b → length (node_row (node S v)) ≤ 12
      go true e = omega (arith, few S.top v (node S v) (well.nodes v (ltb-true _ _ e)))
      go false e = omega (arith, ap (λ (x : Node). length (node_row x)) (get_or-eq_default S.nodes no_node (ltb-false _ _ e)))

  nodes-wide : length (nodes_of S) ≡ nodes_wide
  unfolding nodes_of
  nodes-wide = stored-length node_row node_stride nodes_wide S.nodes no_node short room

  cell : (v j : ℕ) → j < length (node_row (node S v)) → get_or (graph_of S) (v * node_stride + j) 0 ≡ get_or (node_row (node S v)) j 0
  unfolding graph_of
  cell v j l = windows-beside (nodes_of S) S.windows v j (omega (arith, row-short v)) ∙ node-cell v j l

  -- before its windows the table has 0 in their columns
  no-window : (v j : ℕ) → 12 ≤ j → j < node_stride → get_or (nodes_of S) (v * node_stride + j) 0 ≡ 0
  unfolding nodes_of
  no-window v j l h = go (ltb v (size S)) refl
    where
      go : (b : Bool) → ltb v (size S) ≡ b → get_or (nodes_of S) (v * node_stride + j) 0 ≡ 0
      go true e = stored-gap node_row node_stride nodes_wide S.nodes no_node short room v j (ltb-true _ _ e) (omega (arith, row-short v)) h
      go false e = stored_past node_row node_stride nodes_wide S.nodes no_node short room (v * node_stride + j) (omega (arith, ltb-false))

  windowed : (v : ℕ) → record { id = v; from = open_in (graph_of S) v; to = closing (graph_of S) S.period v } ≡ window S v
  unfolding graph_of
  windowed v =
      window-stored (size S) (box_in S.nodes) S.period well.size.most (nodes_of S) S.windows v nodes-wide well.windows well.rising
      (no-window v 12 (omega arith) (omega arith))
      (subst (λ (q : ℕ). get_or (nodes_of S) q 0 ≡ 0) (omega arith) (no-window v 13 (omega arith) (omega arith)))

  pub tabled : Tabled S (graph_of S)
  tabled =
      record {
        wide = unfold graph_of in windows-length (nodes_of S) S.windows ∙ nodes-wide;
        kinds = λ v l. rw (← add-zero (v * node_stride)) (cell v 0 (omega arith));
        marks = λ v l. cell v 1 (omega arith);
        delays = λ v l. cell v 2 (omega arith);
        latencies = λ v l. cell v 3 (omega arith);
        clocks = λ v l. cell v 4 (omega arith);
        counts = λ v l. cell v 5 (omega arith);
        operands = λ v j l m. subst (λ (q : ℕ). get_or (graph_of S) q 0 ≡ get_or (node S v).operands j 0) (omega arith) (cell v (suc (suc (suc (suc (suc (suc j)))))) (omega arith));
        opens = λ v l. ap (λ (w : Window). w.from) (windowed v);
        closes = λ v l. ap (λ (w : Window). w.to) (windowed v);
      }

  differences-short : All (λ d. length (difference_row d) ≤ difference_stride) S.differences
  differences-short = everywhere (λ d. omega arith) S.differences

  differences-room : length S.differences * difference_stride ≤ differences_wide
  differences-room = omega (arith, well.count.most)

  -- the number j of difference i's row
  difference-cell : (i j : ℕ) → i < length S.differences → j < difference_stride
      → get_or (differences_of S) (i * difference_stride + j) 0 ≡ get_or (difference_row (get_or S.differences i no_difference)) j 0
  unfolding differences_of
  difference-cell i j l m = stored_at difference_row difference_stride differences_wide S.differences no_difference differences-short differences-room i j l m

  pub listed : Listed S (differences_of S)
  listed =
      record {
        wide = unfold differences_of in stored-length difference_row difference_stride differences_wide S.differences no_difference differences-short differences-room;
        froms = λ i l. rw (← add-zero (i * difference_stride)) (difference-cell i 0 l (omega arith));
        tos = λ i l. difference-cell i 1 l (omega arith);
        pluses = λ i l. difference-cell i 2 l (omega arith);
        minuses = λ i l. difference-cell i 3 l (omega arith);
      }

-- a table that holds the nodes of a well-formed sheet can be walked
pub falling : (S : Sheet) (g : List ℕ) → WellFormed S → Tabled S g → Falling g
falling S g well t =
    record {
      few = λ v l. rw (t.counts v l) (counted v);
      falls = λ v j l m.
          let h : j < length (node S v).operands = rw (t.counts v l) at m in
          rw (t.operands v j l h) (All-get (λ u. u < v) 0 (node S v).operands (operands-below S well v) j h);
    }
  where
    counted : (v : ℕ) → length (node S v).operands ≤ operands_most
    counted v = go (ltb v (size S)) refl
      where
        go : (b : Bool) → ltb v (size S) ≡ b → length (node S v).operands ≤ operands_most
        go true e = few S.top v (node S v) (well.nodes v (ltb-true _ _ e))
        go false e = omega (arith, ap (λ (x : Node). length x.operands) (get_or-eq_default S.nodes no_node (ltb-false _ _ e)))

-- a node is logic exactly if its code is 1
pub logic-code : (k : Kind) → eqb (code_of k) 1 ≡ is_logic k
logic-code input = refl
logic-code logic = refl
logic-code (box lat q) = refl

pub code-logic : (k : Kind) → code_of k ≡ 1 → is_logic k ≡ true
code-logic k e = sym (logic-code k) ∙ rw e

pub logic-one : (k : Kind) → is_logic k ≡ true → code_of k ≡ 1
logic-one k e = eqb-true _ _ (logic-code k ∙ e)

-- the kind of a node, from its code, its latency and its q
pub kind-back : (k : Kind) → kind_of (code_of k) (latency_of k) (clock_to_q_of k) ≡ k
kind-back input = refl
kind-back logic = refl
kind-back (box lat q) = refl

-- the kind in the table of a sheet is the node's
pub kind-tabled : (S : Sheet) (g : List ℕ) → Tabled S g → (v : ℕ) → v < 256 → kind_at g v ≡ (node S v).kind
kind-tabled S g t v l = rw (t.kinds v l, t.latencies v l, t.clocks v l) (kind-back (node S v).kind)

-- the output mark in the table of a sheet is the node's
pub output-tabled : (S : Sheet) (g : List ℕ) → Tabled S g → (v : ℕ) → v < 256 → eqb (mark_in g v) 1 ≡ (node S v).output
output-tabled S g t v l = ap (λ (x : ℕ). eqb x 1) (t.marks v l) ∙ mark-again (node S v).output

-- a code is 1 exactly if its kind is logic, and 2 or more exactly if it is a box
pub code-is-logic : (code lat q : ℕ) → is_logic (kind_of code lat q) ≡ eqb code 1
code-is-logic zero lat q = refl
code-is-logic (suc zero) lat q = refl
code-is-logic (suc (suc k)) lat q = sym (ne_eqb (suc (suc k)) 1 (λ e. omega arith))
