-- The ids that a table of nodes has as boxes: those of the nodes, and storing a window changes none.
use Prim.Native.Nat.{ℕ, ◌*◌, ◌≤◌}
use mathlib.Core.Path.{◌≡◌, refl, sym, subst, ap, ◌∙◌, fun_ext}
use mathlib.Core.Bool.{Bool, true, false}
use mathlib.Core.List.{List, [], ◌∷◌, map}
use native.Mathlib.Omega.{arith}
use native.Mathlib.Nat.{add-zero}
use lib.Dec.{leb, ltb}
use lib.ListN.{length, get_or, get_or-eq_default}
use borrow.Author.Tests.{ltb-true, ltb-false}
use Rattle.maps.specs.Lists.{All}
use Rattle.maps.specs.Limits.{operands_most}
use Rattle.maps.specs.Sheet.{Kind, input, logic, box, is_box, Node, no_node, Window, box_in}
use Rattle.maps.specs.WellFormed.{code_of}
use Rattle.maps.proofs.Member.{All-map}
use Rattle.rows.specs.Table.{node_stride, nodes_wide, node_place, node_row, no_nodes, store_rows, store_from, store_windows, window_place, window_row, kind_in, boxes_in}
use Rattle.rows.proofs.StoredRows.{stored_at, stored_past}
use Rattle.rows.proofs.StoredWindows.{windows-beside}

-- a code of 2 is a box's
box-code : (k : Kind) → leb 2 (code_of k) ≡ is_box k
box-code input = refl
box-code logic = refl
box-code (box lat q) = refl

-- past the last row too
pub boxes-tabled : (vs : List Node) → All (λ v. length v.operands ≤ operands_most) vs → length vs ≤ 256
    → boxes_in (store_rows node_place no_nodes 0 (map node_row vs)) ≡ box_in vs
boxes-tabled vs few fits = fun_ext (λ v. go v (ltb v (length vs)) refl)
  where
    short : All (λ v. length (node_row v) ≤ node_stride) vs
    short = All-map {P = λ v. length v.operands ≤ operands_most} (λ v l. omega arith) vs few

    room : length vs * node_stride ≤ nodes_wide
    room = omega arith

    go : (v : ℕ) (b : Bool) → ltb v (length vs) ≡ b → boxes_in (store_rows node_place no_nodes 0 (map node_row vs)) v ≡ box_in vs v
    go v true e =
        let here : kind_in (store_rows node_place no_nodes 0 (map node_row vs)) v ≡ code_of (get_or vs v no_node).kind =
        rw (← add-zero (v * node_stride)) (stored_at node_row node_stride nodes_wide vs no_node short room v 0 (ltb-true _ _ e) (omega arith)) in
        ap (leb 2) here ∙ box-code (get_or vs v no_node).kind
    go v false e =
        let l : length vs ≤ v = ltb-false _ _ e in
        let past : kind_in (store_rows node_place no_nodes 0 (map node_row vs)) v ≡ 0 = stored_past node_row node_stride nodes_wide vs no_node short room (v * node_stride) (omega arith) in
        ap (leb 2) past ∙ sym (ap (λ (x : Node). is_box x.kind) (get_or-eq_default vs no_node l))

pub boxes-kept : (g : List ℕ) (w : Window) → boxes_in (store_from g (window_place w.id) (window_row w.from w.to)) ≡ boxes_in g
unfolding store_windows
boxes-kept g w =
    fun_ext (λ v. ap (leb 2) (subst (λ (q : ℕ). get_or (store_windows g (w ∷ [])) q 0 ≡ get_or g q 0) (add-zero (node_place v)) (windows-beside g (w ∷ []) v 0 (omega arith))))
