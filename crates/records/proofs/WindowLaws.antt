-- The boxes among the nodes, and the numbers of the windows row by row.
use Prim.Native.Nat.{ℕ, zero, suc, ◌≤◌, ◌<◌}
use mathlib.Core.Path.{◌≡◌, refl, sym, ap, ◌∙◌, fun_ext}
use mathlib.Core.Bool.{Bool, true, false}
use mathlib.Core.List.{List, [], ◌∷◌, ◌++◌, map, append-nil, append_assoc, map-append, map-map}
use native.Mathlib.Omega.{arith}
use lib.Dec.{ltb, leb}
use lib.ListN.{get_or, get_or-eq_default}
use borrow.Author.Tests.{ltb-true, ltb-false, le-ltb, lt-ltb, le-leb}
use Rattle.maps.specs.Lists.{below, concat}
use Rattle.maps.specs.Sheet.{Node, is_box, no_node}
use Rattle.maps.specs.Read.{kind_of, next_id}
use Rattle.maps.specs.Records.{node_meant}
use Rattle.maps.specs.Write.{Entry, chain_numbers, window_numbers, boxes_of}
use Rattle.maps.proofs.Over.{length_over, get_d_over}
use Rattle.maps.proofs.Numbers.{concat-snoc}
use Rattle.records.specs.Rows.{node_place, rows_in, node_row, node_in, box_at, window_in, low_in, window_entries, records_in}
use Rattle.records.specs.declared.NodeRow.{NodeRow}

-- a kind is a box's from 2 on
box-code : (kind lat q : ℕ) → is_box (kind_of kind lat q) ≡ leb 2 kind
box-code zero lat q = refl
box-code (suc zero) lat q = refl
box-code (suc (suc k)) lat q = sym (le-leb 2 (suc (suc k)) (omega arith))

module _ (nodes : List ℕ) (v : ℕ) where
  pub box-past : rows_in node_place nodes ≤ v → box_at nodes v ≡ false
  box-past l = rw (le-ltb v (rows_in node_place nodes) l)

  box-inside : v < rows_in node_place nodes → box_at nodes v ≡ is_box (kind_of (node_row nodes v).kind (node_row nodes v).latency (node_row nodes v).clock)
  box-inside l = rw (lt-ltb v (rows_in node_place nodes) l)

  pub box-own : (row : NodeRow) → row ≡ node_row nodes v → v < rows_in node_place nodes → box_at nodes v ≡ leb 2 row.kind
  box-own row e l = rw e (box-inside l ∙ box-code _ _ _)

-- the boxes among the rows are those among the records
module _ (nodes operands : List ℕ) where
  abbrev count : ℕ
  count = rows_in node_place nodes

  abbrev meant : ℕ → Node
  meant v = node_meant (node_in nodes operands v)

  abbrev given : List Node
  given = map node_meant (map (node_in nodes operands) (below count))

  given-at : (v : ℕ) → get_or given v no_node ≡ get_or (map meant (below count)) v no_node
  given-at v = ap (λ (vs : List Node). get_or vs v no_node) (map-map node_meant (node_in nodes operands) (below count))

  box-is : (v : ℕ) (b : Bool) → ltb v count ≡ b → is_box (get_or given v no_node).kind ≡ box_at nodes v
  box-is v true e =
      let l = ltb-true v count e in
      ap (λ (x : Node). is_box x.kind) (given-at v ∙ get_d_over meant no_node count v l) ∙ sym (box-inside nodes v l)
  box-is v false e =
      let l = ltb-false v count e in
      ap (λ (x : Node). is_box x.kind) (given-at v ∙ get_or-eq_default (map meant (below count)) no_node (omega (arith, length_over meant no_node count)))
      ∙ sym (box-past nodes v l)

  pub boxes-are : (k t h : ℕ) (differences : List ℕ) (p : ℕ) (windows : List ℕ) → boxes_of (records_in k t h nodes operands differences p windows) ≡ box_at nodes
  boxes-are k t h differences p windows = fun_ext (λ v. box-is v (ltb v count) refl)

-- what the last of rows has to say of the next
module _ {A : Type 0} (next : A → ℕ) where
  abbrev last_of : ℕ → List A → ℕ
  last_of i [] = i
  last_of i (x ∷ xs) = last_of (next x) xs

  last_snoc : (i : ℕ) (xs : List A) (y : A) → last_of i (xs ++ (y ∷ [])) ≡ next y
  last_snoc i [] y = refl
  last_snoc i (x ∷ xs) y = last_snoc (next x) xs y

  chain_snoc : (f : ℕ → A → List Entry) (i : ℕ) (xs : List A) (y : A) → chain_numbers next f i (xs ++ (y ∷ [])) ≡ chain_numbers next f i xs ++ f (last_of i xs) y
  chain_snoc f i [] y = append-nil (f i y)
  chain_snoc f i (x ∷ xs) y =
      ap (λ es. f i x ++ es) (chain_snoc f (next x) xs y) ∙ sym (append_assoc (f i x) (chain_numbers next f (next x) xs) (f (last_of (next x) xs) y))

-- the windows stand in a table: entry j in row j
module _ (n : ℕ) (is_box : ℕ → Bool) (p : ℕ) (windows : List ℕ) where
  low-is : (k : ℕ) → last_of next_id 0 (map (window_in windows) (below k)) ≡ low_in windows k
  low-is zero = refl
  low-is (suc k) =
      ap (last_of next_id 0) (map-append (window_in windows) (below k) (k ∷ [])) ∙ last_snoc next_id 0 (map (window_in windows) (below k)) (window_in windows k)

  pub windows-below : (k : ℕ) → chain_numbers next_id (window_numbers n is_box p) 0 (map (window_in windows) (below k)) ≡ concat (map (window_entries n is_box p windows) (below k))
  windows-below zero = refl
  windows-below (suc k) =
      ap (chain_numbers next_id (window_numbers n is_box p) 0) (map-append (window_in windows) (below k) (k ∷ []))
      ∙ chain_snoc next_id (window_numbers n is_box p) 0 (map (window_in windows) (below k)) (window_in windows k)
      ∙ rw (low-is k, windows-below k) (sym (concat-snoc (window_entries n is_box p windows) (below k) k))
