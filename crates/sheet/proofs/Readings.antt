-- Reading into tables of zeros ends as the definition's reading does, and leaves there the tables of the sheet.
use Prim.Native.Nat.{ℕ, zero, suc, ◌+◌, ◌≤◌}
use mathlib.Core.Path.{◌≡◌, refl, sym, subst, ap, ◌∙◌}
use mathlib.Core.Bool.{Bool, true, false, cond}
use mathlib.Core.List.{List, [], ◌∷◌, map}
use native.Mathlib.Omega.{arith}
use lib.Dec.{ltb}
use lib.ListN.{length, set}
use Rattle.maps.specs.Number.{Got, got, refusal, and_then}
use Rattle.maps.specs.Sheet.{Sheet, Node, Difference, Window, box_in}
use Rattle.maps.specs.Limits.{period_range, windows_range}
use Rattle.maps.specs.Form.{Form, done, under, ◌>>=◌, asked, each, times, chain, operand, in_range, read}
use Rattle.maps.specs.Read.{Head, node_of, head_form, node_form, difference_form, Header, header_form, window_form, next_id, cycle_of, cycle_form, sheet_of, sheet_form, Parsed, sheet, refused, whole, parse}
use Rattle.maps.proofs.Forms.{then_same, read-bind, read-each, read-chain}
use Rattle.maps.proofs.Parse.{counted, nodes-few, windows-counted, header-well}
use Rattle.rows.specs.Table.{operand_column, node_row, head_row, difference_row, window_row, store_from, store_rows, store_windows, node_place, operand_place, difference_place, window_place, boxes_in, no_nodes, no_differences, graph_of, differences_of, header_of}
use Rattle.sheet.specs.Answer.{Answer, header, answer_number, answer_place, Tables, tables, read_after}
use Rattle.sheet.specs.Answer as Answers
use Rattle.sheet.specs.Fill.{Filled, filled, got_on, fill_on, repeat_into, operand_into, operands_into, node_into, nodes_into, difference_into, differences_into, windows_into, cycle_into, rows_into, tables_into, read_into}
use Rattle.sheet.proofs.Boxes.{boxes-tabled}

-- a table is filled as a reader reads: both end alike, and where they go on the table is what `put` makes of the value
data Fills {A : Type 0} (put : A → List ℕ) : Got A → Filled → Type 0 where
  went : {a : A} {next : ℕ} → Fills put (got a next) (filled (got tt next) (put a))
  stopped : {k p : ℕ} {g : List ℕ} → Fills put (refusal k p) (filled (refusal k p) g)

-- what is read goes to one row
one-row : {A : Type 0} (row : A → List ℕ) (p : ℕ) (g : List ℕ) (x : Got A)
    → Fills (λ a. store_from g p (row a)) x (fill_on x g (λ a next. filled (got tt next) (store_from g p (row a))))
unfolding got_on
one-row row p g (got a next) = went
one-row row p g (refusal k q) = stopped

fills-map : {A B : Type 0} {put : B → List ℕ} (f : A → B) (x : Got A) (t : Filled) → Fills (λ a. put (f a)) x t
    → Fills put (and_then x (λ a next. got (f a) next)) t
fills-map f (got a next) t went = went
fills-map f (refusal k p) t stopped = stopped

-- row after row
module _ {A : Type 0} (row : A → List ℕ) (place : ℕ → ℕ) (s : List ℕ) (f : ℕ → Form A) (step : ℕ → ℕ → List ℕ → Filled)
    (one : (i at : ℕ) (g : List ℕ) → Fills (λ a. store_from g (place i) (row a)) (read (f i) s at) (step i at g)) where
  all-rows : (n i at : ℕ) (g : List ℕ) → Fills (λ xs. store_rows place g i (map row xs)) (read (each f i n) s at) (repeat_into step n i at g)
  unfolding repeat_into got_on store_rows
  all-rows zero i at g = went
  all-rows (suc n) i at g =
      subst (λ x. Fills (λ xs. store_rows place g i (map row xs)) x (repeat_into step (suc n) i at g)) (sym (read-each f i n s at))
      (go (read (f i) s at) (step i at g) (all-rows n (i + 1)) (one i at g))
    where
      go : (x : Got A) (t : Filled)
          → ((next : ℕ) (h : List ℕ) → Fills (λ xs. store_rows place h (i + 1) (map row xs)) (read (each f (i + 1) n) s next) (repeat_into step n (i + 1) next h))
          → Fills (λ a. store_from g (place i) (row a)) x t
          → Fills (λ xs. store_rows place g i (map row xs))
          (and_then x (λ a next. and_then (read (each f (i + 1) n) s next) (λ rest last. got (a ∷ rest) last)))
          (got_on t.end (λ k p. filled (refusal k p) t.table) (λ u next. repeat_into step n (i + 1) next t.table))
      go (got a next) t rest went = fills-map (λ xs. a ∷ xs) _ _ (rest next (store_from g (place i) (row a)))
      go (refusal k p) t rest stopped = stopped

-- operands, one a row, are stored one after the other
singles : (b i : ℕ) (g us : List ℕ) → store_rows (λ j. b + j) g i (map (λ u. u ∷ []) us) ≡ store_from g (b + i) us
unfolding store_rows store_from
singles b i g [] = refl
singles b i g (u ∷ us) =
    let e : b + (i + 1) ≡ b + i + 1 = omega arith in
    singles b (i + 1) (set g (b + i) u) us ∙ rw e

-- the operands go behind the head
behind : (g : List ℕ) (p : ℕ) (h : Head) (us : List ℕ) → length us ≡ h.count → store_from (store_from g p (head_row h)) (p + operand_column + 0) us ≡ store_from g p (node_row (node_of h us))
unfolding store_from
behind g p h us e =
    let six : p + 1 + 1 + 1 + 1 + 1 + 1 ≡ p + operand_column + 0 = omega arith in
    rw (six, e)

module _ (s : List ℕ) where
  operands-filled : (own base count at : ℕ) (g : List ℕ)
      → Fills (λ us. store_rows (λ j. base + j) g 0 (map (λ u. u ∷ []) us)) (read (times count (asked (under own))) s at) (operands_into s own base count at g)
  operands-filled own base count at g =
      all-rows (λ u. u ∷ []) (λ j. base + j) s (λ i. asked (under own)) (operand_into s own base)
      (λ i at h. unfold operand_into in fills-map (λ u. u) (operand own s at) _ (one-row (λ u. u ∷ []) (base + i) h (operand own s at))) count 0 at g

  -- a node is read as its head and then its operands
  node-read : (top own at : ℕ) → read (node_form top own) s at
      ≡ and_then (read (head_form top) s at) (λ h next. and_then (read (times h.count (asked (under own))) s next) (λ us last. got (node_of h us) last))
  unfolding node_form
  node-read top own at =
      read-bind (head_form top) (λ h. ◌>>=◌ (times h.count (asked (under own))) (λ us. done (node_of h us))) s at
      ∙ then_same (read (head_form top) s at) _ _ (λ h next. read-bind (times h.count (asked (under own))) (λ us. done (node_of h us)) s next)

  node-filled : (top own at : ℕ) (g : List ℕ) → Fills (λ v. store_from g (node_place own) (node_row v)) (read (node_form top own) s at) (node_into s top own at g)
  unfolding node_into got_on
  node-filled top own at g =
      subst (λ x. Fills (λ v. store_from g (node_place own) (node_row v)) x (node_into s top own at g)) (sym (node-read top own at)) (go (read (head_form top) s at))
    where
      tail : (h : Head) (next : ℕ) (x : Got (List ℕ)) (t : Filled) → read (times h.count (asked (under own))) s next ≡ x
          → Fills (λ us. store_rows (λ j. operand_place own + j) (store_from g (node_place own) (head_row h)) 0 (map (λ u. u ∷ []) us)) x t
          → Fills (λ v. store_from g (node_place own) (node_row v)) (and_then x (λ us last. got (node_of h us) last)) t
      tail h next (got us last) t e went =
          subst (λ (l : List ℕ). Fills (λ v. store_from g (node_place own) (node_row v)) (got (node_of h us) last) (filled (got tt last) l))
          (sym (singles (operand_place own) 0 (store_from g (node_place own) (head_row h)) us ∙ behind g (node_place own) h us (counted (λ i. asked (under own)) 0 h.count s next us last e)))
          went
      tail h next (refusal k p) t e stopped = stopped

      go : (x : Got Head) → Fills (λ v. store_from g (node_place own) (node_row v))
          (and_then x (λ h next. and_then (read (times h.count (asked (under own))) s next) (λ us last. got (node_of h us) last)))
          (fill_on x g (λ h next. operands_into s own (operand_place own) h.count next (store_from g (node_place own) (head_row h))))
      go (got h next) = tail h next _ _ refl (operands-filled own (operand_place own) h.count next (store_from g (node_place own) (head_row h)))
      go (refusal k p) = stopped

  nodes-filled : (top n at : ℕ) (g : List ℕ)
      → Fills (λ vs. store_rows node_place g 0 (map node_row vs)) (read (each (node_form top) 0 n) s at) (nodes_into s top n at g)
  nodes-filled top n at g = all-rows node_row node_place s (node_form top) (node_into s top) (λ own at h. node-filled top own at h) n 0 at g

  differences-filled : (n m at : ℕ) (d : List ℕ)
      → Fills (λ ds. store_rows difference_place d 0 (map difference_row ds)) (read (times m (difference_form n)) s at) (differences_into s n m at d)
  differences-filled n m at d =
      all-rows difference_row difference_place s (λ i. difference_form n) (difference_into s n)
      (λ i at h. unfold difference_into in one-row difference_row (difference_place i) h (read (difference_form n) s at)) m 0 at d

  windows-filled : (n : ℕ) (is_box : ℕ → Bool) (p count low at : ℕ) (g : List ℕ)
      → Fills (λ ws. store_windows g ws) (read (chain next_id (window_form n is_box p) low count) s at) (windows_into s n is_box p count low at g)
  unfolding windows_into got_on store_windows
  windows-filled n is_box p zero low at g = went
  windows-filled n is_box p (suc count) low at g =
      subst (λ x. Fills (λ ws. store_windows g ws) x (windows_into s n is_box p (suc count) low at g)) (sym (read-chain next_id (window_form n is_box p) low count s at))
      (go (read (window_form n is_box p low) s at) (λ w. windows-filled n is_box p count (next_id w)))
    where
      go : (x : Got Window)
          → ((w : Window) (next : ℕ) (h : List ℕ) → Fills (λ ws. store_windows h ws) (read (chain next_id (window_form n is_box p) (next_id w) count) s next) (windows_into s n is_box p count (next_id w) next h))
          → Fills (λ ws. store_windows g ws) (and_then x (λ w next. and_then (read (chain next_id (window_form n is_box p) (next_id w) count) s next) (λ rest last. got (w ∷ rest) last)))
          (fill_on x g (λ w next. windows_into s n is_box p count (next_id w) next (store_from g (window_place w.id) (window_row w.from w.to))))
      go (got w next) rest = fills-map (λ ws. w ∷ ws) _ _ (rest w next (store_from g (window_place w.id) (window_row w.from w.to)))
      go (refusal k q) rest = stopped

-- what reading into tables of zeros leaves, against what the definition reads
data Tied : Parsed → Tables → Type 0 where
  some : {S : Sheet} → Tied (sheet S) (tables (header (header_of S) S.period (length S.windows)) (graph_of S) (differences_of S))
  none : {k p : ℕ} {g d : List ℕ} → Tied (refused k p) (tables (Answers.refusal k p) g d)

abbrev nodes_in : List Node → List ℕ
nodes_in vs = store_rows node_place no_nodes 0 (map node_row vs)

abbrev differences_in : List Difference → List ℕ
differences_in ds = store_rows difference_place no_differences 0 (map difference_row ds)

-- a form of two parts and what is made of them
read_made : {A B C : Type 0} (F : Form A) (f : A → B) (g : B → C) (s : List ℕ) (at : ℕ)
    → read (◌>>=◌ (◌>>=◌ F (λ a. done (f a))) (λ b. done (g b))) s at ≡ and_then (read F s at) (λ a last. got (g (f a)) last)
read_made {A} {B} {C} F f g s at =
    read-bind (◌>>=◌ F (λ a. done (f a))) (λ b. done (g b)) s at
    ∙ ap (λ (x : Got B). and_then x (λ b last. got (g b) last)) (read-bind F (λ a. done (f a)) s at)
    ∙ go (read F s at)
  where
    go : (x : Got A) → and_then (and_then x (λ a last. got (f a) last)) (λ b last. got (g b) last) ≡ and_then x (λ a last. got (g (f a)) last)
    go (got a last) = refl
    go (refusal k p) = refl

module _ (s : List ℕ) where
  -- ground 5, or the sheet
  ended : (h : Header) (vs : List Node) (ds : List Difference) (p count : ℕ) (ws : List Window) (last : ℕ)
      → length vs ≡ h.nodes → length ds ≡ h.differences → length ws ≡ count
      → Tied (whole s (got (sheet_of h vs ds (cycle_of p ws)) last))
      (tables (cond (ltb last (length s)) (Answers.refusal 5 last) (header h p count)) (store_windows (nodes_in vs) ws) (differences_in ds))
  unfolding graph_of differences_of
  ended h vs ds p count ws last ev ed ew = go (ltb last (length s))
    where
      S : Sheet
      S = sheet_of h vs ds (cycle_of p ws)

      same : header (header_of S) p (length ws) ≡ header h p count
      same = λ i. header (record { leaves = h.leaves; top = h.top; horizon = h.horizon; nodes = ev i; differences = ed i }) p (ew i)

      go : (b : Bool) → Tied (cond b (refused 5 last) (sheet S)) (tables (cond b (Answers.refusal 5 last) (header h p count)) (store_windows (nodes_in vs) ws) (differences_in ds))
      go true = none
      go false = subst (λ (a : Answer). Tied (sheet S) (tables a (graph_of S) (differences_of S))) same some

  -- the period, the count and the entries
  abbrev cycled : (h : Header) → List Node → List Difference → (is_box : ℕ → Bool) → (at : ℕ) → Got Sheet
  cycled h vs ds is_box at =
      and_then (in_range period_range s at) (λ p next.
      and_then (in_range (windows_range h.nodes) s next) (λ count first.
      and_then (read (chain next_id (window_form h.nodes is_box p) 0 count) s first) (λ ws last. got (sheet_of h vs ds (cycle_of p ws)) last)))

  module _ (h : Header) (some-nodes : 1 ≤ h.nodes) where
    after-count : (vs : List Node) (ds : List Difference) (is_box : ℕ → Bool) (p count first : ℕ) → length vs ≡ h.nodes → length ds ≡ h.differences
        → (x : Got (List Window)) (t : Filled) → read (chain next_id (window_form h.nodes is_box p) 0 count) s first ≡ x
        → Fills (λ ws. store_windows (nodes_in vs) ws) x t
        → Tied (whole s (and_then x (λ ws last. got (sheet_of h vs ds (cycle_of p ws)) last)))
        (got_on t.end (λ k q. tables (Answers.refusal k q) t.table (differences_in ds))
        (λ u last. tables (cond (ltb last (length s)) (Answers.refusal 5 last) (header h p count)) t.table (differences_in ds)))
    unfolding got_on
    after-count vs ds is_box p count first ev ed (got ws last) t e went =
        ended h vs ds p count ws last ev ed (windows-counted h.nodes is_box p 0 s first some-nodes count ws last e)
    after-count vs ds is_box p count first ev ed (refusal k q) t e stopped = none

    after-differences : (vs : List Node) (ds : List Difference) (at : ℕ) → length vs ≡ h.nodes → length ds ≡ h.differences
        → Tied (whole s (cycled h vs ds (boxes_in (nodes_in vs)) at)) (cycle_into s h at (nodes_in vs) (differences_in ds))
    unfolding got_on cycle_into
    after-differences vs ds at ev ed = go (in_range period_range s at)
      where
        is_box : ℕ → Bool
        is_box = boxes_in (nodes_in vs)

        counted-on : (p : ℕ) (x : Got ℕ) → Tied
            (whole s (and_then x (λ count first. and_then (read (chain next_id (window_form h.nodes is_box p) 0 count) s first) (λ ws last. got (sheet_of h vs ds (cycle_of p ws)) last))))
            (got_on x (λ k q. tables (Answers.refusal k q) (nodes_in vs) (differences_in ds)) (λ count first.
            got_on (windows_into s h.nodes is_box p count 0 first (nodes_in vs)).end
            (λ k q. tables (Answers.refusal k q) (windows_into s h.nodes is_box p count 0 first (nodes_in vs)).table (differences_in ds)) (λ u last.
            tables (cond (ltb last (length s)) (Answers.refusal 5 last) (header h p count)) (windows_into s h.nodes is_box p count 0 first (nodes_in vs)).table (differences_in ds))))
        counted-on p (got count first) =
            after-count vs ds is_box p count first ev ed _ _ refl (windows-filled s h.nodes is_box p count 0 first (nodes_in vs))
        counted-on p (refusal k q) = none

        go : (x : Got ℕ) → Tied
            (whole s (and_then x (λ p next. and_then (in_range (windows_range h.nodes) s next) (λ count first.
            and_then (read (chain next_id (window_form h.nodes is_box p) 0 count) s first) (λ ws last. got (sheet_of h vs ds (cycle_of p ws)) last)))))
            (got_on x (λ k q. tables (Answers.refusal k q) (nodes_in vs) (differences_in ds)) (λ p next.
            got_on (in_range (windows_range h.nodes) s next) (λ k q. tables (Answers.refusal k q) (nodes_in vs) (differences_in ds)) (λ count first.
            got_on (windows_into s h.nodes is_box p count 0 first (nodes_in vs)).end
            (λ k q. tables (Answers.refusal k q) (windows_into s h.nodes is_box p count 0 first (nodes_in vs)).table (differences_in ds)) (λ u last.
            tables (cond (ltb last (length s)) (Answers.refusal 5 last) (header h p count)) (windows_into s h.nodes is_box p count 0 first (nodes_in vs)).table (differences_in ds)))))
        go (got p next) = counted-on p (in_range (windows_range h.nodes) s next)
        go (refusal k q) = none

    after-nodes : (vs : List Node) (next : ℕ) → length vs ≡ h.nodes → boxes_in (nodes_in vs) ≡ box_in vs → (x : Got (List Difference)) (t : Filled)
        → read (times h.differences (difference_form h.nodes)) s next ≡ x
        → Fills (λ ds. differences_in ds) x t
        → Tied (whole s (and_then x (λ ds last. cycled h vs ds (box_in vs) last)))
        (got_on t.end (λ k p. tables (Answers.refusal k p) (nodes_in vs) t.table) (λ w last. cycle_into s h last (nodes_in vs) t.table))
    unfolding got_on
    after-nodes vs next ev boxes (got ds last) t e went =
        subst (λ (is_box : ℕ → Bool). Tied (whole s (cycled h vs ds is_box last)) (cycle_into s h last (nodes_in vs) (differences_in ds))) boxes
        (after-differences vs ds last ev (counted _ _ _ s next ds last e))
    after-nodes vs next ev boxes (refusal k p) t e stopped = none

    after-header : (at : ℕ) → h.nodes ≤ 256 → (x : Got (List Node)) (t : Filled) → read (each (node_form h.top) 0 h.nodes) s at ≡ x
        → Fills (λ vs. nodes_in vs) x t
        → Tied (whole s (and_then x (λ vs next. and_then (read (times h.differences (difference_form h.nodes)) s next) (λ ds last. cycled h vs ds (box_in vs) last))))
        (got_on t.end (λ k p. tables (Answers.refusal k p) t.table no_differences) (λ u next.
        got_on (differences_into s h.nodes h.differences next no_differences).end
        (λ k p. tables (Answers.refusal k p) t.table (differences_into s h.nodes h.differences next no_differences).table)
        (λ w last. cycle_into s h last t.table (differences_into s h.nodes h.differences next no_differences).table)))
    unfolding got_on
    after-header at most (got vs next) t e went =
        let ev = counted _ _ _ s at vs next e in
        after-nodes vs next ev (boxes-tabled vs (nodes-few h.top h.nodes s at vs next e) (omega arith)) _ _ refl
        (differences-filled s h.nodes h.differences next no_differences)
    after-header at most (refusal k p) t e stopped = none

  -- a sheet is read as its header, its nodes, its differences, and its period and entries
  sheet-read : read sheet_form s 0
      ≡ and_then (read header_form s 0) (λ h at.
      and_then (read (each (node_form h.top) 0 h.nodes) s at) (λ vs next.
      and_then (read (times h.differences (difference_form h.nodes)) s next) (λ ds last. cycled h vs ds (box_in vs) last)))
  unfolding sheet_form cycle_form
  sheet-read =
      let last : Header → List Node → List Difference → Form Sheet = λ h vs ds. ◌>>=◌ (cycle_form h.nodes (box_in vs)) (λ c. done (sheet_of h vs ds c)) in
      let rest : Header → List Node → Form Sheet = λ h vs. ◌>>=◌ (times h.differences (difference_form h.nodes)) (last h vs) in
      read-bind header_form (λ h. ◌>>=◌ (each (node_form h.top) 0 h.nodes) (rest h)) s 0
      ∙ then_same (read header_form s 0) _ _ (λ h at.
      read-bind (each (node_form h.top) 0 h.nodes) (rest h) s at
      ∙ then_same (read (each (node_form h.top) 0 h.nodes) s at) _ _ (λ vs next.
      read-bind (times h.differences (difference_form h.nodes)) (last h vs) s next
      ∙ then_same (read (times h.differences (difference_form h.nodes)) s next) _ _ (λ ds end.
      then_same (in_range period_range s end) _ _ (λ p then.
      then_same (in_range (windows_range h.nodes) s then) _ _ (λ count first.
      read_made (chain next_id (window_form h.nodes (box_in vs) p) 0 count) (cycle_of p) (sheet_of h vs ds) s first)))))

  tied : Tied (parse s) (read_into s)
  unfolding parse tables_into got_on
  tied = subst (λ x. Tied (whole s x) (read_into s)) (sym sheet-read) (go (read header_form s 0) refl)
    where
      go : (x : Got Header) → read header_form s 0 ≡ x → Tied
          (whole s (and_then x (λ h at. and_then (read (each (node_form h.top) 0 h.nodes) s at) (λ vs next.
          and_then (read (times h.differences (difference_form h.nodes)) s next) (λ ds last. cycled h vs ds (box_in vs) last)))))
          (got_on x (λ k p. tables (Answers.refusal k p) no_nodes no_differences) (λ h at. rows_into s h at no_nodes no_differences))
      go (got h at) e =
          let w = header-well s 0 h at e in
          unfold rows_into in after-header h w.nodes.least at w.nodes.most _ _ refl (nodes-filled s h.top h.nodes at no_nodes)
      go (refusal k p) e = none

  -- the answer was a header: the tables are the sheet's
  pub read_whole : (a : Answer) (g d : List ℕ) → tables a g d ≡ read_into s → (h : Header) (p w : ℕ) → a ≡ header h p w
      → (g₀ d₀ : List ℕ) → tables a g d ≡ read_after (parse s) g₀ d₀
  read_whole a g d e h p w q g₀ d₀ = go (parse s) (read_into s) tied e
    where
      go : (x : Parsed) (t : Tables) → Tied x t → tables a g d ≡ t → tables a g d ≡ read_after x g₀ d₀
      go (sheet S) t some f = f
      go (refused k r) t none f = let z : ◌≡◌ {A = ℕ} 0 1 = cc (ap (λ (t : Tables). t.answer) f) in absurd (omega arith)

  -- the answer was a refusal: it is the definition's
  pub read-refused : (a : Answer) (g d : List ℕ) → tables a g d ≡ read_into s → (k p : ℕ) → a ≡ Answers.refusal k p
      → (g₀ d₀ : List ℕ) → tables a g₀ d₀ ≡ read_after (parse s) g₀ d₀
  read-refused a g d e k p q g₀ d₀ = go (parse s) (read_into s) tied e
    where
      go : (x : Parsed) (t : Tables) → Tied x t → tables a g d ≡ t → tables a g₀ d₀ ≡ read_after x g₀ d₀
      go (sheet S) t some f = let z : ◌≡◌ {A = ℕ} 0 1 = cc (ap (λ (t : Tables). t.answer) f) in absurd (omega arith)
      go (refused j r) t none f = ap (λ (b : Answer). tables b g₀ d₀) (ap (λ (t : Tables). t.answer) f)

-- equal answers and tables, part by part
pub exported : (a : Answer) (g d : List ℕ) (t : Tables) → tables a g d ≡ t
    → (answer_number a ≡ answer_number t.answer) × (answer_place a ≡ answer_place t.answer) × (g ≡ t.graph) × (d ≡ t.differences)
exported a g d t e = (
  ap (λ (x : Tables). answer_number x.answer) e,
  ap (λ (x : Tables). answer_place x.answer) e,
  ap (λ (x : Tables). x.graph) e,
  ap (λ (x : Tables). x.differences) e,
)
