-- Reading into a table, step by step as the code does it: how it ends, and the table then, also where it is refused on the way.
use Prim.Native.Nat.{ℕ, zero, suc, ◌+◌}
use Rattle.std.specs.Prelude.{Bool, cond, List, [], ◌∷◌, ltb, length}
use Rattle.maps.specs.Number.{Got, got, refusal}
use Rattle.maps.specs.Form.{operand, in_range, read}
use Rattle.maps.specs.Read.{Header, head_form, difference_form, header_form, window_form, next_id}
use Rattle.maps.specs.Limits.{period_range, windows_range}
use Rattle.rows.specs.Table.{store_from, head_row, difference_row, window_row, node_place, operand_place, window_place, difference_place, boxes_in, no_nodes, no_differences}
use Rattle.sheet.specs.Answer.{header, Tables, tables}
use Rattle.sheet.specs.Answer as Answers

pub record Filled : Type 0 where
  pub end : Got (Unit {0})
  pub table : List ℕ

abbrev pub filled : Got (Unit {0}) → List ℕ → Filled
filled e g = record { end = e; table = g }

-- after what was read, on with k; after a refusal, what `stop` gives
unfoldable pub got_on : {A B : Type 0} → Got A → (stop : ℕ → ℕ → B) → (k : A → ℕ → B) → B
got_on (got a next) stop k = k a next
got_on (refusal j p) stop k = stop j p

-- the same where a table is filled: a refusal leaves the table g
abbrev pub fill_on : {A : Type 0} → Got A → List ℕ → (A → ℕ → Filled) → Filled
fill_on x g k = got_on x (λ j p. filled (refusal j p) g) k

-- `step` at i, i + 1, .., n times, each from where the one before ended
unfoldable pub repeat_into : (step : ℕ → ℕ → List ℕ → Filled) → (n i at : ℕ) → List ℕ → Filled
unfolding got_on
repeat_into step zero i at g = filled (got tt at) g
repeat_into step (suc n) i at g = fill_on (step i at g).end (step i at g).table (λ u next. repeat_into step n (i + 1) next (step i at g).table)

module _ (s : List ℕ) where
  -- the operand i of the node own goes to base + i
  unfoldable pub operand_into : (own base i at : ℕ) → List ℕ → Filled
  unfolding got_on store_from
  operand_into own base i at g = fill_on (operand own s at) g (λ u next. filled (got tt next) (store_from g (base + i) (u ∷ [])))

  abbrev pub operands_into : (own base count at : ℕ) → List ℕ → Filled
  operands_into own base count at g = repeat_into (operand_into own base) count 0 at g

  -- the node own goes to its row
  unfoldable pub node_into : (top own at : ℕ) → List ℕ → Filled
  unfolding got_on store_from
  node_into top own at g =
      fill_on (read (head_form top) s at) g (λ h next. operands_into own (operand_place own) h.count next (store_from g (node_place own) (head_row h)))

  abbrev pub nodes_into : (top n at : ℕ) → List ℕ → Filled
  nodes_into top n at g = repeat_into (node_into top) n 0 at g

  -- the difference i goes to its row
  unfoldable pub difference_into : (n i at : ℕ) → List ℕ → Filled
  unfolding got_on store_from
  difference_into n i at g =
      fill_on (read (difference_form n) s at) g (λ d next. filled (got tt next) (store_from g (difference_place i) (difference_row d)))

  abbrev pub differences_into : (n m at : ℕ) → List ℕ → Filled
  differences_into n m at g = repeat_into (difference_into n) m 0 at g

  -- document 02, U8: count entries from the id low on, "in rising id order", each to the row of its node
  unfoldable pub windows_into : (n : ℕ) → (is_box : ℕ → Bool) → (period count low at : ℕ) → List ℕ → Filled
  unfolding got_on store_from
  windows_into n is_box p zero low at g = filled (got tt at) g
  windows_into n is_box p (suc count) low at g =
      fill_on (read (window_form n is_box p low) s at) g (λ w next.
      windows_into n is_box p count (next_id w) next (store_from g (window_place w.id) (window_row w.from w.to)))

  -- "a period P .., a count .., and that many entries" of a sheet whose nodes the table g holds, and nothing after them
  unfoldable pub cycle_into : Header → (at : ℕ) → (graph differences : List ℕ) → Tables
  unfolding got_on windows_into
  cycle_into h at g d =
      got_on (in_range period_range s at) (λ k p. tables (Answers.refusal k p) g d) (λ period next.
      got_on (in_range (windows_range h.nodes) s next) (λ k p. tables (Answers.refusal k p) g d) (λ count first.
      let ws = windows_into h.nodes (boxes_in g) period count 0 first g in
      got_on ws.end (λ k p. tables (Answers.refusal k p) ws.table d) (λ u last.
      tables (cond (ltb last (length s)) (Answers.refusal 5 last) (header h period count)) ws.table d)))

  -- the nodes and the differences of a sheet into two tables, and then its period and entries
  unfoldable pub rows_into : Header → (at : ℕ) → (graph differences : List ℕ) → Tables
  unfolding got_on cycle_into
  rows_into h at g d =
      let ns = nodes_into h.top h.nodes at g in
      got_on ns.end (λ k p. tables (Answers.refusal k p) ns.table d) (λ u next.
      let ds = differences_into h.nodes h.differences next d in
      got_on ds.end (λ k p. tables (Answers.refusal k p) ns.table ds.table) (λ w last.
      cycle_into h last ns.table ds.table))

  -- a whole sheet into two tables
  unfoldable pub tables_into : (graph differences : List ℕ) → Tables
  unfolding got_on rows_into
  tables_into g d = got_on (read header_form s 0) (λ k p. tables (Answers.refusal k p) g d) (λ h at. rows_into h at g d)

  -- the same into tables without a row
  abbrev pub read_into : Tables
  read_into = tables_into no_nodes no_differences
