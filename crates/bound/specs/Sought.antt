-- What is said of a search.
use Rattle.std.specs.Prelude.{List, ℕ}
use Rattle.rows.specs.declared.Header as R
use Rattle.bound.specs.declared.asked.Search.{Search}

-- P of the tables, the limits and the lists of a search
abbrev pub of_search : {A : Type 1} → ((graph differences : List ℕ) → R.Header → (first next : List ℕ) → A) → Search → A
of_search P search = P search.tables.now.graph search.tables.now.differences search.limits search.first.now search.next.now
