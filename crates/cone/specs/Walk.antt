-- The cone of a node inside marked nodes, and what the test of its cut says.
use Rattle.std.specs.Prelude.{ℕ, ◌+◌, ◌≤◌, ◌<◌, min, ◌≡◌, Bool, true, false, List, ◌⊎◌, length, get_or, take}
use Rattle.maps.specs.Sheet.{Sheet, size}
use Rattle.maps.specs.Cut.{reads, logic_node, Cone, cut}
use Rattle.rows.specs.Table.{Tabled}

-- u is marked; past the end of the table no node is
abbrev pub marked : (marks : List Bool) → ℕ → Bool
marked marks u = get_or marks u false

-- C is the cone of v inside the marks: v, and every marked node that has a path to v inside C
pub record ConeInside (S : Sheet) (marked : ℕ → Bool) (v : ℕ) (C : ℕ → Bool) : Type 0 where
  pub is_cone : Cone S v C
  pub inside : (u : ℕ) → C u ≡ true → (u ≡ v) ⊎ (marked u ≡ true)
  pub whole : (m u : ℕ) → C m ≡ true → reads S m u ≡ true → marked u ≡ true → C u ≡ true

-- what the test is asked: v is a logic node of the sheet in the table g, and only logic nodes are marked
pub record Question (S : Sheet) (g : List ℕ) (marks : List Bool) (v : ℕ) : Type 0 where
  pub tabled : Tabled S g
  pub within : v < size S
  pub logic : logic_node S v ≡ true
  pub logics : (u : ℕ) → marked marks u ≡ true → logic_node S u ≡ true

-- what its answer r says, with a list of ids: r is the number of leaves of the cone's cut, or k + 1 where it has more than k;
-- where it has at most k, the list begins with them, ascending
pub record FitTest (S : Sheet) (marked : ℕ → Bool) (v k r : ℕ) (list : List ℕ) : Type 0 where
  pub cone : ℕ → Bool
  pub is_cone : ConeInside S marked v cone
  pub count : r ≡ min (length (cut S cone)) (k + 1)
  pub leaves : r ≤ k → take r list ≡ cut S cone
