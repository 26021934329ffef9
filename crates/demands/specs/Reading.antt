-- What a call that reads a sheet into two tables promises: the tables as they were lent and as they are after it, and the number and place that
-- are answered.
use Rattle.std.specs.Prelude.{ℕ, ◌≤◌, ◌≡◌, List, ◌⊎◌}
use Rattle.maps.specs.Sheet.{Sheet}
use Rattle.maps.specs.Reading.{ReadsAs, Refuses}
use Rattle.rows.specs.Table.{Tabled, Listed, graph_of, differences_of}

module _ (bytes graph differences : List ℕ) (number place : ℕ) (graph' differences' : List ℕ) where
  -- a sheet that reads is accepted, and its nodes and differences stand in the tables
  pub record Stored (S : Sheet) : Type 0 where
    pub number_is : number ≡ 0
    pub place_is : place ≡ 0
    pub nodes : Tabled S graph'
    pub rows : Listed S differences'
    pub graph_is : graph' ≡ graph_of S
    pub differences-is : differences' ≡ differences_of S

  -- grounds 1 to 5, with their places, and no number of the tables changes
  pub record Rejected (k p : ℕ) : Type 0 where
    pub ground_is : (1 ≤ k) × (k ≤ 5)
    pub number_is : number ≡ k
    pub place_is : place ≡ p
    pub graph-kept : graph' ≡ graph
    pub differences-kept : differences' ≡ differences

  pub record Reads : Type 0 where
    pub stored : (S : Sheet) → ReadsAs bytes S → Stored S
    pub rejected : (k p : ℕ) → Refuses bytes k p → Rejected k p
    pub either : ((S : Sheet) × ReadsAs bytes S) ⊎ ((k : ℕ) × (p : ℕ) × Refuses bytes k p)
