-- A question about logic node v: which cones have all their leaves among the allowed nodes. Document 01's cones and cuts, every one of them.
use Rattle.std.specs.Prelude.{ℕ, ◌+◌, ◌≤◌, ◌<◌, ◌≡◌, Bool, true, false, List, ◌⊎◌, length, get_or}
use Rattle.maps.specs.Lists.{All, before}
use Rattle.maps.specs.Sheet.{Sheet, size}
use Rattle.maps.specs.Cut.{Cone, cut, logic_node}
use Rattle.maps.specs.WellFormed.{WellFormed}
use Rattle.rows.specs.Table.{Tabled}
use Rattle.flow.specs.declared.Code.{Code}
use Rattle.flow.specs.declared.Code.TheVariants.{Inner, Either, Outer, Barred}

module _ (S : Sheet) (may : ℕ → Bool) (v : ℕ) where
  -- the cut of a cone of v whose leaves are all allowed
  pub record AllowedCut (c : List ℕ) : Type 0 where
    pub cone : ℕ → Bool
    pub is_cone : Cone S v cone
    pub is_cut : c ≡ cut S cone
    pub allowed : All (λ u. may u ≡ true) c

  -- r is the least number of leaves of an allowed cut; or r is k + 1, and every allowed cut has more than k
  pub record Fewest (k r : ℕ) : Type 0 where
    pub most : r ≤ k + 1
    pub met : r ≤ k → (c : List ℕ) × AllowedCut c × (length c ≡ r)
    pub least : (c : List ℕ) → AllowedCut c → r ≤ length c

  -- the chosen one: fewest leaves, then the smaller id at the first difference
  pub record Best (c : List ℕ) : Type 0 where
    pub is_allowed : AllowedCut c
    pub fewest : (o : List ℕ) → AllowedCut o → length c ≤ length o
    pub first : (o : List ℕ) → AllowedCut o → length o ≡ length c → (c ≡ o) ⊎ (before c o ≡ true)

-- the code of a node: logic may be inside, and a node that may be a leaf is allowed as one
abbrev pub code_for : (logic may : Bool) → Code
code_for true false = Inner
code_for true true = Either
code_for false true = Outer
code_for false false = Barred

-- the tables ask about v: the graph is the sheet's, and the codes are those of the allowed nodes
pub record Asked (S : Sheet) (may : ℕ → Bool) (v : ℕ) (graph : List ℕ) (code : List Code) : Type 0 where
  pub well : WellFormed S
  pub tabled : Tabled S graph
  pub node : v < size S
  pub logic : logic_node S v ≡ true
  pub below : (u : ℕ) → u < v → get_or code u Inner ≡ code_for (logic_node S u) (may u)
  pub own : get_or code v Inner ≡ Inner
