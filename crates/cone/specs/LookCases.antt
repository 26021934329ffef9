-- The order in which operands are looked at and where that ends, computed on the graph of document 01's hall sheet.
use Rattle.std.specs.Prelude.{◌≡◌, refl, false, List, [], ◌∷◌, ℕ}
use Rattle.std.proofs.Common.{arith}
use Rattle.maps.specs.Sheet.{Sheet, Node, Kind, input, logic}
use Rattle.maps.specs.Cut.{logic_node}
use Rattle.cone.specs.Looks.{looks, leaves_met, all, wide, LookedAt, operands_of}

abbrev node : Kind → List ℕ → Node
node k us = record { kind = k; output = false; delay = 1; operands = us }

abbrev hall : Sheet
hall =
    record {
      leaves = 3;
      top = 2;
      horizon = 4;
      nodes = node input [] ∷ node input [] ∷ node input [] ∷ node logic (0 ∷ 1 ∷ []) ∷ node logic (3 ∷ 2 ∷ []) ∷ node logic (4 ∷ 3 ∷ []) ∷ [];
      differences = [];
      period = 1;
      windows = [];
    }

-- all logic nodes inside: 4, then its own operands, 3 with 0 and 1, and 2; then 3, which is met before
all-inside : looks hall (logic_node hall) 5 ≡ 4 ∷ 3 ∷ 0 ∷ 1 ∷ 2 ∷ 3 ∷ []
unfolding looks
all-inside = refl

-- none inside but 5
own-operands : looks hall (λ u. false) 5 ≡ 4 ∷ 3 ∷ []
unfolding looks
own-operands = refl

-- three leaves fit where K = 3, and all six operands of the cone are looked at
fits : LookedAt hall (logic_node hall) 5 3 6
unfolding looks leaves_met
fits = record { operands = 4 ∷ 3 ∷ 0 ∷ 1 ∷ 2 ∷ 3 ∷ []; stops = all refl (omega arith); count = refl }

-- where K = 2, node 2 is the third leaf, and the fifth and last operand that is looked at
too_wide : LookedAt hall (logic_node hall) 5 2 5
unfolding looks leaves_met
too_wide = record { operands = 4 ∷ 3 ∷ 0 ∷ 1 ∷ 2 ∷ []; stops = wide (4 ∷ 3 ∷ 0 ∷ 1 ∷ []) 2 (3 ∷ []) refl refl refl refl; count = refl }

members-operands : operands_of hall (logic_node hall) 6 ≡ 6
members-operands = refl
