-- The ground on which a line is faulty, as a number of the document, 0 where it is not faulty.
use Rattle.std.specs.Prelude.{ℕ, cond, not, List, Result, Ok, Err}
use Rattle.blif.specs.Words.{Word}
use Rattle.blif.specs.Subset.{Statement}
use Rattle.blif.specs.Names.{defined, resolves}
use Rattle.blif.specs.Limits.{within_limits}
use Rattle.blif.specs.Model.{is_outside}
use Rattle.grounds.specs.declared.Ground.{Ground}
use Rattle.grounds.specs.declared.Ground.TheVariants.{Subset, Name, Limit}

abbrev pub ground_number : Result (Unit {0}) Ground → ℕ
ground_number (Ok _) = 0
ground_number (Err Subset) = 9
ground_number (Err Name) = 10
ground_number (Err Limit) = 11

-- `fault`, of the names and the count of the nodes so far
abbrev pub fault_after : (names : List Word) → (nodes : ℕ) → Statement → ℕ
fault_after ns n s = cond (is_outside s) 9 (cond (not (resolves ns (defined s))) 10 (cond (within_limits n s) 0 11))
