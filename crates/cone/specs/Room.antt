-- Why a count of operands fits its number: each node that is met is met once, and has at most six operands.
use Rattle.std.specs.Prelude.{ℕ, ◌+◌, ◌*◌, Bool, true, false, List, count_by}
use Rattle.maps.specs.Limits.{operands_most}
use Rattle.cone.specs.declared.Part.{Part}
use Rattle.cone.specs.declared.Part.TheVariants.{Unmet, Member, Leaf}

abbrev pub is_unmet : Part → Bool
is_unmet Unmet = true
is_unmet Member = false
is_unmet Leaf = false

-- the operands that a walk can have looked at in the end: those so far, and those of every node that is not met
abbrev pub in_end : (looks : ℕ) → (part : List Part) → ℕ
in_end looks part = looks + operands_most * count_by is_unmet part

-- the operands of 256 nodes
abbrev pub looks_most : ℕ
looks_most = operands_most * 256
