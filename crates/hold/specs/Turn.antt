-- In which order the nodes have their turn.
use Rattle.std.specs.Prelude.{ℕ, ◌-◌}
use Rattle.hold.specs.declared.Order.{Order}
use Rattle.hold.specs.declared.Order.TheVariants.{Rising, Falling}

-- the id of the node whose turn comes after i of n
abbrev pub turn_of : Order → (i n : ℕ) → ℕ
turn_of Rising i n = i
turn_of Falling i n = n - 1 - i
