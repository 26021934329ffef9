-- What the code's types mean in terms of the subset.
use Rattle.std.specs.Prelude.{ℕ, ◌+◌, ◌≤◌, ◌≡◌, List, [], ◌⊎◌, leb, length, get_or, take, drop}
use Rattle.maps.specs.Limits.{operands_most}
use Rattle.blif.specs.Words.{Word}
use Rattle.blif.specs.Subset as Subset
use Rattle.blif.specs.Subset.{first, head, cover, latched, last, model, inputs, outputs, row, latch, end, outside, names_line}
use Rattle.blif.specs.Names.{defined, names_of, reads_of}
use Rattle.blif.specs.Limits.{named, few_operands}
use Rattle.subset.specs.declared.Stage.{Stage}
use Rattle.subset.specs.declared.Stage.TheVariants.{First, Head, Cover, Latched, Last}
use Rattle.subset.specs.declared.Statement.{Statement}
use Rattle.subset.specs.declared.Statement.TheVariants.{Model, Inputs, Outputs, Names, Row, Latch, End, Outside}
use Rattle.subset.specs.declared.Parts.{Parts}

abbrev pub stage_meant : Stage → Subset.Stage
stage_meant First = first
stage_meant Head = head
stage_meant (Cover n) = cover n
stage_meant Latched = latched
stage_meant Last = last

-- a statement with the words after its line's first
abbrev pub statement_meant : Statement → (ws : List Word) → Subset.Statement
statement_meant Model ws = model (get_or ws 0 [])
statement_meant Inputs ws = inputs ws
statement_meant Outputs ws = outputs ws
statement_meant Names ws = names_line ws
statement_meant Row ws = row
statement_meant Latch ws = latch (get_or ws 0 []) (get_or ws 1 [])
statement_meant End ws = end
statement_meant Outside ws = outside

-- a line that is this statement has so many words after its first
abbrev pub Shaped : Statement → (count : ℕ) → Type 0
Shaped Model count = count ≡ 1
Shaped Inputs count = Unit {0}
Shaped Outputs count = Unit {0}
Shaped Names count = 1 ≤ count
Shaped Row count = Unit {0}
Shaped Latch count = 2 ≤ count
Shaped End count = Unit {0}
Shaped Outside count = Unit {0}

-- the names that a line reads, then those that it defines, and all its names, as parts of its words after the first;
-- where it defines more than one, its words end with these
pub record PartsOf (s : Subset.Statement) (ws : List Word) (p : Parts) : Type 0 where
  pub reads : reads_of (defined s) ≡ take p.reads ws
  pub defines : names_of (defined s) ≡ take p.defines (drop p.reads ws)
  pub names : named s ≡ take p.names ws
  pub few : few_operands s ≡ leb p.reads operands_most
  pub enough : p.reads + p.defines ≤ length ws
  pub named-enough : p.names ≤ length ws
  pub count : length (defined s) ≡ p.defines
  pub alone : (p.defines ≤ 1) ⊎ (p.reads + p.defines ≡ length ws)
