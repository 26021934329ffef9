-- Document 02, U3, limits. Ground 11: "a limit (256 nodes, 6 operands, names of 31 bytes, d above T, caller's numbers out of range)".
use Rattle.std.specs.Prelude.{ℕ, ◌+◌, ◌-◌, ◌/◌, Bool, true, ◌&&◌, List, [], ◌∷◌, ◌++◌, leb, length}
use Rattle.maps.specs.Lists.{all}
use Rattle.maps.specs.Limits.{leaves_range, top_range, horizon_range, size_range, operands_most}
use Rattle.maps.specs.Form.{among, passes}
use Rattle.blif.specs.Words.{Word}
use Rattle.blif.specs.Subset.{Statement, model, inputs, outputs, names, row, latch, end, outside}
use Rattle.blif.specs.Names.{defined}

-- "names of 31 bytes"
abbrev pub name_most : ℕ
name_most = 31

-- every name on a line, the model's too
abbrev pub named : Statement → List Word
named (model n) = n ∷ []
named (inputs ns) = ns
named (outputs ns) = ns
named (names us o) = us ++ (o ∷ [])
named row = []
named (latch i o) = i ∷ o ∷ []
named end = []
named outside = []

-- "6 operands", as listed: repeated ones count each time
abbrev pub few_operands : Statement → Bool
few_operands (model n) = true
few_operands (inputs ns) = true
few_operands (outputs ns) = true
few_operands (names us o) = leb (length us) operands_most
few_operands row = true
few_operands (latch i o) = true
few_operands end = true
few_operands outside = true

-- "A model without nodes is 11 at `.end`"
abbrev pub some_nodes : (nodes : ℕ) → Statement → Bool
some_nodes n (model m) = true
some_nodes n (inputs ns) = true
some_nodes n (outputs ns) = true
some_nodes n (names us o) = true
some_nodes n row = true
some_nodes n (latch i o) = true
some_nodes n end = leb size_range.low n
some_nodes n outside = true

-- whether a line keeps the limits where so many nodes stand before it: "names of 31 bytes", "6 operands", "256 nodes"
abbrev pub within_limits : (nodes : ℕ) → Statement → Bool
within_limits n s = all (λ w. leb (length w) name_most) (named s) && few_operands s && leb (n + length (defined s)) size_range.high && some_nodes n s

-- "The caller gives K, T, H, a table's picoseconds and a level's picoseconds"
pub record Caller : Type 0 where
  pub leaves : ℕ
  pub top : ℕ
  pub horizon : ℕ
  pub table : ℕ
  pub level : ℕ

abbrev pub caller : (leaves top horizon table level : ℕ) → Caller
caller k t h table level = record { leaves = k; top = t; horizon = h; table = table; level = level }

-- "d is the quotient rounded up"
abbrev pub delay_of : (table level : ℕ) → ℕ
delay_of table level = (table + (level - 1)) / level

abbrev pub delay : Caller → ℕ
delay c = delay_of c.table c.level

-- "caller's numbers out of range", "both at least 1", "d above T"
abbrev pub callable : Caller → Bool
callable c =
    passes (among leaves_range) c.leaves && passes (among top_range) c.top && passes (among horizon_range) c.horizon
    && leb 1 c.table && leb 1 c.level && leb (delay c) c.top

-- "one model of at most 65,536 bytes"
abbrev pub text_most : ℕ
text_most = 65536

abbrev pub short : (text : List ℕ) → Bool
short text = leb (length text) text_most
