-- Whether a name is in a table, by whether it has an id.
use Prim.Native.Nat.{ℕ, ◌<◌}
use mathlib.Core.Path.{◌≡◌, ◌∙◌}
use native.Mathlib.Omega.{arith}
use Rattle.std.specs.Prelude.{Option, Some, None, IfSome, is_some, unwrap_or}
use lib.ListN.{length}
use borrow.Author.Tests.{lt-ltb, le-ltb}
use Rattle.blif.specs.Words.{Word}
use Rattle.blif.specs.Names.{has}
use Rattle.blif.specs.Import.{id_of}
use Rattle.names.specs.Table.{names_in}
use Rattle.names.specs.declared.Names.{Names}
use Rattle.names.proofs.Ids.{has-id}
use Rattle.names.proofs.Tables.{length-names}

pub in_table : (table : Names) (n : ℕ) (w : Word) (id : Option ℕ) → unwrap_or id n ≡ id_of (names_in table n) w → IfSome id (λ i. i < n) → has (names_in table n) w ≡ is_some id
in_table table n w (Some i) e l = has-id (names_in table n) w ∙ lt-ltb (id_of (names_in table n) w) (length (names_in table n)) (omega (arith, l, e, length-names table n))
in_table table n w None e l = has-id (names_in table n) w ∙ le-ltb (id_of (names_in table n) w) (length (names_in table n)) (omega (arith, e, length-names table n))
