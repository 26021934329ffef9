use Prim.Native.Nat.{◌+◌}
use mathlib.Core.Path.{◌≡◌}
use mathlib.Core.Bool.{true}
use mathlib.Core.List.{List, ◌++◌}
use lib.ListN.{take, drop}
use Rattle.blif.specs.Scan.{words_at}
use Rattle.blif.specs.Names.{Definition, inputs_of, names_of, fresh}
use Rattle.definitions.specs.Kept.{KeptIn}
use Rattle.definitions.proofs.keep_inputs.Given as goal

abbrev pub invariant-loop : goal.invariant-loop
invariant-loop l =
    (words_at l.text l.at ≡ drop l.counter (words_at l.text l.start))
    × ((ds : List Definition) → KeptIn l.delay ds l.initial.circuit → fresh (names_of ds) (take l.k (words_at l.text l.start)) ≡ true
    → KeptIn l.delay (ds ++ inputs_of (take l.counter (words_at l.text l.start))) l.circuit)
    × (l.circuit.size.nodes ≡ l.initial.circuit.size.nodes + l.counter)
