-- `definitions::keep_one` meets its contract.
use Prim.Native.Nat.{◌+◌}
use mathlib.Core.Path.{◌≡◌, sym, ap, ◌∙◌}
use mathlib.Core.List.{[]}
use native.Mathlib.Omega.{arith}
use lib.ListN.{length, get_or, take}
use lib.Seq.{length-take-le}
use Rattle.types.specs.Code.{kind_meant}
use Rattle.blif.specs.Scan.{words_at}
use Rattle.blif.specs.Names.{definition}
use Rattle.definitions.proofs.Keeping.{kept-added}
use Rattle.definitions.proofs.keep_one.Goals as goal

pub returns : goal.returns
returns c =
    let ws = words_at c.args.text.now c.args.rest in
    let x = definition (get_or ws c.args.reads []) (kind_meant c.args.kind) (take c.args.reads ws) in
    let l : length x.reads ≡ c.args.reads = length-take-le c.args.reads ws (omega (arith, c.requires.reads_in_bounds.0)) in
    let e = c.keep_next.ensures in
    λ ds q h f. kept-added q x (sym e.size.0) (ap (λ n. c.args.circuit.now.size.operands + n) l ∙ sym e.size.1) h (omega (arith, l, c.requires.reads_in_bounds.3)) e.added
