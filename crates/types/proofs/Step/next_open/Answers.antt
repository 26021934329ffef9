-- `Step::next_open` meets its contract.
use Prim.Native.Nat.{◌<◌}
use native.Mathlib.Omega.{arith}
use native.Mathlib.Nat.{mod-lt}
use borrow.Author.Rules.{rules}
use Rattle.maps.proofs.Windows.{code-ahead, code_here, code-after}
use Rattle.types.proofs.Step.next_open.Goals as goal

pub returns-then-rest-from : goal.returns-then-rest-from
returns-then-rest-from c =
    let a = c.args in
    code-ahead a.period 0 a.from a.to a.self.0 c.if-rest-from.true

pub returns-then-rest-to : goal.returns-then-rest-to
returns-then-rest-to c =
    let a = c.args in
    code_here a.period 0 a.from a.to a.self.0 c.if-rest-from.false c.if-rest-to.true

pub returns : goal.returns
returns c =
    let a = c.args in
    code-after a.period 0 a.from a.to a.self.0 c.if-rest-from.false c.if-rest-to.false
