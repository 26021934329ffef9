-- `skip::skip` meets its contract: what is left to find from the position is what is to be found from the start.
use Prim.Native.Nat.{◌≤◌, ◌<◌}
use mathlib.Core.Path.{sym, ◌∙◌}
use native.Mathlib.Omega.{arith}
use lib.ListN.{length, drop_of_length-le}
use Rattle.blif.proofs.Positions.{from_end}
use Rattle.scan.proofs.Stepping.{from-join, from-on, from-stop}
use Rattle.scan.proofs.skip.skip.Goals as goal

pub loop-at-preserved-then-joins : goal.loop-at-preserved-then-joins
loop-at-preserved-then-joins g c =
    let l : c.loop-at.at < length c.args.text.now = omega arith in
    (λ stop h. c.loop-at.invariant.0 stop h ∙ from-join stop _ _ l c.if-joins.ensures, omega arith)

pub returns-then-stops-clause-stops_at : goal.returns-then-stops-clause-stops_at
returns-then-stops-clause-stops_at g c =
    let l : c.loop-at.at < length c.args.text.now = omega arith in
    λ stop h. sym (c.loop-at.invariant.0 stop h ∙ from-stop stop _ _ l c.if-joins.ensures (sym (h _ _ c.if-stops.ensures)))

pub loop-at-preserved : goal.loop-at-preserved
loop-at-preserved g c =
    let l : c.loop-at.at < length c.args.text.now = omega arith in
    (λ stop h. c.loop-at.invariant.0 stop h ∙ from-on stop _ _ l c.if-joins.ensures (sym (h _ _ c.if-stops.ensures)), omega arith)

pub returns-clause-stops_at : goal.returns-clause-stops_at
returns-clause-stops_at g c =
    let l : length c.args.text.now ≤ c.loop-at.at = omega arith in
    λ stop h. drop_of_length-le _ l ∙ sym (c.loop-at.invariant.0 stop h ∙ from_end stop _ _ l)
