-- `put` meets its contract: a byte after another, each a group of the number, until the rest is below 128.
use Rattle.std.proofs.Common.{arith}
use Rattle.out_bytes.proofs.Putting.{begun-none, begun-room, begun_more, begun-last, last-below}
use Rattle.out_bytes.proofs.put.Goals as goal

pub loop-init : goal.loop-init
loop-init c = (begun-none c.requires.0, omega arith)

pub bounds-bytes-at : goal.bounds-bytes-at
bounds-bytes-at c = begun-room c.requires.1 c.loop.invariant.0

pub returns-then-rest-lt128 : goal.returns-then-rest-lt128
returns-then-rest-lt128 c = begun-last c.requires.1 c.loop.invariant.0 (omega (arith, c.if-rest-lt128.true))

pub bounds-bytes-at-in-loop : goal.bounds-bytes-at-in-loop
bounds-bytes-at-in-loop c = begun-room c.requires.1 c.loop.invariant.0

pub loop-preserved : goal.loop-preserved
loop-preserved c =
    let i = c.loop.invariant in
    (begun_more c.requires.1 i.0 (omega (arith, c.if-rest-lt128.false)), omega (arith, i.1))

pub bounds-bytes-at-2 : goal.bounds-bytes-at-2
bounds-bytes-at-2 c = begun-room c.requires.1 c.loop.invariant.0

pub returns : goal.returns
returns c =
    let i = c.loop.invariant in
    begun-last c.requires.1 i.0 (last-below i.0 (omega (arith, i.1, c.loop-test.false)))
