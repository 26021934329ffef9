-- `put_in` meets its contract.
use Rattle.std.proofs.Common.{arith, ◌≤◌}
use Rattle.maps.proofs.WrittenSize.{within-bytes}
use Rattle.fields.proofs.WroteLaws.{wrote-low, wrote-high, wrote-among}
use Rattle.fields.proofs.put_in.Goals as goal
use Rattle.fields.proofs.put_in.Goals.{then-x-from-via-then-x-from, then-x-from-via-else-x-from+then-from-x}

pub returns-then-x-from : goal.returns-then-x-from
returns-then-x-from c =
    let a = c.args in
    elim c.then-x-from.branch [
      | then-x-from-via-then-x-from w ↦ wrote-low a.bytes.now a.position a.span.low a.span.high a.x (omega (arith, w.if-x-from.true, c.from.ensures))
      | then-x-from-via-else-x-from+then-from-x w ↦
          wrote-high a.bytes.now a.position a.span.low a.span.high a.x (omega (arith, w.if-from-x.true, w.from-else-x-from.ensures))
    ]

pub put-at-requires : goal.put-at-requires
put-at-requires c =
    let l : c.args.x ≤ c.args.span.high = omega (arith, c.if-from-x.false, c.from-else-x-from.ensures) in
    (omega (arith, c.requires.0), omega (arith, c.requires.1.space, within-bytes l))

pub returns : goal.returns
returns c =
    let a = c.args in
    wrote-among a.bytes.now a.position a.span.low a.span.high a.x c.put-at.new.bytes c.put-at.result (omega (arith, c.if-x-from.false, c.from.ensures))
    (omega (arith, c.if-from-x.false, c.from-else-x-from.ensures)) c.put-at.ensures
