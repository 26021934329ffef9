-- `put_operand` meets its contract.
use Rattle.std.proofs.Common.{arith, ◌<◌}
use Rattle.maps.specs.Limits.{size_range}
use Rattle.maps.proofs.WrittenSize.{id-bytes}
use Rattle.fields.proofs.WroteLaws.{wrote-own, wrote-under}
use Rattle.fields.proofs.put_operand.Goals as goal

pub returns-then-own-x : goal.returns-then-own-x
returns-then-own-x c = wrote-own c.args.bytes.now c.args.position c.args.own c.args.x (omega (arith, c.if-own-x.true))

pub put-at-requires : goal.put-at-requires
put-at-requires c =
    let l : c.args.x < size_range.high = omega (arith, c.if-own-x.false, c.requires.0) in
    (omega (arith, c.requires.0), omega (arith, c.requires.1.space, id-bytes {x = c.args.x} l))

pub returns : goal.returns
returns c =
    let w = c.put-at in
    wrote-under c.args.bytes.now c.args.position c.args.own c.args.x w.new.bytes w.result c.requires.0 (omega (arith, c.if-own-x.false)) w.ensures
