-- `parts::put_differences` meets its contract: one difference after the other.
use Prim.Native.Nat.{◌-◌}
use native.Mathlib.Omega.{arith}
use Rattle.records.specs.Rows.{difference_entries}
use Rattle.maps.proofs.WrittenSize.{id-bytes}
use Rattle.fields.proofs.WroteLaws.{rows-room, wrote_none, rows_next, rows-stop}
use Rattle.writer.proofs.parts.put_differences.Goals as goal

pub loop-j-init : goal.loop-j-init
loop-j-init c = wrote_none _ _

pub put_difference-requires : goal.put_difference-requires
put_difference-requires c =
    let l = c.loop-j in
    let most = id-bytes {x = c.args.n - 1} (omega (arith, c.requires.2)) in (
      omega (arith, c.loop-j-test.true, c.requires.0),
      c.requires.1,
      c.requires.2,
      rows-room (difference_entries c.args.n c.args.differences.now) (λ i p. omega (arith, most)) l.j c.args.m c.loop-j-test.true l.invariant c.requires.3,
    )

pub returns-in_err-to : goal.returns-in_err-to
returns-in_err-to c =
    let l = c.loop-j in
    rows-stop (difference_entries c.args.n c.args.differences.now) l.j c.args.m c.loop-j-test.true c.from_residual.ensures.1 l.invariant c.in_err-to.ensures

pub loop-j-preserved : goal.loop-j-preserved
loop-j-preserved c =
    let l = c.loop-j in
    rows_next (difference_entries c.args.n c.args.differences.now) l.j l.invariant c.in_ok-to.ensures
