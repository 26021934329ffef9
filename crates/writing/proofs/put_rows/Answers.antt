-- `writing::put_rows` meets its contract. The loop's invariant: the rows below v are written.
use native.Mathlib.Omega.{arith}
use native.Mathlib.Nat.{suc-mul, mul-le-mul_right}
use Prim.Native.Nat.{suc}
use Rattle.maps.specs.Limits.{size_range}
use Rattle.maps.specs.Sizes.{row_bytes_most}
use Rattle.writing.proofs.Putting.{put_next}
use Rattle.writing.proofs.put_rows.Goals as goal

pub put_row-requires-clause-row_bytes_most_in_bounds : goal.put_row-requires-clause-row_bytes_most_in_bounds
put_row-requires-clause-row_bytes_most_in_bounds c =
    let l = c.loop-v in
    let t = c.loop-v-test.true in
    let m = mul-le-mul_right {m = suc l.v} {n = size_range.high} row_bytes_most (omega (arith, c.requires.n_bound.0)) in
    omega (arith, m, suc-mul l.v row_bytes_most, l.invariant.near, l.invariant.wide, c.requires.row_bytes_most_in_bounds)

pub loop-v-preserved : goal.loop-v-preserved
loop-v-preserved c = put_next _ c.loop-v.v c.loop-v.invariant c.put_row.ensures
