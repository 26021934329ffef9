-- `writing::write_plan` meets its contract: the latency, then the rows.
use native.Mathlib.Omega.{arith}
use Rattle.maps.specs.Sizes.{plan_most}
use Rattle.out_bytes.proofs.Putting.{put_then}
use Rattle.maps.proofs.WrittenSize.{within-bytes}
use Rattle.writing.proofs.Putting.{put-most, put_first}
use Rattle.writing.proofs.write_plan.Goals as goal

pub put-requires : goal.put-requires
put-requires c =
    let pre = c.requires in
    (omega arith, (omega (arith, pre.small.latest), omega (arith, within-bytes pre.small.latest, pre.bytes_len)))

pub put_rows-requires-clause-row_bytes_most_in_bounds : goal.put_rows-requires-clause-row_bytes_most_in_bounds
put_rows-requires-clause-row_bytes_most_in_bounds c =
    let f = c.put.ensures.put in
    omega (arith, f.near, f.wide, within-bytes c.requires.small.latest, c.requires.bytes_len)

pub returns-clause-written : goal.returns-clause-written
returns-clause-written c =
    put_first (put_then plan_most (omega arith) (put-most c.requires.small.latest c.put.ensures.put) c.put_rows.ensures)

pub returns-clause-bytes_len : goal.returns-clause-bytes_len
returns-clause-bytes_len c = omega (arith, c.put_rows.ensures.wide, c.put.ensures.put.wide, c.requires.bytes_len)
