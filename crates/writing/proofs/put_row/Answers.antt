-- `writing::put_row` meets its contract.
use native.Mathlib.Omega.{arith}
use mathlib.Core.List.{append_assoc}
use Rattle.out_bytes.proofs.Putting.{put_then}
use Rattle.maps.specs.Sizes.{row_bytes_most}
use Rattle.writing.proofs.put_row.Goals as goal

pub returns : goal.returns
returns c =
    rw append_assoc (put_then row_bytes_most (omega arith) c.put_node.ensures c.put_cut.ensures)
