-- What the code's structs mean in document 01's terms.
use Rattle.maps.specs.Sheet.{Difference}
use Rattle.maps.specs.Read.{Head, Header}
use Rattle.types.specs.Code.{kind_meant}
use Rattle.types.specs.declared.Node as N
use Rattle.rows.specs.declared.Difference as D
use Rattle.rows.specs.declared.Header as H

abbrev pub head_meant : N.Node → Head
head_meant v = record { kind = kind_meant v.kind; output = v.output; delay = v.delay.0; count = v.operands }

abbrev pub difference_meant : D.Difference → Difference
difference_meant d = record { from = d.from; to = d.to; plus = d.plus; minus = d.minus }

abbrev pub header_meant : H.Header → Header
header_meant h = record { leaves = h.leaves; top = h.top; horizon = h.horizon; nodes = h.nodes; differences = h.differences }
