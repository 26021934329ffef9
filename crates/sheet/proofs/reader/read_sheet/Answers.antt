-- `reader::read_sheet` meets its contract: the numbers of a header that was read are in their ranges.
use mathlib.Core.Path.{sym}
use Rattle.maps.proofs.Parse.{header-well}
use Rattle.sheet.proofs.reader.read_sheet.Goals as goal

pub fill_rows-requires : goal.fill_rows-requires
fill_rows-requires c =
    let h = header-well _ _ _ _ (sym c.in_ok-header.ensures) in
    (h.top.most, h.nodes.least, h.nodes.most, h.differences.most)
