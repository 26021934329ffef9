use Rattle.maps.specs.Sheet.{Sheet, size}
use Rattle.bound.specs.Lookup.{labels_in}
use Rattle.cover.specs.Cover.{Rows}
use Rattle.cover.specs.Covering.{Laid, CoverFrom}
use Rattle.cover.proofs.cover.Given as goal

abbrev pub invariant-loop-v : goal.invariant-loop-v
invariant-loop-v l =
    Rows 256 l.used l.cuts × ((S : Sheet) → Laid S l.graph l.labels.steps l.labels.levels l.limits → CoverFrom S (labels_in (size S) l.labels.steps l.labels.levels) l.v l.used l.cuts)
