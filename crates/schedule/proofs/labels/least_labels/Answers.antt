-- `labels::least_labels` meets its contract.
use Rattle.std.specs.Prelude.{is_ok}
use Rattle.schedule.proofs.Rounds.{labels-end}
use Rattle.schedule.proofs.labels.least_labels.Goals as goal

pub returns : goal.returns
returns c S given kept cuts =
    let r = c.seek in
    labels-end given cuts _ r.new.labels.steps r.new.labels.levels (is_ok r.result) (r.ensures S given kept)
