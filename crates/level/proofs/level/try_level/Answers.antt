-- `level::try_level` meets its contract.
use Rattle.types.specs.Code.{label_of}
use Rattle.level.proofs.LevelCodes.{in_time, asked_by, tried-by}
use Rattle.level.proofs.level.try_level.Goals as goal

pub returns-clause-tried_level : goal.returns-clause-tried_level
returns-clause-tried_level c =
    let steps = c.args.labels.now.steps in
    let levels = c.args.labels.now.levels in
    let a = label_of c.args.by in
    let e = c.try_cut in
    λ S p.
    tried-by p steps levels a e.new.kept e.result
    (e.ensures.tried_cut S (in_time c.args.graph.now steps levels c.args.v c.args.limits.top a) (asked_by p steps levels a c.codes.ensures))
