-- `cover::choose_cut` meets its contract.
use Rattle.cover.proofs.CoverCut.{may, placed, picked}
use mathlib.Core.Path.{subst}
use Rattle.maps.specs.Label.{Label}
use Rattle.bound.specs.Lookup.{label_in}
use Rattle.level.specs.Carry.{CodesBy}
use Rattle.level.proofs.LevelCodes.{asked_by}
use Rattle.cover.proofs.choose_cut.Goals as goal

pub returns-clause-picked : goal.returns-clause-picked
returns-clause-picked c =
    let steps = c.args.labels.now.steps in
    let levels = c.args.labels.now.levels in
    let a = label_in steps levels c.args.v in
    let by = c.label_of-by.ensures in
    let codes = c.codes in
    λ S laid l i.
    picked laid c.args.v l i c.choose.result _
    (c.choose.ensures.chosen S (may laid c.args.v l i)
    (asked_by (placed laid c.args.v l i) steps levels a
    (subst (λ (b : Label). CodesBy c.args.graph.now steps levels codes.new.code c.args.v c.args.limits.top b) by codes.ensures)))
