-- `probe::maps_cut` meets its contract.
use mathlib.Core.Path.{sym, subst}
use Rattle.probe.specs.Probe.{CutAnswer}
use Rattle.probe.proofs.Answers.{cut-chosen, cut-none}
use Rattle.probe.proofs.cuts.maps_cut.Goals as goal

pub returns-in-Some : goal.returns-in-Some
returns-in-Some c =
    let e = c.in-Some.ensures in
    subst (CutAnswer _ _ _ _ _ c.in-Some.count) (sym c.write_cut.ensures) (cut-chosen _ _ _ _ _ _ _ c.if-not-prepare.ensures _ c.in-Some.count e.most e.chosen)

pub returns-in-None : goal.returns-in-None
returns-in-None c = cut-none _ _ _ _ _ _ c.choose.new.cut c.if-not-prepare.ensures _ (λ S may asked. (c.in-None.ensures.chosen S may asked).1)
