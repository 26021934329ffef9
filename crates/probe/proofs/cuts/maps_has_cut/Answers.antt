-- `probe::maps_has_cut` meets its contract.
use Rattle.probe.proofs.Answers.{has_one, has-none}
use Rattle.probe.proofs.cuts.maps_has_cut.Goals as goal

pub returns-in-Some : goal.returns-in-Some
returns-in-Some c = has_one _ _ _ _ _ _ _ c.if-not-prepare.ensures c.in-Some.field-0 c.in-Some.ensures.most c.in-Some.ensures.allowed

pub returns-in-None : goal.returns-in-None
returns-in-None c = has-none _ _ _ _ _ _ c.ask.new.cut c.if-not-prepare.ensures c.in-None.ensures.allowed
