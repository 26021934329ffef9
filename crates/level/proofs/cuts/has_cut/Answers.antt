-- `cuts::has_cut` meets its contract.
use mathlib.Core.Path.{sym, ap, ◌∙◌}
use Rattle.maps.specs.Sheet.{is_logic}
use Rattle.types.specs.Code.{kind_meant}
use Rattle.types.specs.declared.Kind as K
use Rattle.level.proofs.CutTests.{fit-tried}
use Rattle.level.proofs.cuts.has_cut.Goals as goal

pub returns-in-Logic-clause-fit_test : goal.returns-in-Logic-clause-fit_test
returns-in-Logic-clause-fit_test c =
    -- the kind in the table is the one of the arm
    let one = sym (ap is_logic c.kind_in.ensures) ∙ ap (λ (k : K.Kind). is_logic (kind_meant k)) c.in-Logic.is in
    let o = c.open_codes in
    let t = c.try_cut in
    λ S. fit-tried S c.args.graph.now o.new.code c.args.v c.args.k t.new.kept t.result c.requires.v_bound.0 one o.ensures.by_index o.ensures.v_after t.ensures.tried_cut
