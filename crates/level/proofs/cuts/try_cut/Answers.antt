-- `cuts::try_cut` meets its contract.
use Rattle.level.proofs.CutRows.{tried-kept}
use Rattle.level.proofs.cuts.try_cut.Goals as goal

pub returns-in-Some-clause-tried_cut : goal.returns-in-Some-clause-tried_cut
returns-in-Some-clause-tried_cut c =
    let e = c.in-Some.ensures in
    let st = c.keep_cut.ensures in
    λ S may asked. tried-kept S may c.args.v c.args.k c.in-Some.count c.ask.new.cut c.args.kept.now c.keep_cut.new.self e.most c.requires.v_bound.1 st.cut_len.0 (e.allowed S may asked) st.stored
