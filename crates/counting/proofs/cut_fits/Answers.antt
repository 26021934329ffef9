-- `counting::cut_fits` meets its contract.
use Rattle.counting.proofs.cut_fits.Goals as goal

pub returns-clause-fit_test : goal.returns-clause-fit_test
returns-clause-fit_test c S asked =
    let e = c.fits-leaves.ensures.fit_test S asked in
    (e.0, record { operands = e.1.0; stops = e.1.1; count = e.1.2 })
