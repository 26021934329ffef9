-- `planning::plan_sheet` meets its contract.
use native.Mathlib.Omega.{arith}
use Rattle.maps.specs.Number.{Bytes}
use Rattle.demands.proofs.Demands.{demand-1, demand-2, demand-3}
use Rattle.demands.proofs.Bounds.{bounded}
use Rattle.demands.proofs.Windows.{window-rule}
use Rattle.demands.proofs.Keeping.{former-kept, unwindowed-kept}
use Rattle.customer.proofs.planning.plan_sheet.Goals as goal

pub returns : goal.returns
returns c =
    let is = c.maps_plan.ensures in
    let b : Bytes c.args.sheet.now = record { small = λ i. omega (arith, c.shared_slice_known-1.given i) } in
    let first = demand-1 _ _ _ _ _ b is in
    record { demand_1 = first; demand_2 = demand-2 _ _ _ _ _ b is; demand_3 = demand-3 _ _ _ _ _ b is; windows = window-rule _; keeps = former-kept _ _ _ _ _ is; keeps_unwindowed = unwindowed-kept _ _ _ _ _ is; bounds = bounded _ _ first.holds }
