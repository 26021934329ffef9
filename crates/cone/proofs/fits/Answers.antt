-- `cone::fits` meets its contract: at most k leaves are met and listed, or the walk has ended at leaf k + 1.
use native.Mathlib.Omega.{arith}
use Prim.Native.Nat.{◌+◌, ◌-◌, ◌<◌}
use mathlib.Core.Path.{◌≡◌, refl, sym}
use lib.ListN.{length}
use Rattle.cone.specs.Part.{leaves_below}
use Rattle.cone.proofs.Cones.{leaves-met, fit-listed, fit_wide}
use Rattle.cone.proofs.fits.Goals as goal

pub returns-then-spare-eq0-clause-fit_test : goal.returns-then-spare-eq0-clause-fit_test
returns-then-spare-eq0-clause-fit_test g c S asked =
    let walk = c.walk-spare in
    let e = walk.ensures.walk_ends S c.args.k asked refl in (
      fit_wide S _ _ c.args.v c.requires.falling c.requires.v_bound asked c.args.k e.0 walk.new.part walk.result e.1 c.if-spare-eq0.true c.args.cut.now,
      (e.0, e.1.stops, e.2),
    )

pub returns-clause-fit_test : goal.returns-clause-fit_test
returns-clause-fit_test g c S asked =
    let graph = c.args.graph.now in
    let marks = c.args.marks.now in
    let v = c.args.v in
    let k = c.args.k in
    let walk = c.walk-spare in
    let part = walk.new.part in
    let e = walk.ensures.walk_ends S k asked refl in
    let spares : 0 < walk.result = omega (arith, c.if-spare-eq0.false) in
    let count : k + 1 - walk.result ≡ length (leaves_below part v) =
    omega (arith, leaves-met S graph marks v c.requires.falling c.requires.v_bound asked k e.0 part walk.result e.1 spares) in (
      fit-listed S graph marks v c.requires.falling c.requires.v_bound asked k e.0 part walk.result e.1 spares _ c.leaves.new.cut count (c.leaves.ensures (sym count)),
      (e.0, e.1.stops, e.2),
    )
