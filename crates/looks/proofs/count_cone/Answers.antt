-- The two calls say it, of the one cone that there is inside the marks.
use Rattle.std.proofs.Common.{ℕ, ◌+◌, Bool, length, ap, ◌∙◌}
use Prim.Native.Nat.{min}
use mathlib.Core.Path.{fun_ext}
use Rattle.maps.specs.Cut.{cut}
use Rattle.cone.specs.Walk.{marked}
use Rattle.cone.proofs.Cones.{one-cone}
use Rattle.looks.proofs.count_cone.Goals as goal

pub returns-clause-counted : goal.returns-clause-counted
returns-clause-counted c S C asked inside =
    let test = c.cut_fits-leaves.ensures.fit_test S asked in
    let fits = test.0 in
    let same = fun_ext (one-cone S (marked c.args.marks.now) c.args.v fits.cone C fits.is_cone inside) in (
      fits.count ∙ ap (λ (D : ℕ → Bool). min (length (cut S D)) (c.args.k + 1)) same,
      c.all_looks-before.ensures S C asked inside,
      test.1,
    )
