-- `counting::all_looks` meets its contract: a cut has at most 255 leaves, so the walk goes to its end.
use native.Mathlib.Omega.{arith}
use mathlib.Core.Path.{refl, ap, ◌∙◌}
use lib.ListN.{length}
use Rattle.cone.specs.Walk.{marked}
use Rattle.cone.proofs.Cones.{reads-fall, walked_all}
use Rattle.cone.proofs.OperandCounts.{looks-all}
use Rattle.counting.proofs.all_looks.Goals as goal

pub returns : goal.returns
returns c S C asked cone =
    let g = c.args.graph.now in
    let marks = c.args.marks.now in
    let v = c.args.v in
    let q = c.requires in
    let walk = c.walk in
    let e = walk.ensures.walk_ends S 256 asked refl in
    e.2 ∙ ap length (walked_all S g marks v q.falling q.v_bound asked 256 e.0 _ walk.result e.1 (omega arith))
    ∙ looks-all S (marked marks) v (reads-fall S g marks v q.falling q.v_bound asked) C cone
