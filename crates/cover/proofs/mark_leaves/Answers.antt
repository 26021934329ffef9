-- `cover::mark_leaves` meets its contract. The invariant: the first j of them are marked.
use Prim.Native.Nat.{◌<◌}
use native.Mathlib.Omega.{arith}
use Rattle.bound.specs.Lookup.{count_of, leaf_of}
use Rattle.cover.proofs.CoverMarks.{over-get, marked-own, marked_more}
use Rattle.cover.proofs.mark_leaves.Goals as goal

pub bounds-used-leaf_in : goal.bounds-used-leaf_in
bounds-used-leaf_in c =
    let t = c.loop-j-test.true in
    let low = over-get (leaf_of c.args.cuts.now c.args.v) (λ u. u < 256) (count_of c.args.cuts.now c.args.v) c.requires.row.1 c.loop-j.j (omega (arith, c.leaf_count_in-j-end.ensures)) in
    omega (arith, c.leaf_in.ensures)

pub loop-j-preserved : goal.loop-j-preserved
loop-j-preserved c =
    let l = c.loop-j in
    let t = c.loop-j-test.true in
    let low = over-get (leaf_of c.args.cuts.now c.args.v) (λ u. u < 256) (count_of c.args.cuts.now c.args.v) c.requires.row.1 l.j (omega (arith, c.leaf_count_in-j-end.ensures)) in
    marked_more (leaf_of c.args.cuts.now c.args.v) l.j c.leaf_in.result c.leaf_in.ensures l.invariant
    (marked-own l.used c.leaf_in.result l.invariant.wide (omega (arith, c.leaf_in.ensures)))
