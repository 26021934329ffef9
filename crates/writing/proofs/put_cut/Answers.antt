-- `writing::put_cut` meets its contract. The loop's invariant: the first j leaves are written.
use Prim.Native.Nat.{suc, ◌<◌}
use native.Mathlib.Omega.{arith}
use native.Mathlib.Nat.{suc-mul, mul-le-mul_right}
use Rattle.maps.specs.Limits.{leaves_range}
use Rattle.maps.specs.Sizes.{id_bytes_most}
use Rattle.maps.proofs.WrittenSize.{id-bytes}
use Rattle.bound.specs.Lookup.{count_of, leaf_of}
use Rattle.cover.proofs.CoverMarks.{over-get}
use Rattle.writing.proofs.Putting.{equal-bytes, put-leaf, put-leaves}
use Rattle.writing.proofs.put_cut.Goals as goal

pub put-requires : goal.put-requires
put-requires c =
    (omega arith, (omega (arith, c.leaf_count_in-count.ensures, c.requires.v_bound.1), omega (arith, c.requires.cut_bytes_most_in_bounds, equal-bytes c.leaf_count_in-count.ensures c.requires.v_bound.1)))

pub put-requires-in-loop-j : goal.put-requires-in-loop-j
put-requires-in-loop-j c =
    let l = c.loop-j in
    let f = c.put.ensures.put in
    let t = c.loop-j-test.true in
    let leaf = over-get (leaf_of c.args.cuts.now c.args.v) (λ u. u < 256) (count_of c.args.cuts.now c.args.v) c.requires.v_bound.2 l.j (omega (arith, c.leaf_count_in-count.ensures)) in
    let id = id-bytes {x = c.leaf_in.result} (omega (arith, leaf, c.leaf_in.ensures)) in
    let count = equal-bytes c.leaf_count_in-count.ensures c.requires.v_bound.1 in
    let m = mul-le-mul_right {m = suc l.j} {n = leaves_range.high} id_bytes_most (omega (arith, c.leaf_count_in-count.ensures, c.requires.v_bound.1)) in (
      omega arith,
      (omega (arith, leaf, c.leaf_in.ensures), omega (arith, m, suc-mul l.j id_bytes_most, id, count, l.invariant.near, l.invariant.wide, f.near, f.wide, c.requires.cut_bytes_most_in_bounds)),
    )

pub loop-j-preserved : goal.loop-j-preserved
loop-j-preserved c =
    let l = c.loop-j in
    let t = c.loop-j-test.true in
    let leaf = over-get (leaf_of c.args.cuts.now c.args.v) (λ u. u < 256) (count_of c.args.cuts.now c.args.v) c.requires.v_bound.2 l.j (omega (arith, c.leaf_count_in-count.ensures)) in
    put-leaf c.args.cuts.now c.args.v l.j leaf l.invariant (rw c.leaf_in.ensures at c.put-in-loop-j.ensures.put)

pub returns : goal.returns
returns c =
    let l = c.loop-j in
    let t = c.loop-j-test.false in
    put-leaves c.args.cuts.now c.args.v l.j c.requires.v_bound.1 (omega (arith, l.auto.j-end, c.leaf_count_in-count.ensures)) (rw c.leaf_count_in-count.ensures at c.put.ensures.put) l.invariant
