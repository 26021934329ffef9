-- `level::carried` meets its contract. The invariant: `most` is the least level by which the first j leaves arrive.
use Prim.Native.Nat.{ℕ}
use mathlib.Core.Path.{◌≡◌, subst}
use native.Mathlib.Omega.{arith}
use Rattle.maps.specs.Label.{Label}
use Rattle.bound.specs.Lookup.{count_of}
use Rattle.bound.specs.Bound.{Carrying}
use Rattle.bound.proofs.Arriving.{carrying-more}
use Rattle.level.proofs.LevelSpan.{arrival_of, leaf-arrives}
use Rattle.level.proofs.level.carried.Goals as goal

pub loop-j-preserved : goal.loop-j-preserved
loop-j-preserved c =
    let a = c.args in
    let l = c.loop-j in
    let d = c.delay_in-delay in
    let u = c.leaf_in-u in
    let x = c.level_in in
    let top = a.top.0 in
    carrying-more top a.s.0 l.j (arrival_of a.graph.now a.labels.now.steps a.labels.now.levels a.kept.now a.v top) l.most.0 x.result.0 c.higher-most.result.0 l.invariant
    (subst (λ (b : Label). Carrying top a.s.0 1 (λ i. b) x.result.0)
    (leaf-arrives a.graph.now a.labels.now.steps a.labels.now.levels a.kept.now a.v top l.j d.result.0 u.result d.ensures u.ensures c.arrival-a.ensures) x.ensures)
    c.higher-most.ensures

pub returns : goal.returns
returns c =
    let a = c.args in
    let l = c.loop-j in
    let t = c.loop-j-test.false in
    let h = l.auto.j-end in
    let e : l.j ≡ count_of a.kept.now a.v = omega (arith, c.leaf_count_in-j-end.ensures) in
    subst (λ (n : ℕ). Carrying a.top.0 a.s.0 n (arrival_of a.graph.now a.labels.now.steps a.labels.now.levels a.kept.now a.v a.top.0) l.most.0) e l.invariant
