-- `distinct::merge` meets its contract: what is merged before k precedes what is left of both lists.
use Prim.Native.Nat.{◌-◌, ◌<◌}
use mathlib.Core.Path.{refl, ◌∙◌}
use native.Mathlib.Omega.{arith}
use lib.ListN.{length}
use Rattle.distinct.proofs.Placing.{head-left, head-right, state-start, state-left, state-right, state-twice, state-end}
use Rattle.distinct.proofs.merge.Goals as goal
use Rattle.distinct.proofs.merge.Goals.{in-Less, in-Greater}

pub loop-k-init : goal.loop-k-init
loop-k-init c =
    let a = c.args in
    (state-start a.text.now a.xs.now a.ys.now a.out.now c.requires.ascending.0 c.requires.ascending.1, refl)

pub returns-in-Equal : goal.returns-in-Equal
returns-in-Equal c =
    let a = c.args in
    let l = c.loop-k in
    let h = c.heads in
    (l.invariant.1, state-twice a.text.now a.xs.now a.ys.now l.out l.i l.k l.invariant.0 h.result h.ensures c.in-Equal.is)

pub bounds-xs-i : goal.bounds-xs-i
bounds-xs-i c =
    let a = c.args in
    let l = c.loop-k in
    head-left a.text.now a.xs.now a.ys.now l.i (l.k - l.i) c.heads.result c.heads.ensures c.in-Less.is

pub bounds-ys-j : goal.bounds-ys-j
bounds-ys-j c =
    let a = c.args in
    let l = c.loop-k in
    head-right a.text.now a.xs.now a.ys.now l.i (l.k - l.i) c.heads.result c.heads.ensures c.in-Greater.is

pub loop-k-preserved : goal.loop-k-preserved
loop-k-preserved c =
    let a = c.args in
    let l = c.loop-k in
    let h = c.heads in
    let m = l.invariant in
    let q : l.k < length l.out = omega (arith, c.loop-k-test.true, m.1, c.requires.ys_in_bounds) in
    elim c.match-heads.branch [
      | in-Less w ↦
          let n = state-left a.text.now a.xs.now a.ys.now l.out l.i l.k m.0 q h.result h.ensures _ _ w.in-Less.is w.out-is w.i-is in
          (n.0, n.1 ∙ m.1)
      | in-Greater w ↦
          let n = state-right a.text.now a.xs.now a.ys.now l.out l.i l.k m.0 q h.result h.ensures _ _ w.in-Greater.is w.out-is w.i-is in
          (n.0, n.1 ∙ m.1)
    ]

pub returns : goal.returns
returns c =
    let a = c.args in
    let l = c.loop-k in
    (l.invariant.1, state-end a.text.now a.xs.now a.ys.now l.out l.i l.k l.invariant.0 c.loop-k-test.false)
