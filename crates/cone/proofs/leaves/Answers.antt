-- `cone::leaves` meets its contract. The loop's invariant: the list begins with the n leaves below i.
use native.Mathlib.Omega.{arith}
use Prim.Native.Nat.{◌+◌}
use mathlib.Core.Path.{◌≡◌, refl, ap, ◌∙◌}
use lib.ListN.{length, set, take, length-set, length-take}
use Rattle.cone.specs.Part.{is_leaf, leaves_below}
use Rattle.cone.proofs.Listing.{no_leaf, listed-none, listed_same, listed_more, listed-all}
use Rattle.cone.proofs.leaves.Goals.{in-Leaf+else-count-n, in_default}
use Rattle.cone.proofs.leaves.Goals as goal

pub loop-i-init : goal.loop-i-init
loop-i-init c = (listed-none c.args.part.now, refl, omega arith)

pub returns-then-count-n : goal.returns-then-count-n
returns-then-count-n c =
    let p = c.args.part.now in
    let l = c.loop-i in
    listed-all p (set l.cut l.n l.i) c.args.v c.args.count (l.n + 1) (l.i + 1) (omega arith) (omega (arith, length-set l.cut l.n l.i))
    (listed_more p l.cut l.n l.i (omega arith) (ap is_leaf c.in-Leaf.is) l.invariant.0) (omega (arith, c.if-count-n.true))

pub loop-i-preserved : goal.loop-i-preserved
loop-i-preserved c =
    let l = c.loop-i in
    let p = c.args.part.now in
    elim c.match-part-i.branch [
      | in-Leaf+else-count-n w ↦ rw (w.cut-is, w.n-is) (
        listed_more p l.cut l.n l.i (omega arith) (ap is_leaf w.in-Leaf.is) l.invariant.0,
        length-set l.cut l.n l.i ∙ l.invariant.1,
        omega (arith, w.if-count-n.false, c.requires),
      )
      | in_default w ↦ rw (w.cut-is, w.n-is) (listed_same p l.cut l.n l.i (no_leaf _ w.in_default.not-Leaf) l.invariant.0, l.invariant.1, l.invariant.2)
    ]

pub returns : goal.returns
returns c e =
    let p = c.args.part.now in
    let l = c.loop-i in
    let all : take l.n l.cut ≡ leaves_below p c.args.v = l.invariant.0 ∙ ap (leaves_below p) (omega arith) in
    let m : c.args.count ≡ l.n = omega (arith, ap length all, length-take l.n l.cut) in
    rw m all
