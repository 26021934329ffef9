-- `collect` meets its contract: the first `n` numbers of `cut` are the leaves below `x`.
use native.Mathlib.Omega.{arith}
use mathlib.Core.Path.{sym, ap, ◌∙◌}
use lib.ListN.{length}
use Rattle.flow.specs.Search.{leaf_mark}
use Rattle.cut.proofs.Listing.{rising_none, room, note-more, note-same}
use Rattle.cut.proofs.collect.Goals.{then-is_leaf, else-is_leaf}
use Rattle.cut.proofs.collect.Goals as goal

pub loop-x-init : goal.loop-x-init
loop-x-init c = let e = sym (rising_none (leaf_mark c.args.seen.now)) in (ap length e, e)

pub bounds-cut-n : goal.bounds-cut-n
bounds-cut-n c =
    let l = c.loop-x in
    room (leaf_mark c.args.seen.now) l.x l.n 8 (omega arith) (sym c.is_leaf.ensures ∙ c.if-is_leaf.true) l.invariant.0 c.requires

pub loop-x-preserved : goal.loop-x-preserved
loop-x-preserved c =
    let f = leaf_mark c.args.seen.now in
    let l = c.loop-x in
    elim c.if-is_leaf.branch [
      | then-is_leaf w ↦
          let e = sym c.is_leaf.ensures ∙ w.if-is_leaf.true in
          let lt = room f l.x l.n 8 (omega arith) e l.invariant.0 c.requires in
          rw (w.cut-is, w.n-is) (note-more f l.cut l.x l.n e (omega arith) l.invariant.0 l.invariant.1)
      | else-is_leaf w ↦ rw (w.cut-is, w.n-is) (note-same f l.cut l.x l.n (sym c.is_leaf.ensures ∙ w.if-is_leaf.false) l.invariant.0 l.invariant.1)
    ]
