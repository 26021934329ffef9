-- `enter`, `expand` and `scan`, which call each other, meet their contracts.
use Rattle.std.proofs.Common.{true, arith, ◌∙◌, inl, inr, refl, sym, subst, ℕ, ◌+◌, ◌<◌, List, length}
use borrow.Author.Count.{below_none}
use borrow.Author.Tests.{eq-eqb}
use Rattle.std.proofs.Math.ListN.{length-set}
use Rattle.rows.specs.Cells.{cell}
use Rattle.rows.specs.Table.{count_in}
use Rattle.flow.specs.Search.{Flow, Link, Entered}
use Rattle.rows.proofs.Cells as Cells
use Rattle.flow.proofs.Laws as Laws
use Rattle.flow.proofs.+enter_expand_scan.Goals as goal

-- ---- enter

pub enter-returns-in-Barred : goal.enter-returns-in-Barred
enter-returns-in-Barred t c =
    let a = c.args in
    Laws.enter-late a.graph.now a.code.now a.seen.now a.above.now a.x a.from c.requires.startable.flow c.requires.link c.in-Barred.is

pub enter-returns-else-not-seen-i : goal.enter-returns-else-not-seen-i
enter-returns-else-not-seen-i t c =
    let a = c.args in
    let met = c.if-not-seen-i.false in
    rw met (Laws.block_none a.graph.now a.code.now a.seen.now a.above.now, Laws.entered-inside a.code.now a.seen.now a.x c.in-Inner.is met)

pub enter-expand-requires : goal.enter-expand-requires
enter-expand-requires t c =
    let a = c.args in
    let z = c.in-Inner.is in
    (omega arith, (c.requires.startable, (Laws.under-link a.graph.now a.code.now a.from a.x z c.requires.link, inr z)))

pub enter-returns-then-not-seen-i : goal.enter-returns-then-not-seen-i
enter-returns-then-not-seen-i t c =
    let a = c.args in
    let e = c.expand in
    Cells.ends-map e.result (λ d. d) (λ d. (d.0, Laws.entered-inside a.code.now e.new.seen a.x c.in-Inner.is d.1)) e.ensures

pub enter-returns-then-seen-m : goal.enter-returns-then-seen-m
enter-returns-then-seen-m t c =
    let a = c.args in
    let y = Laws.is-leafy _ c.in-Either.is in (
      Laws.block_none a.graph.now a.code.now a.seen.now a.above.now,
      Laws.entered-leaf a.code.now a.seen.now a.x y.0 y.1 c.if-seen-m.true,
    )

pub enter-expand-requires-in-Either : goal.enter-expand-requires-in-Either
enter-expand-requires-in-Either t c =
    let a = c.args in
    let s = c.requires.startable in
    let in-s : a.x + 256 < length a.seen.now = omega arith in
    let z = Laws.unseen-mark a.seen.now (a.x + 256) in-s c.if-seen-m.false in
    let q = s.flow.low a.x s.node in (
      omega arith,
      (
        record {
          falling = s.falling;
          marks = length-set a.seen.now (a.x + 256) true ∙ s.marks;
          flow = s.flow;
          node = q;
          source = q;
          below = omega arith;
        },
        (Laws.under-self a.graph.now a.code.now (cell a.above.now a.x), inl refl),
      ),
    )

pub enter-returns-then-expand : goal.enter-returns-then-expand
enter-returns-then-expand t c =
    let a = c.args in
    let y = Laws.is-leafy _ c.in-Either.is in
    let s = c.requires.startable in
    let in-s : a.x + 256 < length a.seen.now = omega arith in
    let e = c.expand-in-Either in
    Laws.enter-push a.graph.now a.code.now a.seen.now e.new.seen a.above.now e.new.above a.x a.from s.node in-s
    c.if-seen-m.false y.0 y.1 s.source s.below c.requires.link c.if-expand.ensures

pub enter-returns-else-expand : goal.enter-returns-else-expand
enter-returns-else-expand t c =
    let a = c.args in
    let y = Laws.is-leafy _ c.in-Either.is in
    let s = c.requires.startable in
    let in-s : a.x + 256 < length a.seen.now = omega arith in
    let e = c.expand-in-Either in
    let f = c.if-expand.ensures in
    Laws.enter-block a.graph.now a.code.now a.seen.now e.new.seen a.above.now e.new.above a.x a.from s.node in-s
    c.if-seen-m.false y.0 y.1 f.0 f.1

-- ---- expand

pub expand-returns-in-Outer : goal.expand-returns-in-Outer
expand-returns-in-Outer t c =
    let a = c.args in
    Laws.expand-leaf a.graph.now a.code.now a.seen.now a.above.now a.p a.from c.requires.startable.flow c.requires.fact (Laws.not-inside _ c.in-Outer.is)

pub expand-scan-requires : goal.expand-scan-requires
expand-scan-requires t c =
    let a = c.args in
    let s = c.requires.startable in
    let in-s : a.p < length a.seen.now = omega arith in
    let z = Laws.unseen-mark a.seen.now a.p in-s c.if-seen-i.false in (
      omega arith,
      (
        record {
          falling = s.falling;
          marks = length-set a.seen.now a.p true ∙ s.marks;
          flow = s.flow;
          node = s.node;
          source = s.source;
          below = s.below;
        },
        c.requires.under,
      ),
    )

pub expand-returns-else-above-i : goal.expand-returns-else-above-i
expand-returns-else-above-i t c =
    let a = c.args in
    let s = c.requires.startable in
    let in-s : a.p < length a.seen.now = omega arith in
    let e = c.scan in
    let f = c.if-scan.ensures in
    rw (eq-eqb _ _ c.if-above-i.false) (Laws.expand-stuck a.graph.now a.code.now a.seen.now e.new.seen a.above.now e.new.above a.p s.node in-s
    c.if-seen-i.false (Laws.is-inside _ c.in-Inner.is) f.0 f.1 c.if-above-i.false)

pub expand-enter-requires : goal.expand-enter-requires
expand-enter-requires t c =
    let a = c.args in
    let s = c.requires.startable in
    let in-s : a.p < length a.seen.now = omega arith in
    let z = Laws.unseen-mark a.seen.now a.p in-s c.if-seen-i.false in
    let f = c.if-scan.ensures in
    let w = f.0.fewer in (
      omega arith,
      (
        record {
          falling = s.falling;
          marks = f.0.long ∙ length-set a.seen.now a.p true ∙ s.marks;
          flow = subst (λ (l : List ℕ). Flow a.graph.now a.code.now l) (sym f.0.same) s.flow;
          node = s.node;
          source = s.node;
          below = omega arith;
        },
        Laws.link-under a.graph.now a.code.now a.p a.p (Laws.under-self a.graph.now a.code.now a.p),
      ),
    )

pub expand-returns-then-above-i : goal.expand-returns-then-above-i
expand-returns-then-above-i t c =
    let a = c.args in
    let s = c.requires.startable in
    let in-s : a.p < length a.seen.now = omega arith in
    let e = c.scan in
    let f = c.if-scan.ensures in
    let g = c.enter in
    Laws.expand-back a.graph.now a.code.now a.seen.now e.new.seen a.above.now e.new.above a.p s.node in-s
    c.if-seen-i.false (Laws.is-inside _ c.in-Inner.is) f.0 f.1
    g.new.seen g.new.above a.from g.result s.flow c.requires.fact c.if-above-i.true g.ensures

-- ---- scan

pub scan-loop-j-init : goal.scan-loop-j-init
scan-loop-j-init t c = let a = c.args in record { block = Laws.block_none a.graph.now a.code.now a.seen.now a.above.now; entered = below_none _ }

pub scan-enter-requires : goal.scan-enter-requires
scan-enter-requires t c =
    let a = c.args in
    let s = c.requires.startable in
    let j = c.loop-j.j in
    let block = c.loop-j.invariant.block in
    let here : j < count_in a.graph.now a.p = omega (arith, c.count_in-j-end.ensures) in
    let fall = s.falling.falls a.p j s.node here in
    let y = c.operand_in.ensures in
    let link = Laws.link-operand a.graph.now a.code.now a.from a.p j c.requires.under here in
    let fewer = block.fewer in
    let n = s.node in
    let l = s.below in (
      omega arith,
      (
        record {
          falling = s.falling;
          marks = block.long ∙ s.marks;
          flow = subst (λ (l : List ℕ). Flow a.graph.now a.code.now l) (sym block.same) s.flow;
          node = omega arith;
          source = s.source;
          below = omega arith;
        },
        subst (λ (x : ℕ). Link a.graph.now a.code.now a.from x) (sym y) link,
      ),
    )

pub scan-returns-then-enter : goal.scan-returns-then-enter
scan-returns-then-enter t c =
    let a = c.args in
    let l = c.loop-j in
    Laws.push-after a.graph.now a.code.now a.seen.now l.seen a.above.now l.above c.enter.new.above l.invariant.block a.from c.if-enter.ensures

pub scan-loop-j-preserved : goal.scan-loop-j-preserved
scan-loop-j-preserved t c =
    let a = c.args in
    let l = c.loop-j in
    let e = c.enter in
    let f = c.if-enter.ensures in
    let more = Laws.scan-more a.graph.now a.code.now a.seen.now l.seen e.new.seen a.above.now l.above e.new.above a.p l.j l.invariant.block l.invariant.entered f.0
    (subst (λ (x : ℕ). Entered a.code.now e.new.seen x) c.operand_in.ensures f.1) in
    record { block = more.0; entered = more.1 }

pub scan-returns : goal.scan-returns
scan-returns t c =
    let l = c.loop-j in
    (l.invariant.block, λ i lt. l.invariant.entered i (omega (arith, c.count_in-j-end.ensures, c.loop-j-test.false)))
