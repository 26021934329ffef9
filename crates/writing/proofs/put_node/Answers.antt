-- `writing::put_node` meets its contract.
use mathlib.Core.Path.{ap}
use native.Mathlib.Omega.{arith}
use Prim.Native.Nat.{◌+◌}
use Rattle.maps.specs.Label.{Label}
use Rattle.maps.specs.Number.{bytes_for}
use Rattle.maps.specs.Limits.{top_range}
use Rattle.maps.specs.Sizes.{step_bytes_most, label_bytes_most}
use Rattle.maps.proofs.WrittenSize.{within-bytes}
use Rattle.out_bytes.proofs.Putting.{put_then}
use Rattle.writing.proofs.Putting.{put-most, equal-bytes, bit-of}
use Rattle.writing.proofs.put_node.Goals as goal

pub put-requires : goal.put-requires
put-requires c =
    let step = ap (λ (a : Label). a.step) c.label_of-label.ensures in
    (omega arith, (omega (arith, step, c.requires.v_bound.1), omega (arith, c.requires.label_bytes_most_in_bounds, equal-bytes step c.requires.v_bound.1)))

pub put-requires-2 : goal.put-requires-2
put-requires-2 c =
    let step = ap (λ (a : Label). a.step) c.label_of-label.ensures in
    let level = ap (λ (a : Label). a.level) c.label_of-label.ensures in
    let s = c.put.ensures.put in (
      omega arith,
      (omega (arith, level, c.requires.v_bound.2), omega (arith, s.near, s.wide, c.requires.label_bytes_most_in_bounds, equal-bytes step c.requires.v_bound.1, equal-bytes level c.requires.v_bound.2)),
    )

pub put-requires-3 : goal.put-requires-3
put-requires-3 c =
    let step = ap (λ (a : Label). a.step) c.label_of-label.ensures in
    let level = ap (λ (a : Label). a.level) c.label_of-label.ensures in
    let bit = (bit-of _ c.from.ensures).1 in
    let s = c.put.ensures.put in
    let t = c.put-2.ensures.put in (
      omega arith,
      (
        omega (arith, bit),
        omega (
          arith,
          s.near,
          s.wide,
          t.near,
          t.wide,
          c.requires.label_bytes_most_in_bounds,
          equal-bytes step c.requires.v_bound.1,
          equal-bytes level c.requires.v_bound.2,
          within-bytes bit,
        ),
      ),
    )

pub returns : goal.returns
returns c =
    let p = c.requires.v_bound in
    let s = rw (ap (λ (a : Label). a.step) c.label_of-label.ensures) at c.put.ensures.put in
    let t = rw (ap (λ (a : Label). a.level) c.label_of-label.ensures) at c.put-2.ensures.put in
    rw (← (bit-of _ c.from.ensures).0)
    (put_then label_bytes_most (omega arith) (put_then (step_bytes_most + bytes_for top_range.high) (omega arith) (put-most p.1 s) (put-most p.2 t)) (put-most (bit-of _ c.from.ensures).1 c.put-3.ensures.put))
