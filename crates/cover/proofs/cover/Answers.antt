-- `cover::cover` meets its contract. The invariant: the cover from node v on stands.
use Prim.Native.Nat.{ℕ, ◌+◌, ◌-◌, ◌<◌}
use mathlib.Core.Path.{◌≡◌, subst, ap, ◌∙◌}
use mathlib.Core.List.{List}
use mathlib.Core.Bool.{Bool, false}
use native.Mathlib.Omega.{arith}
use lib.ListN.{length, get_or, length-replicate, get_or-replicate}
use Rattle.maps.specs.Sheet.{size}
use Rattle.bound.specs.Lookup.{labels_in}
use Rattle.cover.specs.Covering.{Laid, CoverFrom}
use Rattle.cover.proofs.CoverTurn.{cover-none, cover-done, rows_none}
use Rattle.cover.proofs.cover.Goals as goal

pub loop-v-init : goal.loop-v-init
loop-v-init c =
    let e = c.new.ensures in
    let wide : length c.new.result ≡ 2048 = ap length e ∙ length-replicate {A = ℕ} 2048 0 in
    let zeros : (i : ℕ) → i < 2048 → get_or c.new.result i 0 ≡ 0 = λ i l. ap (λ (xs : List ℕ). get_or xs i 0) e ∙ get_or-replicate 2048 i 0 0 l in (
      rows_none (length-replicate {A = Bool} 256 false) wide zeros,
      λ S laid. cover-none laid laid.given.nodes (λ u l. get_or-replicate 256 u false false l) zeros,
    )

pub loop-v-preserved : goal.loop-v-preserved
loop-v-preserved c =
    let l = c.loop-v in
    let n = l.auto.v in
    let t = c.loop-v-test.true in
    let e = c.cover_node.ensures in
    let back : l.v ≡ l.v - 1 + 1 = omega arith in (
      e.rows_2,
      λ S laid.
          e.cover_from S laid (omega (arith, laid.given.nodes))
          (subst (λ (v : ℕ). CoverFrom S (labels_in (size S) c.args.labels.now.steps c.args.labels.now.levels) v l.used l.cuts) back (l.invariant.1 S laid)),
    )

pub returns-clause-covered : goal.returns-clause-covered
returns-clause-covered c =
    let l = c.loop-v in
    let none : l.v ≡ 0 = omega arith in λ S differences given carried.
    let laid : Laid S c.args.graph.now c.args.labels.now.steps c.args.labels.now.levels c.args.limits = record { differences = differences; given = given; carried = carried } in
    cover-done laid
    (subst (λ (v : ℕ). CoverFrom S (labels_in (size S) c.args.labels.now.steps c.args.labels.now.levels) v l.used l.cuts) none (l.invariant.1 S laid))
