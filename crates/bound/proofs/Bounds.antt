-- The one law of the lower bounds on a node's step: what operands and differences ask in the tables is what the sheet asks.
use Prim.Native.Nat.{ℕ, ◌+◌, ◌≤◌, ◌<◌}
use mathlib.Core.Path.{◌≡◌, sym, subst, ap, ◌∙◌}
use mathlib.Core.List.{List, Memᴰ}
use native.Mathlib.Omega.{arith}
use lib.ListN.{length, get_or}
use Rattle.maps.specs.Label.{Label, ◌≼◌}
use Rattle.maps.specs.Sheet.{Sheet, Difference, node, size, latency, clock_to_q}
use Rattle.maps.specs.Legal.{ready_of}
use Rattle.maps.proofs.Member.{All-at, mem-out, mem-in, mem_index, index-mem}
use Rattle.maps.proofs.Order.{ready-step}
use Rattle.rows.specs.Table.{count_in, operand_in, latency_in, from_in, to_in, plus_in, minus_in, difference_at, no_difference}
use Rattle.rows.specs.declared.Header as R
use Rattle.relax.specs.Guard.{NodeOk, DiffsInto}
use Rattle.relax.specs.Settle.{ForcedStep, Asks}
use Rattle.relax.proofs.Closed.{Closed, well-closed, inside}
use Rattle.bound.specs.Lookup.{label_in, Heeded, step_limit}
use Rattle.bound.specs.Bound.{Greatest, ready_step, Into, push_of}
use Rattle.bound.specs.Going.{Given, Timed}
use Rattle.bound.proofs.Safety.{graph-falls, soon-all, summed-all}

module _ (S : Sheet) (graph differences : List ℕ) (limits : R.Header) (given : Given S graph differences limits)
    (steps levels : List ℕ) (timed : Timed S limits.horizon steps levels) (v : ℕ) (l : v < size S) where
  abbrev L : ℕ → Label
  L = label_in steps levels

  closed : Closed S
  closed = well-closed S given.well

  id : v < 256
  id = omega (arith, given.well.size.most)

  -- operand j of v
  operand-is : (j : ℕ) → j < length (node S v).operands → ready_step graph steps v j ≡ (L (get_or (node S v).operands j 0)).step + latency S (get_or (node S v).operands j 0)
  operand-is j h =
      let e = given.tabled.operands v j id h in
      let u = get_or (node S v).operands j 0 in
      let low : u < v = closed.ordered v u (mem-in (node S v).operands (index-mem 0 (node S v).operands j h)) in
      omega (arith, ap (λ (w : ℕ). get_or steps w 0) e, ap (latency_in graph) e, given.tabled.latencies u (omega arith))

  -- difference d of the sheet stands at place i
  record At (i : ℕ) (d : Difference) : Type 0 where
    within : i < limits.differences
    from : from_in differences i ≡ d.from
    to : to_in differences i ≡ d.to
    plus : plus_in differences i ≡ d.plus
    minus : minus_in differences i ≡ d.minus

  at_place : (i : ℕ) → i < limits.differences → At i (difference_at S i)
  at_place i h =
      let k : i < length S.differences = omega (arith, given.count) in
      record { within = h; from = given.listed.froms i k; to = given.listed.tos i k; plus = given.listed.pluses i k; minus = given.listed.minuses i k }

  at-member : (d : Difference) → Memᴰ d S.differences → (i : ℕ) × At i d
  at-member d m =
      let r = mem_index no_difference S.differences m in
      (r.0, subst (At r.0) r.2 (at_place r.0 (omega (arith, r.1, given.count))))

  -- what difference i asks of v is forced
  push-under : (Q : ℕ → Label) → ((u : ℕ) → u < size S → L u ≼ Q u) → DiffsInto S Q v → (i : ℕ) → i < limits.differences → to_in differences i ≡ v
      → push_of differences steps i ≤ (Q v).step
  push-under Q up into i h t =
      let d = difference_at S i in
      let m = index-mem no_difference S.differences i (omega (arith, given.count)) in
      let a = at_place i h in
      let e : d.to ≡ v = sym a.to ∙ t in
      omega (
        arith,
        ap (λ (u : ℕ). get_or steps u 0) a.from,
        a.plus,
        a.minus,
        (up d.from (inside S closed d m).0).steps,
        into.into d m e,
        ap (λ (u : ℕ). (Q u).step) e,
      )

  own-small : get_or steps v 0 + latency_in graph v < step_limit
  own-small = soon-all given timed v (omega (arith, given.nodes))

  module _ (first : List ℕ) (s r : ℕ) (diffs : Greatest s (Into differences first limits.differences v) (push_of differences steps) r) where
    -- the differences into v alone
    pub push-forced : s ≡ get_or steps v 0 → ForcedStep S L v r
    push-forced e =
        record { asked = λ Q up ok into. diffs.least (Q v).step (omega (arith, (up v l).steps)) (λ i h. push-under Q up into i h.0 h.1) }

    push-small : s ≤ 4294967039 → r < step_limit
    push-small h =
        let b : r ≤ 4294967039 = diffs.least 4294967039 h (λ i k. omega (arith, (summed-all given timed i k.0).ahead)) in omega arith

    -- r is late enough for each difference of the sheet into v, where v is heeded
    pub push-heeds : Heeded first v → (d : Difference) → Memᴰ d S.differences → d.to ≡ v → (L d.from).step + d.plus ≤ r + d.minus
    push-heeds h d m e =
        let a = at-member d m in
        omega (
          arith,
          diffs.all a.0 (a.1.within, a.1.to ∙ e, h),
          ap (λ (u : ℕ). get_or steps u 0) a.1.from,
          a.1.plus,
          a.1.minus,
        )

    -- with the operands
    module _ (ops : Greatest (get_or steps v 0) (λ j. j < count_in graph v) (ready_step graph steps v) s) where
      pub asks-tables : Asks S L v r
      asks-tables =
          record {
            forced = record {
              asked = λ Q up ok into.
                  diffs.least (Q v).step (ops.least (Q v).step (up v l).steps (operand Q up ok)) (λ i h. push-under Q up into i h.0 h.1);
            };
            own = omega (arith, ops.own, diffs.own);
            after = λ u e.
                let p = mem_index 0 (node S v).operands (mem-out u (node S v).operands e) in
                omega (
                  arith,
                  ops.all p.0 (omega (arith, p.1, given.tabled.counts v id)),
                  diffs.own,
                  operand-is p.0 p.1,
                  ap (λ (w : ℕ). (L w).step) p.2,
                  ap (latency S) p.2,
                );
          }
        where
          operand : (Q : ℕ → Label) → ((u : ℕ) → u < size S → L u ≼ Q u) → NodeOk S Q v → (j : ℕ) → j < count_in graph v → ready_step graph steps v j ≤ (Q v).step
          operand Q up ok j h =
              let k : j < length (node S v).operands = omega (arith, given.tabled.counts v id) in
              let u = get_or (node S v).operands j 0 in
              let m = index-mem 0 (node S v).operands j k in
              let low : u < v = closed.ordered v u (mem-in (node S v).operands m) in
              omega (arith, operand-is j k, (up u (omega arith)).steps, ready-step (latency S u) (clock_to_q S u) (Q u), All-at (λ u. (ready_of S Q u).step ≤ (Q v).step) (node S v).operands ok.after m)

      pub asks-small : r < step_limit
      asks-small = push-small (ops.least 4294967039 (omega (arith, own-small)) operand)
        where
          operand : (j : ℕ) → j < count_in graph v → ready_step graph steps v j ≤ 4294967039
          operand j h =
              let u = (graph-falls given).falls v j id h in
              omega (arith, soon-all given timed (operand_in graph v j) (omega (arith, given.nodes)))
