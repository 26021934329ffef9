-- The rounds of passes: how they begin, what each end of a round says, and that a round that is not the last moves a step.
use Prim.Native.Nat.{ℕ, zero, suc, ◌+◌, ◌-◌, ◌*◌, ◌≤◌, ◌<◌}
use mathlib.Core.Path.{◌≡◌, refl, sym, subst, ap, ◌∙◌}
use mathlib.Core.Bool.{Bool, true, false}
use mathlib.Core.List.{List, [], ◌∷◌}
use mathlib.Core.Logic.{inl, inr}
use native.Mathlib.Omega.{arith}
use lib.Dec.{leb}
use lib.ListN.{length, get_or}
use borrow.Author.Tests.{leb-true, leb-false}
use Rattle.maps.specs.Limits.{horizon_range, period_range}
use Rattle.maps.specs.Label.{Label, label, ◌≼◌}
use Rattle.maps.specs.Lists.{All}
use Rattle.maps.specs.WellFormed.{WellDifference}
use Rattle.maps.specs.Sheet.{Sheet, Difference, Window, node, size, latency}
use Rattle.maps.specs.Cut.{reads}
use Rattle.maps.specs.Legal.{Least, NoneLegal}
use Rattle.maps.specs.Least.{at, least_within, late, least}
use Rattle.maps.specs.Outcome.{cutless}
use Rattle.maps.proofs.Over.{total, total-bound, total_mono, total-longer, length_over, get_d_over}
use Rattle.maps.proofs.Member.{All-at, All-ids, All-get, mem-in, mem-out, index-mem}
use Rattle.maps.proofs.Fix.{is-least, is-late}
use Rattle.maps.proofs.Planned.{operands-below, least-right}
use Rattle.rows.specs.Table.{latency_in, operand_in, from_in, to_in, plus_in, minus_in, no_difference, difference_at}
use Rattle.rows.specs.declared.Header as R
use Rattle.rows.specs.Cells.{Ends}
use Rattle.relax.specs.Guard.{Kept, unbounded, NoneFrom, LeastFrom}
use Rattle.relax.specs.Settle.{Pass, Passing}
use Rattle.relax.specs.Sweep.{Sweeping}
use Rattle.relax.specs.Hold as H
use Rattle.relax.specs.Hold.{shift_of, Held, early, by-operand, by-difference}
use Rattle.relax.proofs.Closed.{Closed, well-closed, inside}
use Rattle.relax.proofs.Guard.{legal-node, legal-diffs, ok-legal, none-plain, least-plain}
use Rattle.relax.proofs.Forced.{ok_same}
use Rattle.relax.proofs.Held.{climbs, well-climbs, held-sum}
use Rattle.relax.proofs.Afloat.{shift-of}
use Rattle.relax.proofs.Passes.{pass-again, pass-least, pass-floats, steps_of}
use Rattle.relax.proofs.Loop.{passing-pass, passing-grows}
use Rattle.relax.proofs.Sweeps.{sweep-moves}
use Rattle.bound.specs.Lookup.{label_in, labels_in, Linked, Heeded}
use Rattle.bound.specs.Bound.{HoldsAt}
use Rattle.bound.specs.Going.{Given, Timed, Going}
use Rattle.bound.proofs.Asking.{linked-heeded}
use Rattle.bound.proofs.Safety.{node_in, latency-is, graph-falls, difference-in, targets, kept_at, holds_at}
use Rattle.hold.specs.Mark.{HeldIn, early-in, operand-in, target-in}
use Rattle.hold.proofs.HoldMarks.{not-both}
use Rattle.std.specs.Prelude.{Ok}
use Rattle.pass.specs.Turn.{Passed}
use Rattle.pass.specs.declared.Course.{Course}
use Rattle.pass.specs.declared.Course.TheVariants as Ran
use Rattle.sweep.specs.Sweep.{AllHold, SomeFails, Sweepable, SweepEnds}
use Rattle.schedule.specs.Round.{CourseEnds, Heeds, Found, Relaxed, steps_in, shift_for, shift_in, climb_most, climbs_in, held_most, no_test, rounds_most, Testable}

-- the shift where there are windows
pub shift-some : (p k : ℕ) → (k ≡ 0 → ⊥) → p ≡ shift_for p k
shift-some p zero f = absurd (f refl)
shift-some p (suc k) f = refl

-- the sum of the steps, as a sum
steps-sum : (n : ℕ) (steps : List ℕ) → steps_in n steps ≡ total (λ v. get_or steps v 0) n
unfolding steps_in
steps-sum zero steps = refl
steps-sum (suc n) steps = ap (λ (h : ℕ). h + get_or steps n 0) (steps-sum n steps)

-- so are the climbs
climbs-sum : (n : ℕ) → climbs_in n ≡ climbs climb_most period_range.high n
unfolding climbs_in
climbs-sum zero = refl
climbs-sum (suc n) = ap (λ (h : ℕ). h + (n * climb_most + (period_range.high - 1))) (climbs-sum n)

-- a smaller shift asks no more
climbs-mono : (n p : ℕ) → p ≤ period_range.high → climbs climb_most p n ≤ climbs climb_most period_range.high n
climbs-mono n p l = total_mono (λ k. k * climb_most + (p - 1)) (λ k. k * climb_most + (period_range.high - 1)) n (λ k h. omega arith)

climbs-greatest : climbs climb_most period_range.high 256 ≡ 2141167488
climbs-greatest = refl

module _ {S : Sheet} {graph differences : List ℕ} {limits : R.Header} (g : Given S graph differences limits) where
  closed : Closed S
  closed = well-closed S g.well

  steps-is : (steps levels : List ℕ) → steps_in limits.nodes steps ≡ steps_of S (label_in steps levels)
  steps-is steps levels = ap (λ (n : ℕ). steps_in n steps) g.nodes ∙ steps-sum (size S) steps

  -- the shift of the tables is the sheet's
  shift_is : shift_in limits ≡ shift_of S
  shift_is = go S.windows g.windows
    where
      go : (ws : List Window) → limits.windows ≡ length ws → shift_in limits ≡ H.shift_in S.period ws
      go [] e = rw e
      go (w ∷ ws) e = rw (e, g.period)

  pub shift_small : shift_in limits ≤ period_range.high
  shift_small = go limits.windows
    where
      go : (k : ℕ) → shift_for limits.period k ≤ period_range.high
      go zero = omega arith
      go (suc k) = omega (arith, g.period, g.well.period.most)

  -- what held nodes can have together is a number of the code's, twice over: 0 + 1 + .. + 255 times 65,599, and 256 times 63, is below 2^31
  most-fits : held_most limits < 2147483647
  most-fits =
      omega (
        arith,
        climbs-sum limits.nodes,
        total-longer (λ k. k * climb_most + (period_range.high - 1)) limits.nodes 256 (omega (arith, g.nodes, g.well.size.most)),
        climbs-greatest,
      )

  -- the held set over the tables is the sheet's
  module _ (steps levels : List ℕ) where
    abbrev pub HeldAt : ℕ → Type 0
    HeldAt v = HeldIn graph differences steps (shift_in limits) limits.nodes limits.differences v

    pub held-in : (v : ℕ) → HeldAt v → Held S (shift_in limits) (label_in steps levels) v
    held-in v (early-in u l e) = early v (node_in g v l).0 e
    held-in v (operand-in u j l h o c) =
        let w = node_in g v l in
        let k : j < length (node S v).operands = omega (arith, g.tabled.counts v w.1) in
        let e : operand_in graph v j ≡ get_or (node S v).operands j 0 = g.tabled.operands v j w.1 k in
        let f = (graph-falls g).falls v j w.1 h in
        by-operand v (operand_in graph v j) w.0
        (subst (λ (u : ℕ). reads S v u ≡ true) (sym e) (mem-in (node S v).operands (index-mem 0 (node S v).operands j k)))
        (held-in (operand_in graph v j) o) (omega (arith, latency-is g (operand_in graph v j) (omega arith)))
    held-in v (target-in i l b o c) =
        let k : i < length S.differences = omega (arith, g.count) in
        let from = g.listed.froms i k in
        let to = g.listed.tos i k in
        subst (Held S (shift_in limits) (label_in steps levels)) (sym to)
        (by-difference (difference_at S i) (difference-in g i l) (subst (Held S (shift_in limits) (label_in steps levels)) from (held-in (from_in differences i) o))
        (omega (arith, ap (λ (x : ℕ). get_or steps x 0) from, ap (λ (x : ℕ). get_or steps x 0) to, g.listed.pluses i k, g.listed.minuses i k)))

    abbrev Pulls : ℕ → ℕ → Type 0
    Pulls v u = HeldAt u → get_or steps v 0 ≤ get_or steps u 0 + latency S u + shift_in limits → HeldAt v

    operand : (v : ℕ) → v < size S → (j : ℕ) → j < length (node S v).operands → Pulls v (get_or (node S v).operands j 0)
    operand v l j k p near =
        let n : v < limits.nodes = omega (arith, g.nodes) in
        let w = (node_in g v n).1 in
        let u = get_or (node S v).operands j 0 in
        let e : operand_in graph v j ≡ u = g.tabled.operands v j w k in
        let b : u < v = All-get (λ u. u < v) 0 (node S v).operands (operands-below S g.well v) j k in
        operand-in v j n (omega (arith, g.tabled.counts v w)) (subst HeldAt (sym e) p)
        (omega (arith, ap (λ (x : ℕ). get_or steps x 0) e, ap (latency_in graph) e, latency-is g u (omega arith)))

    abbrev Pushes : Difference → Type 0
    Pushes d = HeldAt d.from → get_or steps d.to 0 + d.minus < get_or steps d.from 0 + d.plus + shift_in limits → HeldAt d.to

    target : (i : ℕ) → i < length S.differences → Pushes (difference_at S i)
    target i l p near =
        let w = All-get (WellDifference (size S)) no_difference S.differences g.well.differences i l in
        let from = g.listed.froms i l in
        let to = g.listed.tos i l in
        subst HeldAt to
        (target-in i (omega (arith, g.count)) (omega (arith, w.to, g.nodes)) (subst HeldAt (sym from) p)
        (omega (arith, ap (λ (x : ℕ). get_or steps x 0) from, ap (λ (x : ℕ). get_or steps x 0) to, g.listed.pluses i l, g.listed.minuses i l)))

    pub in_held : (v : ℕ) → Held S (shift_in limits) (label_in steps levels) v → HeldAt v
    in_held v (early u l e) = early-in v (omega (arith, g.nodes)) e
    in_held v (by-operand w u l r k near) =
        All-at (Pulls v) (node S v).operands (All-ids (Pulls v) 0 (node S v).operands (λ j h. operand v l j h)) (mem-out u (node S v).operands r)
        (in_held u k) near
    in_held v (by-difference d m k near) =
        All-at Pushes S.differences (All-ids Pushes no_difference S.differences (λ i l. target i l)) m (in_held d.from k) near

  -- where the tests and the bounds of a round lead
  module _ (steps levels : List ℕ) where
    -- after a pass a node floats
    floats-none : Pass S unbounded (label_in steps levels) (size S) → (v : ℕ) → v < limits.nodes → (HeldAt steps levels v → ⊥) → NoneLegal S limits.horizon
    floats-none p v l n M legal =
        pass-floats S closed (shift_of S) (shift-of S closed) (label_in steps levels) p v (node_in g v l).0
        (λ h. n (in_held steps levels v (subst (λ (k : ℕ). Held S k (label_in steps levels) v) (sym shift_is) h))) M limits.horizon legal

    -- none does: the steps are no further than held nodes can be, whatever the horizon
    held-most : ((v : ℕ) → v < limits.nodes → HeldAt steps levels v) → steps_in limits.nodes steps ≤ held_most limits
    held-most all =
        omega (
          arith,
          steps-is steps levels,
          held-sum S closed (shift_in limits) (label_in steps levels) climb_most (well-climbs S g.well (shift_in limits) shift_small) (λ v l. held-in steps levels v (all v (omega (arith, g.nodes)))),
          climbs-mono (size S) (shift_in limits) shift_small,
          climbs-sum (size S),
          ap climbs_in g.nodes,
        )

    -- Within a sheet's own horizon the steps are no further than it allows: 256 nodes, each in step 65,535 at the most, which is less than 2^24 in all.
    steps-near : Timed S limits.horizon steps levels → limits.horizon ≤ horizon_range.high → steps_in limits.nodes steps + 1 < no_test
    steps-near timed h =
        omega (
          arith,
          steps-is steps levels,
          total-bound (λ v. get_or steps v 0) horizon_range.high (size S) (λ v l. omega (arith, timed.ends v l)),
          g.well.size.most,
        )

    -- a pass lets no step fall
    pass-most : {bound : ℕ → ℕ} (steps₀ levels₀ : List ℕ) → Pass S bound (label_in steps₀ levels₀) 0 → (k : ℕ) → Passing S (label_in steps₀ levels₀) k (label_in steps levels)
        → steps_in limits.nodes steps₀ ≤ steps_in limits.nodes steps
    pass-most steps₀ levels₀ p k q =
        let b = total_mono (λ v. get_or steps₀ v 0) (λ v. get_or steps v 0) (size S)
        (λ v l. (passing-grows S closed (label_in steps₀ levels₀) p k (label_in steps levels) q v l).steps) in
        omega (arith, steps-is steps₀ levels₀, steps-is steps levels)

    -- after a pass every difference holds
    all-least : {bound : ℕ → ℕ} {first next : List ℕ} → Linked differences limits.differences first next → Timed S limits.horizon steps levels → Pass S bound (label_in steps levels) (size S)
        → AllHold differences first steps limits.differences → LeastFrom S bound limits.horizon (label_in steps levels)
    all-least {first = first} linked timed p h =
        pass-least S closed (label_in steps levels) p limits.horizon
        (λ v l. record { into = λ d m e. All-at (Kept (λ u. get_or steps u 0)) S.differences all m }) timed.ends
      where
        each : (i : ℕ) → i < limits.differences → HoldsAt differences steps i
        each i l = go (leb (get_or steps (from_in differences i) 0 + plus_in differences i) (get_or steps (to_in differences i) 0 + minus_in differences i)) refl
          where
            go : (t : Bool) → leb (get_or steps (from_in differences i) 0 + plus_in differences i) (get_or steps (to_in differences i) 0 + minus_in differences i) ≡ t
                → HoldsAt differences steps i
            go true e = leb-true _ _ e
            go false e =
                absurd (h i l (record { heeded = linked-heeded differences linked i l (targets g i l); fails = λ k. omega (arith, leb-false (get_or steps (from_in differences i) 0 + plus_in differences i) (get_or steps (to_in differences i) 0 + minus_in differences i) e) }))

        all : All (Kept (λ u. get_or steps u 0)) S.differences
        all =
            All-ids (Kept (λ u. get_or steps u 0)) no_difference S.differences (λ i l.
            let k : i < limits.differences = omega (arith, g.count) in kept_at g steps i k (each i k))

    -- a sweep where a heeded difference fails moves a step
    sweep-most : {bound : ℕ → ℕ} (steps' levels' heeded : List ℕ) → Sweeping S bound (Heeded heeded) (label_in steps levels) 0 (label_in steps' levels')
        → SomeFails differences heeded steps limits.differences → steps_in limits.nodes steps < steps_in limits.nodes steps'
    sweep-most steps' levels' heeded w f =
        let i = f.0 in
        let to = g.listed.tos i (omega (arith, f.1, g.count)) in
        omega (
          arith,
          steps-is steps levels,
          steps-is steps' levels',
          sweep-moves S closed (Heeded heeded) (label_in steps levels) (label_in steps' levels') w (difference_at S i) (difference-in g i f.1)
              (subst (Heeded heeded) to f.2.heeded) (unkept (leb (get_or steps (d i).from 0 + (d i).plus) (get_or steps (d i).to 0 + (d i).minus)) refl),
        )
      where
        d : ℕ → Difference
        d = difference_at S

        unkept : (t : Bool) → leb (get_or steps (d f.0).from 0 + (d f.0).plus) (get_or steps (d f.0).to 0 + (d f.0).minus) ≡ t
            → get_or steps (d f.0).to 0 + (d f.0).minus < get_or steps (d f.0).from 0 + (d f.0).plus
        unkept true e = absurd (f.2.fails (holds_at g steps f.0 f.1 (leb-true _ _ e)))
        unkept false e = leb-false _ _ e

-- What ends the rounds: every round but the last moves a step, in the sweep after it, and steps are bounded. So the rounds so far are no more than
-- the sum of the steps; and at the last test, when every node was held, that sum was no more than held nodes can have. The next test comes after
-- at most twice as many rounds. So twice that sum, and the round of the first test, are the most rounds, whatever the horizon.
pub record Few (limits : R.Header) (steps rounds next : ℕ) : Type 0 where
  pub risen : rounds ≤ steps
  pub early : rounds < next
  pub near : next ≤ rounds_most limits
  pub fits : next < 4294967296

-- one round more: h is the sum of the steps before its pass, p after it, k after the sweep
module _ (limits : R.Header) (h p k rounds next : ℕ) (few : Few limits h rounds next) (pass : h ≤ p) (moved : p < k) where
  -- a round without the test, and one with it
  few-more : (rounds + 1 ≡ next → ⊥) → Few limits k (rounds + 1) next
  few-more n = record { risen = omega (arith, few.risen); early = omega (arith, few.early, n); near = few.near; fits = few.fits }

  few-tested : rounds + 1 ≡ next → p ≤ held_most limits → held_most limits < 2147483647 → (later : ℕ) → next < later → later ≤ next + next → Few limits k (rounds + 1) later
  few-tested e b s later l m =
      record { risen = omega (arith, few.risen); early = omega arith; near = omega (arith, few.risen); fits = omega (arith, few.risen) }

-- after a pass that goes on a difference fails, and the steps have not fallen; where it was whole every node keeps its other conditions
pub record GoesOn (S : Sheet) (bound : ℕ → ℕ) (graph differences : List ℕ) (limits : R.Header) (first heeded next kept steps steps' levels' : List ℕ) (whole : Bool) : Type 0 where
  pub going : Going S graph differences limits heeded next kept steps' levels'
  pub pass : Pass S bound (label_in steps' levels') 0
  pub settled : whole ≡ true → Pass S bound (label_in steps' levels') (size S)
  pub fails : SomeFails differences first steps' limits.differences
  pub grown : steps_in limits.nodes steps ≤ steps_in limits.nodes steps'

-- after the last pass the labels are found; after any other they go on
abbrev pub RoundEnds : (S : Sheet) (bound : ℕ → ℕ) (graph differences : List ℕ) (limits : R.Header) (first heeded next kept steps steps' levels' : List ℕ) (whole : Bool) → (last : Bool) → Type 0
RoundEnds S bound graph differences limits first heeded next kept steps steps' levels' whole true =
    Found S bound limits.horizon kept steps' levels'
RoundEnds S bound graph differences limits first heeded next kept steps steps' levels' whole false =
    GoesOn S bound graph differences limits first heeded next kept steps steps' levels' whole

-- what a pass says by its course and by whether the differences hold
module _ {S : Sheet} {graph differences : List ℕ} {limits : R.Header} (g : Given S graph differences limits) {first next : List ℕ}
    (linked : Linked differences limits.differences first next) (heeded kept steps₀ levels₀ steps levels : List ℕ) (whole : Bool)
    {bound : ℕ → ℕ} (p : Pass S bound (label_in steps₀ levels₀) 0) where
  settled : (k : ℕ) → Passing S (label_in steps₀ levels₀) k (label_in steps levels) → Pass S bound (label_in steps levels) k
  settled k q = passing-pass S (closed g) (label_in steps₀ levels₀) p k (label_in steps levels) q

  pub round-ends : (course : Course) (last : Bool) → CourseEnds differences first steps limits.differences course last
      → Passed S bound graph differences limits heeded next kept steps₀ levels₀ steps levels whole (Ok course)
      → RoundEnds S bound graph differences limits first heeded next kept steps₀ steps levels whole last
  round-ends Ran.Stopped true e h = absurd (not-both refl e)
  round-ends Ran.Stopped false e h =
      let i = h.fails.0 in
      let l = h.fails.1 in
      record {
        going = h.going;
        pass = pass-again S (label_in steps levels) h.turns (settled h.turns h.passing);
        settled = λ t. absurd (not-both t h.partly);
        fails = (i, l, record { heeded = linked-heeded differences linked i l (targets g i l); fails = h.fails.2.fails });
        grown = pass-most g steps levels steps₀ levels₀ p h.turns h.passing;
      }
  round-ends Ran.Whole true a h =
      record { least = all-least g steps levels linked h.0.timed (settled (size S) h.1) a; timed = h.0.timed; all_kept = h.0.all_kept }
  round-ends Ran.Whole false f h =
      record {
        going = h.0;
        pass = pass-again S (label_in steps levels) (size S) (settled (size S) h.1);
        settled = λ t. settled (size S) h.1;
        fails = f;
        grown = pass-most g steps levels steps₀ levels₀ p (size S) h.1;
      }

-- A round that goes on: the labels after its pass, then the differences that are heeded, then the sweep.
module _ {S : Sheet} {graph differences : List ℕ} {limits : R.Header} {first heeded₀ next kept steps₀ steps levels : List ℕ} {whole : Bool} {bound : ℕ → ℕ}
    (x : GoesOn S bound graph differences limits first heeded₀ next kept steps₀ steps levels whole) where
  -- A node floats. Without lower bounds nothing is legal (`floats-never`). Under bounds the test would be wrong: a floating set is refused because a legal
  -- labelling could be moved down on it, and a bound does not move with the rest. So there the test waits, and nothing is missed by that: every
  -- round but the last moves a step, within the sheet's own horizon fewer than 2^24 steps can be moved, and the test is not due before.
  pub round-floats : (due₀ rounds due : ℕ) → Testable limits bound due₀ → due₀ ≤ due → rounds + 1 ≡ due → Few limits (steps_in limits.nodes steps₀) rounds due
      → whole ≡ true → (v : ℕ) → v < limits.nodes → (HeldIn graph differences steps (shift_in limits) limits.nodes limits.differences v → ⊥) → NoneFrom S bound limits.horizon
  round-floats due₀ rounds due (inl free) le e few w v l n M legal from =
      floats-none x.going.given steps levels (subst (λ (b : ℕ → ℕ). Pass S b (label_in steps levels) (size S)) free (x.settled w)) v l n M legal
  round-floats due₀ rounds due (inr far) le e few w v l n M legal from =
      omega (arith, far.1, few.risen, x.grown, steps-near x.going.given steps levels x.going.timed far.0)

  module _ {heeded : List ℕ} {test : Bool} (y : Heeds graph differences limits next steps heeded test) where
    pub round-sweepable : Sweepable S bound graph differences limits heeded next steps levels
    round-sweepable =
        record {
          given = x.going.given;
          heeding = y.heeding;
          timed = x.going.timed;
          pass = x.pass;
        }

    module _ (steps' levels' : List ℕ) (z : SweepEnds S bound limits.horizon heeded steps levels steps' levels' true) where
      pub round-going : Going S graph differences limits heeded next kept steps' levels' × Pass S bound (label_in steps' levels') 0
      round-going = (record { given = x.going.given; heeding = y.heeding; all_kept = x.going.all_kept; timed = z.0 }, z.1.pass)

      module _ (rounds due : ℕ) (few : Few limits (steps_in limits.nodes steps₀) rounds due) where
        moved : steps_in limits.nodes steps < steps_in limits.nodes steps'
        moved = sweep-most x.going.given steps levels steps' levels' heeded z.1 y.fails

        pub round-more : (rounds + 1 ≡ due → ⊥) → Few limits (steps_in limits.nodes steps') (rounds + 1) due
        round-more = few-more limits _ (steps_in limits.nodes steps) _ rounds due few x.grown moved

        -- a test is not so late that twice as many rounds are no number of the code's
        pub round-fits : rounds + 1 ≡ due → test ≡ true → due < 2147483648
        round-fits e t = omega (arith, few.risen, x.grown, held-most x.going.given steps levels (y.held t), most-fits x.going.given)

        pub round-tested : rounds + 1 ≡ due → test ≡ true → (later : ℕ) → due < later → later ≤ due + due → Few limits (steps_in limits.nodes steps') (rounds + 1) later
        round-tested e t =
            few-tested limits _ (steps_in limits.nodes steps) _ rounds due few x.grown moved e (held-most x.going.given steps levels (y.held t))
            (most-fits x.going.given)

-- the least labels are those of the tables, node by node
least-same : (S : Sheet) → Closed S → (H : ℕ) (L R : ℕ → Label) → ((v : ℕ) → v < size S → R v ≡ L v) → Least S H L → Least S H R
least-same S c H L R e h =
    record {
      legal = ok-legal S R c H
          (λ v l. ok_same S c.ordered L R v (λ u q. e u (omega arith)) (legal-node S L h.legal v l))
          (λ v l. record {
            into = λ d m w.
                omega (
                  arith,
                  (legal-diffs S L h.legal v).into d m w,
                  ap (λ (a : Label). a.step) (e d.from (inside S c d m).0),
                  ap (λ (a : Label). a.step) (e d.to (inside S c d m).1),
                );
          })
          (λ v l. omega (arith, ap (λ (a : Label). a.step) (e v l), (h.legal.nodes v l).ends));
      least = λ M G ok v l. subst (λ (a : Label). a ≼ M v) (sym (e v l)) (h.least M G ok v l);
    }

-- what the end of all rounds says of the defined labels
module _ {S : Sheet} {graph differences : List ℕ} {limits : R.Header} (g : Given S graph differences limits) (cuts : cutless S ≡ []) where
  labels-least : (steps levels : List ℕ) → Least S limits.horizon (label_in steps levels) → least_within S limits.horizon ≡ least (labels_in limits.nodes steps levels)
  labels-least steps levels h =
      is-least S limits.horizon (least-right S g.well cuts limits.horizon) (labels_in limits.nodes steps levels) (length_over (label_in steps levels) (label 0 0) limits.nodes ∙ g.nodes)
      (least-same S (closed g) limits.horizon (label_in steps levels) (at (labels_in limits.nodes steps levels))
      (λ v l. get_d_over (label_in steps levels) (label 0 0) limits.nodes v (omega (arith, g.nodes))) h)

  pub labels-late : NoneLegal S limits.horizon → least_within S limits.horizon ≡ late
  labels-late h = is-late S limits.horizon (least-right S g.well cuts limits.horizon) h

  pub labels-end : (kept steps levels : List ℕ) (r : Bool) → Relaxed S unbounded limits.horizon kept steps levels r
      → Ends r (least_within S limits.horizon ≡ least (labels_in limits.nodes steps levels)) (least_within S limits.horizon ≡ late)
  labels-end kept steps levels true h = labels-least steps levels (least-plain S limits.horizon (label_in steps levels) h.least)
  labels-end kept steps levels false h = labels-late (none-plain S limits.horizon h)
