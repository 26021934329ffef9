-- What `visit` and `visit_operands` find, from what each learns of the other.
use native.Mathlib.Omega.{arith}
use Prim.Native.Nat.{ℕ, ◌-◌, ◌≤◌, ◌<◌}
use mathlib.Core.Path.{◌≡◌, sym, subst, ◌∙◌}
use mathlib.Core.Logic.{⊎_elim}
use mathlib.Core.List.{[], ◌∷◌, List}
use lib.ListN.{length, get_or, length-append}
use Rattle.rows.specs.Table.{count_in}
use Rattle.cone.specs.declared.Part.TheVariants.{Unmet}
use Rattle.cone.specs.Walk.{marked}
use Rattle.cone.specs.Part.{Walking}
use Rattle.cone.proofs.Visits.{met-visit, leaf-visit, member-begun, member-visit, met_all, all-first, next, stop-here, ended}
use Rattle.cone.proofs.+visit_visit_operands.Goals as goal

pub visit-returns-in-Member : goal.visit-returns-in-Member
visit-returns-in-Member g t c =
    let a = c.args in
    let q = c.requires in
    let met : get_or a.part.now a.u Unmet ≡ Unmet → ⊥ = λ z. ⊎_elim (λ m. (cc)) (λ m. (cc)) c.in-Member.is in record {
      part_len = (q.lent.wide, omega arith, omega arith);
      visit_ends = λ S v k n o l h w e. (
        _,
        met-visit S _ _ v k o a.part.now a.spare a.u w q.spare_nonzero q.lent (omega arith) n l met,
        subst (g.T.Tally.counts a.tally.now) (sym (length-append o (a.u ∷ []))) e,
      );
    }

pub visit-returns-then-marks-i-clause-visit_ends : goal.visit-returns-then-marks-i-clause-visit_ends
visit-returns-then-marks-i-clause-visit_ends g t c =
    let a = c.args in
    let q = c.requires in
    let f = c.visit_operands in
    let new = c.in-Unmet.is in
    let m = c.if-marks-i.true in
    λ S v k n o l h w e.
    let begun = member-begun S a.graph.now _ v k o a.part.now a.spare a.u w q.spare_nonzero q.lent (omega arith) n l new m in
    let r = f.ensures.operands_end S v k (n - 1) _ (omega arith) (omega arith) begun (subst (g.T.Tally.counts a.tally.now) (sym (length-append o (a.u ∷ []))) e) in
    (r.0, member-visit S _ _ v k o a.part.now a.spare a.u w q.spare_nonzero q.lent (omega arith) n l new m r.0 f.new.part f.result r.1, r.2)

pub visit-returns-else-marks-i-clause-visit_ends : goal.visit-returns-else-marks-i-clause-visit_ends
visit-returns-else-marks-i-clause-visit_ends g t c =
    let a = c.args in
    let q = c.requires in
    λ S v k n o l h w e. (
      _,
      leaf-visit S _ _ v k o a.part.now a.spare a.u w q.spare_nonzero q.lent (omega arith) n l c.in-Unmet.is c.if-marks-i.false,
      subst (g.T.Tally.counts a.tally.now) (sym (length-append o (a.u ∷ []))) e,
    )

pub visit_operands-returns-then-left-eq0-clause-operands_end : goal.visit_operands-returns-then-left-eq0-clause-operands_end
visit_operands-returns-then-left-eq0-clause-operands_end g t c =
    let a = c.args in
    let lent = c.requires.lent in
    let loop = c.loop-j in
    let here : loop.j < count_in a.graph.now a.u = omega (arith, c.count_in-j-end.ensures) in
    let fall = lent.falling.falls a.u loop.j lent.node here in
    let y = c.operand_in.ensures in
    let e = c.visit-left in
    λ S v k n o l h w told.
    let m = loop.invariant.met S v k n o l h w told in
    let r = e.ensures.visit_ends S v k n _ (omega arith) h m.0 (c.look.ensures.counted _ m.1) in
    (r.0, stop-here S _ _ v k a.u n lent.node o loop.j w.tabled here _ y r.0 e.new.part e.result c.if-left-eq0.true r.1, r.2)

pub visit_operands-loop-j-init : goal.visit_operands-loop-j-init
visit_operands-loop-j-init g t c =
    record { wide = c.requires.lent.wide; spares = (c.requires.spare_nonzero, omega arith); room = omega arith; met = λ S v k n o l h w told. (w, told) }

pub visit_operands-loop-j-preserved : goal.visit_operands-loop-j-preserved
visit_operands-loop-j-preserved g t c =
    let a = c.args in
    let lent = c.requires.lent in
    let loop = c.loop-j in
    let here : loop.j < count_in a.graph.now a.u = omega (arith, c.count_in-j-end.ensures) in
    let few = lent.falling.few a.u lent.node in
    let fall = lent.falling.falls a.u loop.j lent.node here in
    let y = c.operand_in.ensures in
    let e = c.visit-left in
    let spares : 0 < e.result = omega (arith, c.if-left-eq0.false) in record {
      wide = e.ensures.part_len.0;
      spares = (spares, omega (arith, e.ensures.part_len.1, loop.invariant.spares.1));
      room = omega (arith, e.ensures.part_len.2, loop.invariant.room, c.look.ensures.room);
      met = λ S v k n o l h w told.
          let m = loop.invariant.met S v k n o l h w told in
          let r = e.ensures.visit_ends S v k n _ (omega arith) h m.0 (c.look.ensures.counted _ m.1) in
          let same = met_all S _ _ v k _ r.0 _ e.result r.1 spares ∙ sym (next S _ _ v k a.u n lent.node o loop.j w.tabled here _ y) in (
            subst (λ (i : List ℕ). Walking S a.graph.now (marked a.marks.now) v k i e.new.part e.result) same r.1.walking,
            subst (λ (i : List ℕ). g.T.Tally.counts e.new.tally (length i)) same r.2,
          );
    }

pub visit_operands-returns-clause-operands_end : goal.visit_operands-returns-clause-operands_end
visit_operands-returns-clause-operands_end g t c =
    let a = c.args in
    let lent = c.requires.lent in
    let loop = c.loop-j in
    let done : count_in a.graph.now a.u ≤ loop.j = omega (arith, c.count_in-j-end.ensures) in
    λ S v k n o l h w told.
    let m = loop.invariant.met S v k n o l h w told in
    let same = all-first S _ _ v k a.u n lent.node o loop.j w.tabled done in (
      _,
      ended S _ _ v k (subst (λ (i : List ℕ). Walking S a.graph.now (marked a.marks.now) v k i loop.part loop.left) same m.0) loop.invariant.spares.0,
      subst (λ (i : List ℕ). g.T.Tally.counts loop.tally (length i)) same m.1,
    )
