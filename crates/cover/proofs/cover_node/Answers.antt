-- `cover::cover_node` meets its contract: one law for each kind.
use mathlib.Core.Path.{sym, ap, ◌∙◌}
use Rattle.maps.specs.Sheet.{is_logic, is_box}
use Rattle.types.specs.Code.{kind_meant}
use Rattle.types.specs.declared.Kind as K
use Rattle.cover.proofs.CoverMarks.{marked-own, rows-marked, rows_written}
use Rattle.cover.proofs.CoverTurn.{turn-idle, turn-input, turn-box, turn-logic, kind-logic}
use Rattle.cover.proofs.cover_node.Goals as goal

pub returns-then-not-is_used-clause-cover_from : goal.returns-then-not-is_used-clause-cover_from
returns-then-not-is_used-clause-cover_from c = λ S laid l g. turn-idle laid l g c.is_used.ensures c.if-not-is_used.true

pub returns-in-Input : goal.returns-in-Input
returns-in-Input c =
    let rows = c.requires.rows in
    let m = marked-own c.args.used.now c.args.v rows.marks-wide c.requires.v_bound.0 in record {
      cover_from = λ S laid l g.
          turn-input laid l g c.is_used.ensures c.if-not-is_used.false rows (sym (ap kind_meant c.in-Input.is) ∙ c.kind_in.ensures) m;
      rows_2 = rows-marked rows m;
    }

pub returns-in-Box : goal.returns-in-Box
returns-in-Box c =
    let rows = c.requires.rows in
    let m = marked-own c.args.used.now c.args.v rows.marks-wide c.requires.v_bound.0 in
    let a = sym (ap is_box c.kind_in.ensures) ∙ ap (λ (x : K.Kind). is_box (kind_meant x)) c.in-Box.is in
    let n = c.mark_operands.ensures in
    record { cover_from = λ S laid l g. turn-box laid l g c.is_used.ensures c.if-not-is_used.false rows a m n; rows_2 = rows-marked (rows-marked rows m) n }

pub returns-in-Logic : goal.returns-in-Logic
returns-in-Logic c =
    let e = c.is_used in
    let q = c.if-not-is_used.false in
    let rows = c.requires.rows in
    let m = marked-own c.args.used.now c.args.v rows.marks-wide c.requires.v_bound.0 in
    let a = sym (ap is_logic c.kind_in.ensures) ∙ ap (λ (x : K.Kind). is_logic (kind_meant x)) c.in-Logic.is in
    let w = c.write_cut.ensures in
    let n = c.mark_leaves.ensures in record {
      cover_from = λ S laid l g. turn-logic laid l g e.ensures q rows a w.written (w.v_after S laid l (kind-logic laid l g e.ensures q rows a)) m n;
      rows_2 = rows-marked (rows_written (rows-marked rows m) w.written) n;
    }
