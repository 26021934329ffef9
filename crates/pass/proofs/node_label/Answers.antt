-- `node_label` meets its contract: one law for each kind.
use mathlib.Core.Path.{ap, ◌∙◌}
use Rattle.types.specs.Code.{kind_meant}
use Rattle.bound.proofs.Safety.{graph-falls, bounding}
use Rattle.pass.proofs.TurnNode.{kept-beside, kind-is, placed, settles-base, latest-room, settles-latest}
use Rattle.pass.proofs.node_label.Goals as goal

pub latest_arrival-latest-requires-clause-falling : goal.latest_arrival-latest-requires-clause-falling
latest_arrival-latest-requires-clause-falling c = graph-falls c.requires.underway.2.given

pub open_label-requires-clause-period_nonzero : goal.open_label-requires-clause-period_nonzero
open_label-requires-clause-period_nonzero c =
    let going = c.requires.underway.2 in
    let l = c.requires.v_lt_nodes in
    let v = c.args.v in
    let based = c.base_label-base.ensures c.requires.underway.0 (bounding going v l) in
    latest-room going v l c.requires.underway.3 based c.latest_arrival-latest.ensures

pub returns-in-Logic : goal.returns-in-Logic
returns-in-Logic c S bound going p l =
    let v = c.args.v in
    let here = placed going v l (kind-is going v l _ c.kind_in.ensures ∙ ap kind_meant c.in-Logic.is) in
    let x = c.table_label.ensures.settles S bound here (going.all_kept.keeps v here.node here.logic) p (c.base_label-base.ensures S (bounding going v l)) in
    record { settles = x.0; all_kept = kept-beside going.given.well going.all_kept c.table_label.ensures.kept_len_2 c.table_label.ensures.beside x.1 }

pub returns-in-Input : goal.returns-in-Input
returns-in-Input c S bound going p l =
    let v = c.args.v in
    record {
      settles = settles-base going v l p (c.base_label-base.ensures S (bounding going v l)) (kind-is going v l _ c.kind_in.ensures ∙ ap kind_meant c.in-Input.is);
      all_kept = going.all_kept;
    }

pub returns-in-Box : goal.returns-in-Box
returns-in-Box c S bound going p l =
    let v = c.args.v in
    record {
      settles =
          rw c.open_label.ensures
          (settles-latest going v l p (c.base_label-base.ensures S (bounding going v l)) _ _ (kind-is going v l _ c.kind_in.ensures ∙ ap kind_meant c.in-Box.is)
          c.latest_arrival-latest.ensures);
      all_kept = going.all_kept;
    }
