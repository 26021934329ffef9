-- `outputs::mark_outputs` meets its contract: what marking the outputs of the lines from the position on comes to is what marking all comes to.
use mathlib.Core.Path.{◌∙◌}
use Rattle.std.specs.Prelude.{Ok, Err}
use Rattle.types.specs.declared.Refusal.TheVariants.{Name}
use Rattle.names.specs.Table.{names_in}
use Rattle.names.proofs.Tables.{length-names}
use Rattle.outputs.proofs.Marking.{outputs-end, outputs-marked, outputs-stop, model-marked}
use Rattle.outputs.proofs.mark_outputs.Goals as goal

pub returns-then-not-mark_line-clause-by_index : goal.returns-then-not-mark_line-clause-by_index
returns-then-not-mark_line-clause-by_index c =
    let l = c.loop-at in
    let a = c.args in
    let ns = names_in a.names.now a.count in
    let nodes = c.mark_line.new.nodes in
    let stop =
    outputs-stop a.text.now ns l.at c.after_line-next.result c.loop-at-test.true c.after_line-next.ensures.0 l.nodes nodes nodes c.mark_line.result c.mark_line.ensures.words_marked
    c.line_number.result c.if-not-mark_line.true c.line_number.ensures in
    model-marked a.text.now ns a.count a.nodes.now nodes (Err (Name c.line_number.result)) (length-names a.names.now a.count) (l.invariant.1 nodes (Err (Name c.line_number.result)) stop)

pub loop-at-preserved : goal.loop-at-preserved
loop-at-preserved c =
    let l = c.loop-at in
    let a = c.args in
    let ns = names_in a.names.now a.count in
    let nodes = c.mark_line.new.nodes in (
      c.mark_line.ensures.nodes_len_unchanged ∙ l.invariant.0,
      λ after r p.
          l.invariant.1 after r
          (outputs-marked a.text.now ns l.at c.after_line-next.result c.loop-at-test.true c.after_line-next.ensures.0 l.nodes nodes after c.mark_line.result c.mark_line.ensures.words_marked
          r c.if-not-mark_line.false p),
    )

pub returns-clause-by_index : goal.returns-clause-by_index
returns-clause-by_index c =
    let l = c.loop-at in
    let a = c.args in
    let ns = names_in a.names.now a.count in
    model-marked a.text.now ns a.count a.nodes.now l.nodes (Ok tt) (length-names a.names.now a.count) (l.invariant.1 l.nodes (Ok tt) (outputs-end a.text.now ns l.at l.nodes c.loop-at-test.false))
