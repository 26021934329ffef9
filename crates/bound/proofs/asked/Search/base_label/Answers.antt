-- `asked::Search::base_label` meets its contract.
use mathlib.Core.Path.{ap, ◌∙◌}
use Rattle.maps.specs.Label.{Label, label, later}
use Rattle.types.specs.Code.{label_of}
use Rattle.bound.specs.Lookup.{label_in}
use Rattle.bound.proofs.Safety.{delay-is}
use Rattle.bound.proofs.asked.Search.base_label.Goals as goal

pub returns : goal.returns
returns c = λ S b.
    let a = c.args in
    let q = c.step_asked-s in
    let r = q.ensures.asks S a.labels.now.levels b in
    let own = label_in a.labels.now.steps a.labels.now.levels a.v in
    record {
      step = q.result.0;
      asks = r.0;
      fits = r.1;
      base = c.later.ensures ∙ ap (λ (x : Label). later x (label_of c.at.result)) c.label_of.ensures
          ∙ ap (later own) (c.at.ensures ∙ ap (label q.result.0) (c.delay_in-delay.ensures ∙ delay-is b.given a.v b.node));
    }
