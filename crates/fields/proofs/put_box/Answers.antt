-- `put_box` meets its contract.
use Rattle.std.proofs.Common.{◌∙◌}
use Rattle.ranges.specs.Ranges.{span_meant}
use Rattle.fields.proofs.WroteLaws.{wrote-no-box, wrote-box}
use Rattle.fields.proofs.put_box.Goals as goal

pub returns-then-valid : goal.returns-then-valid
returns-then-valid c = λ is_box e. wrote-box (span_meant c.args.span) is_box c.args.x (e ∙ c.if-valid.true) c.put_in.ensures

pub returns-else-valid : goal.returns-else-valid
returns-else-valid c =
    λ is_box e. wrote-no-box (span_meant c.args.span) is_box c.args.x c.args.bytes.now c.args.position (e ∙ c.if-valid.false)
