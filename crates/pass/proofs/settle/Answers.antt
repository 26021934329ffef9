-- `settle` meets its contract.
use Rattle.std.specs.Prelude.{is_ok}
use Rattle.types.specs.Code.{label_of}
use Rattle.pass.proofs.Turns.{turn-ends}
use Rattle.pass.proofs.settle.Goals as goal

pub returns : goal.returns
returns c S bound going p l =
    let x = c.node_label-label.ensures S bound going p l in
    let q = c.place_label in
    turn-ends going c.args.v l (label_of c.node_label-label.result) q.new.self.steps q.new.self.levels p x.settles x.all_kept (is_ok q.result) q.ensures
