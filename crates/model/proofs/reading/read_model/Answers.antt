-- `reading::read_model` meets its contract.
use native.Mathlib.Omega.{arith}
use Rattle.blif.proofs.Walking.{lines-most}
use Rattle.model.proofs.reading.read_model.Goals as goal

pub overflow_add-result : goal.overflow_add-result
overflow_add-result c =
    omega (arith, c.line_count.ensures, lines-most c.args.text.now, c.requires.0)
