-- `name::name_length` meets its contract: a name has no more bytes than its text.
use mathlib.Core.Path.{ap}
use mathlib.Core.Logic.{inl}
use native.Mathlib.Omega.{arith}
use lib.ListN.{length}
use Rattle.blif.proofs.Walking.{name-length-most}
use Rattle.scan.proofs.name.name_length.Goals as goal

pub count-requires-clause-fits : goal.count-requires-clause-fits
count-requires-clause-fits c = inl (omega (arith, ap length c.name_bytes.ensures, name-length-most c.args.text.now c.args.at))
