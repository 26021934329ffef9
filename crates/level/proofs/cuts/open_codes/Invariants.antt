use Rattle.level.proofs.CutTests.{OpenTo}
use Rattle.level.proofs.cuts.open_codes.Given as goal

abbrev pub invariant-loop-u : goal.invariant-loop-u
invariant-loop-u l = OpenTo l.graph l.code l.v l.u
