use Rattle.types.specs.Code.{label_of}
use Rattle.level.proofs.LevelCodes.{Coded}
use Rattle.level.proofs.level.codes.Given as goal

abbrev pub invariant-loop-u : goal.invariant-loop-u
invariant-loop-u l = Coded l.graph l.labels.steps l.labels.levels l.v l.top.0 (label_of l.by) l.code l.u
