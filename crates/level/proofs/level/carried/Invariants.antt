use Rattle.bound.specs.Bound.{Carrying}
use Rattle.level.proofs.LevelSpan.{arrival_of}
use Rattle.level.proofs.level.carried.Given as goal

abbrev pub invariant-loop-j : goal.invariant-loop-j
invariant-loop-j l = Carrying l.top.0 l.s.0 l.j (arrival_of l.graph l.labels.steps l.labels.levels l.kept l.v l.top.0) l.most.0
