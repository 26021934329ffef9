-- `labels::seek` meets its contract.
use mathlib.Core.Logic.{inl}
use mathlib.Core.Path.{refl}
use Rattle.relax.specs.Guard.{unbounded}
use Rattle.schedule.proofs.Starts.{first-resumable}
use Rattle.schedule.proofs.labels.seek.Goals as goal

pub resume-requires-clause-by_index : goal.resume-requires-clause-by_index
resume-requires-clause-by_index c =
    let p = c.requires in
    (p.0, unbounded, first-resumable p.1 p.2 c.in_ok-start.ensures)

pub returns : goal.returns
returns c S given kept =
    c.resume.ensures S unbounded (first-resumable given kept c.in_ok-start.ensures) (inl refl)
