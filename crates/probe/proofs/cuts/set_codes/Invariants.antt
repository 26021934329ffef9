use Rattle.std.proofs.Common.{◌≡◌, ℕ, ◌<◌, length, get_or}
use Rattle.maps.specs.Sheet.{is_logic}
use Rattle.rows.specs.Table.{kind_at}
use Rattle.cut.specs.Question.{code_for}
use Rattle.probe.specs.Probe.{allowed_in}
use Rattle.flow.specs.declared.Code.TheVariants.{Inner}
use Rattle.probe.proofs.cuts.set_codes.Given as goal

abbrev pub invariant-loop-u : goal.invariant-loop-u
invariant-loop-u l =
    (length l.code ≡ 256)
    × ((i : ℕ) → i < l.u → get_or l.code i Inner ≡ code_for (is_logic (kind_at l.graph i)) (allowed_in l.allowed i))
    × (get_or l.code l.v Inner ≡ Inner)
