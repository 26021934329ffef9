use Rattle.std.proofs.Common.{◌≡◌, ℕ, false, ◌≤◌, ◌<◌, length, get_or}
use Rattle.cut.specs.Quick.{inside_mark}
use Rattle.flow.specs.declared.Code.TheVariants.{Inner}
use Rattle.cut.proofs.quick.mark_inside.Given as goal

abbrev pub invariant-loop-u : goal.invariant-loop-u
invariant-loop-u l =
    (length l.marks ≡ 256)
    × ((i : ℕ) → i < l.u → get_or l.marks i false ≡ inside_mark (get_or l.code i Inner))
    × ((i : ℕ) → l.u ≤ i → get_or l.marks i false ≡ false)
