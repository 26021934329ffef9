use Rattle.std.proofs.Common.{◌≡◌, ℕ, ◌<◌, get_or}
use Rattle.flow.specs.declared.Code.TheVariants.{Inner, Barred}
use Rattle.cut.proofs.quick.all_leaves.Given as goal

abbrev pub invariant-loop-j : goal.invariant-loop-j
invariant-loop-j l = (i : ℕ) → i < l.j → get_or l.code (get_or l.cut i 0) Inner ≡ Barred → ⊥
