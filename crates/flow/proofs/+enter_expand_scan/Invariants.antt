-- The measure counts the places of `seen` that are not marked. The loop's invariant: no operand before the jth led on, and all of these are entered.
use Rattle.std.proofs.Common.{ℕ, ◌+◌, ◌*◌, ◌<◌}
use mathlib.Core.Bool.{not}
use Rattle.std.specs.List.{count_by}
use Rattle.rows.specs.Table.{operand_in}
use Rattle.flow.specs.Search.{Blocked, Entered}
use Rattle.flow.proofs.+enter_expand_scan.Given as goal

abbrev pub decreases-enter : goal.decreases-enter
decreases-enter l = count_by not l.seen.now * 16 + 1

abbrev pub decreases-expand : goal.decreases-expand
decreases-expand l = count_by not l.seen.now * 16

abbrev pub decreases-scan : goal.decreases-scan
decreases-scan l = count_by not l.seen.now * 16 + 2

abbrev pub invariant-scan-loop-j : goal.invariant-scan-loop-j
invariant-scan-loop-j l = record {
  block : Blocked l.graph l.code l.initial.seen l.seen l.initial.above l.above;
  entered : (i : ℕ) → i < l.j → Entered l.code l.seen (operand_in l.graph l.p i);
}
