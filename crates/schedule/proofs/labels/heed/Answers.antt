-- `labels::heed` meets its contract.
use mathlib.Core.Path.{sym, subst}
use mathlib.Core.List.{List}
use Prim.Native.Nat.{ℕ}
use Rattle.bound.specs.Lookup.{Heeding}
use Rattle.bound.proofs.Safety.{summed-all}
use Rattle.hold.proofs.HoldMarks.{not-both}
use Rattle.sweep.proofs.Freezing.{frozen-heeding, thawed-heeding}
use Rattle.schedule.proofs.labels.heed.Goals.{else-mode-via-then-mode+else-some_float, else-mode-via-else-mode, then-mode-2, else-mode-2}
use Rattle.schedule.proofs.labels.heed.Goals as goal

pub thaw-requires-clause-by_index : goal.thaw-requires-clause-by_index
thaw-requires-clause-by_index c = let p = c.requires in summed-all p.by_index.2 p.by_index.3

pub returns : goal.returns
returns c =
    let p = c.requires in
    let a = c.args in
    let H : List ℕ → Type 0 = λ h. Heeding a.search.now.tables.now.differences a.search.now.limits.differences h a.search.now.next.now in
    let q : H c.if-mode-2.heeded = elim c.if-mode-2.branch [
      | then-mode-2 w ↦ subst H (sym w.heeded-is) (frozen-heeding p.linked w.freeze.ensures.frozen)
      | else-mode-2 w ↦ subst H (sym w.heeded-is) p.heeding
    ] in
    let r = thawed-heeding c.if-mode-2.heeded c.thaw.new.heeded p.linked q p.some_fails c.thaw.ensures in
    record {
      heeding = r.0;
      fails = r.1;
      held = λ t. elim c.else-mode.branch [
        | else-mode-via-then-mode+else-some_float w ↦ rw w.if-some_float.false at w.some_float.ensures
        | else-mode-via-else-mode w ↦ absurd (not-both t w.if-mode.false)
      ];
    }
