-- `fill::read_windows` meets its contract: one entry a turn, and storing it changes no kind.
use Prim.Native.Nat.{◌<◌}
use mathlib.Core.Path.{sym, ap, ◌∙◌}
use borrow.Author.Rules.{rules}
use native.Mathlib.Omega.{arith}
use Rattle.std.proofs.lemmas.Result.{err_from_is_err_and}
use Rattle.maps.proofs.Parse.{window-inside}
use Rattle.rows.specs.Table.{boxes_in}
use Rattle.window_read.specs.Code.{entry_meant}
use Rattle.sheet.proofs.Boxes.{boxes-kept}
use Rattle.sheet.proofs.Turns.{window-turn, window-stop, windows-done}
use Rattle.sheet.proofs.fill.read_windows.Goals as goal

pub returns-in_err-entry : goal.returns-in_err-entry
returns-in_err-entry c =
    let p = err_from_is_err_and c.from_residual.result c.from_residual.ensures.1 in
    let e = rw c.loop.invariant.boxes at c.in_err-entry.ensures in
    rw (p.1, p.2) (sym (window-stop _ _ _ _ _ _ _ _ _ (search rules) _ _ (sym e)) ∙ c.loop.invariant.rest)

pub store_window-requires : goal.store_window-requires
store_window-requires c =
    let w : c.in_ok-entry.entry.id < c.args.n = window-inside _ _ _ _ _ _ c.requires.0 _ _ (sym c.in_ok-entry.ensures) in
    omega (arith, c.requires.2)

pub overflow_add-low : goal.overflow_add-low
overflow_add-low c =
    let w : c.in_ok-entry.entry.id < c.args.n = window-inside _ _ _ _ _ _ c.requires.0 _ _ (sym c.in_ok-entry.ensures) in
    omega (arith, c.ranges.n.fits)

pub loop-preserved : goal.loop-preserved
loop-preserved c =
    let e = rw c.loop.invariant.boxes at c.in_ok-entry.ensures in
    let g = c.store_window.ensures in record {
      boxes = ap boxes_in g ∙ boxes-kept _ (entry_meant c.in_ok-entry.entry) ∙ c.loop.invariant.boxes;
      rest = rw g (sym (window-turn _ _ _ _ _ _ _ _ _ (search rules) _ _ (sym e)) ∙ c.loop.invariant.rest);
    }

pub returns : goal.returns
returns c = sym (windows-done _ _ _ _ _ _ _ _ _ (omega arith)) ∙ c.loop.invariant.rest
