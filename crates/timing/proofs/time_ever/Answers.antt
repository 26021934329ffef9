-- `timing::time_ever` meets its contract.
use borrow.Author.Rules.{rules}
use mathlib.Core.Bool.{false, true}
use mathlib.Core.Path.{◌≡◌, ◌∙◌}
use Rattle.std.specs.Prelude.{is_ok}
use Rattle.std.proofs.lemmas.Result.{err_from_is_err_and}
use Rattle.types.specs.declared.Refusal.TheVariants.{Never}
use Rattle.timing.specs.Timing.{is_never, is-late, is-in-time}
use Rattle.timing.proofs.time_ever.Goals as goal

pub returns-in_err-map_err : goal.returns-in_err-map_err
returns-in_err-map_err c S levels t n free e =
    let q : c.in_err-map_err.field-0.0 ≡ Never 0 = search rules in
    let z : is_ok c.args.found ≡ false = search rules in
    let p = err_from_is_err_and c.from_residual.result c.from_residual.ensures.1 in
    rw (p.1, p.2, q) (is_never free (rw z at e))

pub returns-then-not-in_time : goal.returns-then-not-in_time
returns-then-not-in_time c S levels t n free e =
    let q : is_ok c.args.found ≡ true = search rules in
    is-late free (rw q at e) (c.in_time.ensures S levels t n ∙ c.if-not-in_time.true)

pub returns : goal.returns
returns c S levels t n free e =
    let q : is_ok c.args.found ≡ true = search rules in
    is-in-time free (rw q at e) (c.in_time.ensures S levels t n ∙ c.if-not-in_time.false)
