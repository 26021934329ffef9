-- `number::number_at` meets its contract: the bytes that were read and the tests on the way say which case of the definition holds.
use Rattle.std.proofs.lemmas.Result.{err_from_is_err_and}
use Rattle.number.proofs.Bytewise.{no-first, one-byte, no-second, second-zero, two-bytes, no-third, third-zero, third-large, three-bytes}
use Rattle.number.proofs.number_at.Goals as goal
use Rattle.number.proofs.number_at.Goals.{then-high-eq0-via-then-high-eq0, then-high-eq0-via-else-high-eq0+then-high-ge128}

pub returns-in_err-low : goal.returns-in_err-low
returns-in_err-low c =
    let p = err_from_is_err_and c.from_residual.result c.from_residual.ensures.1 in
    rw (p.1, p.2, c.in_err-low.ensures.1) (no-first _ _ c.in_err-low.ensures.0)

pub returns-then-low-lt128 : goal.returns-then-low-lt128
returns-then-low-lt128 c = one-byte _ _ _ c.in_ok-low.ensures c.if-low-lt128.true

pub returns-in_err-middle : goal.returns-in_err-middle
returns-in_err-middle c =
    let p = err_from_is_err_and c.from_residual-in_err-middle.result c.from_residual-in_err-middle.ensures.1 in
    rw (p.1, p.2, c.in_err-middle.ensures.1) (no-second _ _ _ c.in_ok-low.ensures c.if-low-lt128.false c.in_err-middle.ensures.0)

pub returns-then-middle-eq0 : goal.returns-then-middle-eq0
returns-then-middle-eq0 c = second-zero _ _ _ c.in_ok-low.ensures c.if-low-lt128.false _ c.in_ok-middle.ensures c.if-middle-eq0.true

pub returns-then-middle-lt128 : goal.returns-then-middle-lt128
returns-then-middle-lt128 c =
    two-bytes _ _ _ c.in_ok-low.ensures c.if-low-lt128.false _ c.in_ok-middle.ensures c.if-middle-eq0.false c.if-middle-lt128.true

pub returns-in_err-high : goal.returns-in_err-high
returns-in_err-high c =
    let p = err_from_is_err_and c.from_residual-in_err-high.result c.from_residual-in_err-high.ensures.1 in
    rw (p.1, p.2, c.in_err-high.ensures.1)
    (no-third _ _ _ c.in_ok-low.ensures c.if-low-lt128.false _ c.in_ok-middle.ensures c.if-middle-lt128.false c.in_err-high.ensures.0)

pub returns-then-high-eq0 : goal.returns-then-high-eq0
returns-then-high-eq0 c =
    elim c.then-high-eq0.branch [
      | then-high-eq0-via-then-high-eq0 w ↦ third-zero _ _ _ c.in_ok-low.ensures c.if-low-lt128.false _ c.in_ok-middle.ensures c.if-middle-lt128.false _ c.in_ok-high.ensures w.if-high-eq0.true
      | then-high-eq0-via-else-high-eq0+then-high-ge128 w ↦ third-large _ _ _ c.in_ok-low.ensures c.if-low-lt128.false _ c.in_ok-middle.ensures c.if-middle-lt128.false _ c.in_ok-high.ensures w.if-high-ge128.true
    ]

pub returns : goal.returns
returns c =
    three-bytes _ _ _ c.in_ok-low.ensures c.if-low-lt128.false _ c.in_ok-middle.ensures c.if-middle-lt128.false _ c.in_ok-high.ensures c.if-high-eq0.false c.if-high-ge128.false
