-- `subset::statement_at` meets its contract.
use Rattle.blif.specs.Scan.{name_at, words_at}
use Rattle.subset.specs.Meant.{statement_meant}
use Rattle.subset.proofs.LineLaws.{cover-line, latched-line, last_line}
use Rattle.subset.proofs.statement_at.Goals as goal

pub returns-in-Cover : goal.returns-in-Cover
returns-in-Cover c =
    (rw c.in-Cover.is (cover-line (name_at c.args.text.now c.args.first) (words_at c.args.text.now c.args.rest) c.in-Cover.inputs (statement_meant c.body_line.result (words_at c.args.text.now c.args.rest)) (statement_meant c.row_line-other.result (words_at c.args.text.now c.args.rest)) c.row_line-other.ensures.0 c.body_line.ensures.0), c.body_line.ensures.1)

pub returns-in-Latched : goal.returns-in-Latched
returns-in-Latched c =
    (rw c.in-Latched.is (latched-line (name_at c.args.text.now c.args.first) (words_at c.args.text.now c.args.rest) (statement_meant c.body_line-in-Latched.result (words_at c.args.text.now c.args.rest)) c.body_line-in-Latched.ensures.0), c.body_line-in-Latched.ensures.1)

pub returns-in-Last : goal.returns-in-Last
returns-in-Last c =
    (rw c.in-Last.is (last_line (name_at c.args.text.now c.args.first) (words_at c.args.text.now c.args.rest)), tt)
