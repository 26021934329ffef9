-- `line::read_words` meets its contract: the line's ground decides.
use mathlib.Core.Path.{sym, ap, ◌∙◌}
use mathlib.Core.List.{◌∷◌, ◌++◌}
use Rattle.blif.specs.Scan.{name_at, words_at}
use Rattle.blif.specs.Subset.{Statement, stage_after, statement as statement_of}
use Rattle.blif.specs.Names.{defined}
use Rattle.blif.proofs.Walking.{words-some}
use Rattle.subset.specs.Meant.{stage_meant, statement_meant}
use Rattle.definitions.proofs.Keeping.{kept_same}
use Rattle.model.proofs.Turning.{turn-next, turn-refused, found-fault, good-lawful}
use Rattle.model.proofs.line.read_words.Goals as goal

pub keep_line-requires-clause-kept : goal.keep_line-requires-clause-kept
keep_line-requires-clause-kept c =
    let M = c.requires.kept.0 in
    let k = c.requires.kept.1 in
    (M.definitions, k, good-lawful M k (statement_meant c.statement_at-statement.result (words_at c.args.text.now c.after_word-rest.result)) c.in-Ok.ensures)

pub returns-in-Err : goal.returns-in-Err
returns-in-Err c =
    let T = c.args.text.now in
    let rest = c.after_word-rest in
    let t = c.statement_at-statement in
    let w = name_at T c.args.first in
    let ws = words_at T rest.result in
    let stage = stage_meant c.args.stage in
    let e = words-some T c.args.at c.args.first rest.result c.requires.at_in_bounds.2 c.requires.at_in_bounds.3 rest.ensures.0 in
    λ M k.
    turn-refused T c.args.delay c.args.at c.args.stage M w ws e c.refused.result c.in-Err.ground c.refused.ensures.0 (c.refused.ensures.1 ∙ c.line_number.ensures)
    (found-fault M k _ (statement_meant t.result ws) (statement_of stage (w ∷ ws)) c.in-Err.ensures t.ensures.0)

pub returns-in-Ok : goal.returns-in-Ok
returns-in-Ok c =
    let T = c.args.text.now in
    let rest = c.after_word-rest in
    let t = c.statement_at-statement in
    let w = name_at T c.args.first in
    let ws = words_at T rest.result in
    let stage = stage_meant c.args.stage in
    let e = words-some T c.args.at c.args.first rest.result c.requires.at_in_bounds.2 c.requires.at_in_bounds.3 rest.ensures.0 in
    let next = c.stage_after.ensures ws (sym c.count_words-count.ensures) in
    λ M k.
    turn-next T c.args.delay c.args.at c.args.stage M w ws e c.keep_line.new.circuit c.stage_after.result
    (found-fault M k 0 (statement_meant t.result ws) (statement_of stage (w ∷ ws)) c.in-Ok.ensures t.ensures.0) (next ∙ ap (stage_after stage) t.ensures.0)
    (kept_same (ap (λ (s : Statement). M.definitions ++ defined s) t.ensures.0) (c.keep_line.ensures M.definitions k (good-lawful M k (statement_meant t.result ws) c.in-Ok.ensures)))
