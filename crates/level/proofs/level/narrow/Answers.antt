-- `level::narrow` meets its contract.
use Rattle.types.specs.Code.{label_of}
use Rattle.rows.proofs.SheetTables.{falling}
use Rattle.level.proofs.LevelSpan.{kept_leaves, tried-at, tried-true, narrowed-up, narrowed-down}
use Rattle.level.proofs.level.narrow.Goals as goal

pub try_level-requires-clause-falling : goal.try_level-requires-clause-falling
try_level-requires-clause-falling c =
    let p = c.requires.placed.1 in
    falling c.requires.placed.0 c.args.graph.now p.well p.tabled

pub returns-then-not-try_level-clause-narrowed : goal.returns-then-not-try_level-clause-narrowed
returns-then-not-try_level-clause-narrowed c =
    let a = c.args in
    let l = c.between-l in
    let e = c.try_level in
    let none = c.if-not-try_level.true in
    narrowed-up l.ensures.0 l.ensures.1 c.requires.low_lt_high.1 e.result none (e.ensures.kept_unchanged none)
    (tried-at a.graph.now a.labels.now.steps a.labels.now.levels a.v a.limits a.s.0 e.new.kept l.result.0 e.result (label_of c.at.result) c.at.ensures e.ensures.tried_level)

pub carried-most-requires-clause-leaves : goal.carried-most-requires-clause-leaves
carried-most-requires-clause-leaves c =
    let a = c.args in
    let p = c.requires.placed.1 in
    let l = c.between-l in
    let e = c.try_level in
    let tried = tried-at a.graph.now a.labels.now.steps a.labels.now.levels a.v a.limits a.s.0 e.new.kept l.result.0 e.result (label_of c.at.result) c.at.ensures e.ensures.tried_level in
    kept_leaves p
    (tried-true a.graph.now a.labels.now.steps a.labels.now.levels a.v a.limits a.s.0 e.new.kept l.result.0 e.result c.if-not-try_level.false tried c.requires.placed.0 p).0
    c.requires.by_index

pub returns-clause-narrowed : goal.returns-clause-narrowed
returns-clause-narrowed c =
    let a = c.args in
    let l = c.between-l in
    let e = c.try_level in
    let tried = tried-at a.graph.now a.labels.now.steps a.labels.now.levels a.v a.limits a.s.0 e.new.kept l.result.0 e.result (label_of c.at.result) c.at.ensures e.ensures.tried_level in
    narrowed-down c.requires.low_lt_high.0 l.ensures.1 c.requires.low_lt_high.1 c.carried-most.ensures c.higher.ensures
    (tried-true a.graph.now a.labels.now.steps a.labels.now.levels a.v a.limits a.s.0 e.new.kept l.result.0 e.result c.if-not-try_level.false tried)
    c.requires.placed.0 c.requires.placed.1 e.ensures.beside
