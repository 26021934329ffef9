-- `cut::ask` meets its contract: by the walk where the leaves of its cone may all be leaves, and else by the search.
use Rattle.cut.proofs.WalkFirst.{walk-asked, walk-allowed}
use Rattle.cut.proofs.quick.ask.Goals as goal

pub returns-then-all_leaves-clause-allowed : goal.returns-then-all_leaves-clause-allowed
returns-then-all_leaves-clause-allowed c = λ S may asked.
    let marked = c.mark_inside.ensures in
    let e = c.in-Some.ensures in
    walk-allowed S may _ _ _ _ asked marked _ _ _ (e.fit_test S (walk-asked S may _ _ _ _ asked marked)) e.most (c.all_leaves.ensures c.if-all_leaves.true)
