-- The length of the list falls.
use lib.ListN.{length}
use Rattle.distinct.proofs.+sort.Given as goal

abbrev pub decreases-sort : goal.decreases-sort
decreases-sort l = length l.words.now
