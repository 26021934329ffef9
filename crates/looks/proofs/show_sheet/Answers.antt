-- A sheet that is read has few nodes and leaves, and its table can be walked.
use Rattle.std.proofs.Common.{arith, ap}
use Rattle.maps.specs.Read.{Header}
use Rattle.sheet.proofs.After.{was_read}
use Rattle.looks.proofs.show_sheet.Goals as goal

pub show_nodes-requires-clause-falling : goal.show_nodes-requires-clause-falling
show_nodes-requires-clause-falling g c = (was_read _ _ _ _ _ _ c.in-Ok.ensures).walks

pub show_nodes-requires-clause-n_bound : goal.show_nodes-requires-clause-n_bound
show_nodes-requires-clause-n_bound g c =
    let held = was_read _ _ _ _ _ _ c.in-Ok.ensures in
    omega (arith, ap (λ (x : Header). x.nodes) held.headed, held.well.size.most)

pub show_nodes-requires-clause-k_bound : goal.show_nodes-requires-clause-k_bound
show_nodes-requires-clause-k_bound g c =
    let held = was_read _ _ _ _ _ _ c.in-Ok.ensures in
    omega (arith, ap (λ (x : Header). x.leaves) held.headed, held.well.leaves.most)
