-- `cover::store_cut` meets its contract.
use native.Mathlib.Omega.{arith}
use Rattle.cover.proofs.CoverCut.{row-found, stored-written}
use Rattle.cover.proofs.store_cut.Goals as goal

pub returns-clause-v_after : goal.returns-clause-v_after
returns-clause-v_after c =
    let k = c.keep_cut.ensures in
    row-found c.args.found c.requires.found_bound k.cut_len.0 c.sound_count.ensures k.stored

pub returns-clause-written : goal.returns-clause-written
returns-clause-written c =
    let k = c.keep_cut.ensures in
    stored-written (omega arith) k.cut_len.1 c.sound_count.ensures k.stored
