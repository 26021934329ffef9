-- `cone::walk` meets its contract.
use native.Mathlib.Omega.{arith}
use Rattle.cone.specs.Walk.{marked}
use Rattle.cone.specs.Looks.{looks}
use Rattle.cone.proofs.Visits.{walk-begun}
use Rattle.cone.proofs.RoomLaws.{begun-room}
use Rattle.cone.proofs.walk.Goals as goal

pub visit_operands-requires-clause-room : goal.visit_operands-requires-clause-room
visit_operands-requires-clause-room g c = begun-room c.args.v _ c.requires.v_bound c.requires.room

pub returns-clause-walk_ends : goal.returns-clause-walk_ends
unfolding looks
returns-clause-walk_ends g c S k asked e =
    c.visit_operands.ensures.operands_end S c.args.v k c.args.v _ (omega arith) (omega arith)
    (walk-begun S c.args.graph.now (marked c.args.marks.now) c.args.v k c.args.spare asked.tabled asked.within c.requires.v_bound e) c.requires.none
