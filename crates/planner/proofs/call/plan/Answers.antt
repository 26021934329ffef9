-- `call::plan` meets its contract.
use borrow.Author.Rules.{rules}
use Rattle.maps.proofs.WrittenSize.{plan-most}
use Rattle.planner.proofs.call.plan.Goals as goal

pub make_plan-requires : goal.make_plan-requires
make_plan-requires c = search (rules, plan-most)
