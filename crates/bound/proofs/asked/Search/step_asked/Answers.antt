-- `asked::Search::step_asked` meets its contract: what the tables ask is what the sheet asks.
use Prim.Native.Nat.{ℕ, ◌<◌}
use mathlib.Core.Path.{subst}
use native.Mathlib.Omega.{arith}
use Rattle.rows.specs.Table.{count_in}
use Rattle.bound.specs.Bound.{Greatest, ready_step}
use Rattle.bound.proofs.Safety.{graph-falls, node_in, few-differences, soon-all, summed-all}
use Rattle.bound.proofs.Bounds.{asks-tables, asks-small}
use Rattle.bound.proofs.asked.Search.step_asked.Goals as goal

pub after_operands-s-requires : goal.after_operands-s-requires
after_operands-s-requires c =
    let b = c.requires.2 in
    let l = b.node in
    record { v_bound = (node_in b.given _ l).1; falling = graph-falls b.given; by_index = λ u h. soon-all b.given b.timed u (omega arith) }

pub after_differences-requires : goal.after_differences-requires
after_differences-requires c =
    let b = c.requires.2 in
    record { v_bound = ((node_in b.given _ b.node).1, few-differences b.given); heeding = b.heeding; by_index = summed-all b.given b.timed }

pub returns : goal.returns
returns c =
    let a = c.args in
    let o = c.after_operands-s in
    let d = c.after_differences in
    let ops = subst (λ (n : ℕ). Greatest n (λ j. j < count_in a.self.now.tables.now.graph a.v) (ready_step a.self.now.tables.now.graph a.labels.now.steps a.v) o.result.0) c.step_of.ensures o.ensures in record {
      asks = λ S levels b.
          let l = (node_in b.given a.v b.node).0 in (
            asks-tables S a.self.now.tables.now.graph a.self.now.tables.now.differences a.self.now.limits b.given a.labels.now.steps levels b.timed a.v l a.self.now.first.now o.result.0 d.result.0 d.ensures ops,
            asks-small S a.self.now.tables.now.graph a.self.now.tables.now.differences a.self.now.limits b.given a.labels.now.steps levels b.timed a.v l a.self.now.first.now o.result.0 d.result.0 d.ensures ops,
          );
      by_index = d.ensures.all;
    }
