-- `asked::link_one` meets its contract.
use Prim.Native.Nat.{ℕ, ◌+◌}
use mathlib.Core.Path.{sym, subst, ◌∙◌}
use native.Mathlib.Omega.{arith}
use lib.ListN.{get_or, set, length-set}
use Rattle.bound.specs.Lookup.{Linked}
use Rattle.bound.proofs.Asking.{linked-more}
use Rattle.bound.proofs.asked.link_one.Goals as goal

pub returns : goal.returns
returns c =
    let a = c.args in
    let p = c.requires.i_bound in
    let w = c.requires.first_len in
    let to = c.difference_in-to.ensures.1 in record {
      linked_2 = subst (λ (v : ℕ). Linked a.differences.now (a.i + 1) (set a.first.now v (a.i + 1)) (set a.next.now a.i (get_or a.first.now v 0))) (sym to)
          (linked-more a.differences.now a.i a.first.now a.next.now c.requires.linked p.1 (omega arith) (omega arith));
      first_len_2 = (length-set a.first.now _ _ ∙ w.0, length-set a.next.now _ _ ∙ w.1);
    }
