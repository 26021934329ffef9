-- `distinct::merge_parts` meets its contract.
use native.Mathlib.Omega.{arith}
use mathlib.Core.Path.{sym, subst}
use mathlib.Core.List.{List}
use Prim.Native.Nat.{ℕ}
use lib.Seq.{length-take-le}
use Rattle.distinct.specs.Sorting.{names, Ascending}
use Rattle.distinct.proofs.Filling.{rest_all, parts-length}
use Rattle.distinct.proofs.Placing.{sorted-parts}
use Rattle.distinct.proofs.merge_parts.Goals as goal

pub slice_bounds-merge-end : goal.slice_bounds-merge-end
slice_bounds-merge-end c = sym (length-take-le c.args.half c.args.words.now c.requires.half_in_bounds.0)

pub merge-requires : goal.merge-requires
merge-requires c =
    let a = c.args in
    let r = c.requires in
    record {
      ys_in_bounds = omega (arith, parts-length a.words.now a.half r.half_in_bounds.0, r.half_in_bounds.1);
      ascending = (
        r.ascending.0,
        subst (λ (l : List ℕ). Ascending (names a.text.now l)) (sym (rest_all a.words.now a.half)) r.ascending.1,
      );
    }

pub returns : goal.returns
returns c =
    let a = c.args in
    let m = c.merge in
    (m.ensures.0, sorted-parts a.text.now a.words.now m.new.out a.half m.result c.requires.half_in_bounds.0 m.ensures.1)
