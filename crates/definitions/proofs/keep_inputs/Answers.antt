-- `definitions::keep_inputs` meets its contract: after some turns as many inputs are kept.
use Prim.Native.Nat.{ℕ, ◌+◌, ◌≤◌, ◌<◌}
use mathlib.Core.Path.{◌≡◌, sym, ap, ◌∙◌}
use mathlib.Core.List.{List, []}
use native.Mathlib.Omega.{arith}
use lib.ListN.{length, get_or, take, drop, length-drop}
use lib.Seq.{length-take-le, get_or-take, get_or-drop, drop-drop}
use Rattle.blif.specs.Words.{Word}
use Rattle.blif.specs.Scan.{words_at}
use Rattle.definitions.proofs.Keeping.{input-new, input-more}
use Rattle.definitions.proofs.Lawful.{short-at}
use Rattle.definitions.proofs.keep_inputs.Goals as goal

-- the first of the words that are left
first_of : (T : List ℕ) (start at i : ℕ) → words_at T at ≡ drop i (words_at T start) → get_or (words_at T at) 0 [] ≡ get_or (words_at T start) i []
first_of T start at i e =
    let z : i + 0 ≡ i = omega arith in
    ap (λ (ws : List Word). get_or ws 0 []) e ∙ get_or-drop i (words_at T start) 0 [] ∙ ap (λ (j : ℕ). get_or (words_at T start) j []) z

pub keep_next-at-requires : goal.keep_next-at-requires
keep_next-at-requires c =
    let o = c.loop in
    let l : o.counter < c.args.k = c.loop-test.true in
    let T = c.args.text.now in
    let ws = words_at T c.args.start in
    let r = c.requires in
    let q = o.invariant.1 r.kept.0 r.kept.1 r.kept.2 in
    let m : c.args.k ≤ length ws = r.k_in_bounds.0 in
    let h : 0 < length (words_at T o.at) = omega (arith, ap length o.invariant.0, length-drop o.counter ws, l) in
    let w : get_or (words_at T o.at) 0 [] ≡ get_or ws o.counter [] = first_of T c.args.start o.at o.counter o.invariant.0 in
    let g = short-at (take c.args.k ws) o.counter r.k_in_bounds.1 (omega (arith, l, length-take-le c.args.k ws m)) in
    record {
      reads_in_bounds = (h, rw (w, sym (get_or-take c.args.k ws o.counter [] l)) g, q.listed, omega (arith, r.k_in_bounds.2, o.invariant.2, l));
      reads_value = rw w (input-new r.kept.0 ws o.counter c.args.k l m r.kept.2 q);
      nodes_in_bounds = (omega (arith, q.wide, r.k_in_bounds.2, o.invariant.2, l), omega (arith, q.long, q.few, q.listed.few), omega (arith, q.few, q.listed.few));
    }

pub loop-preserved : goal.loop-preserved
loop-preserved c =
    let o = c.loop in
    let T = c.args.text.now in
    let ws = words_at T c.args.start in
    let m : c.args.k ≤ length ws = c.requires.k_in_bounds.0 in
    let e = c.keep_next-at.ensures in (
      e.result_value ∙ ap (λ (ws : List Word). drop 1 ws) o.invariant.0 ∙ drop-drop 1 o.counter ws,
      λ ds k f. input-more ds ws o.counter c.args.k c.loop-test.true m (o.invariant.1 ds k f) (rw (sym (first_of T c.args.start o.at o.counter o.invariant.0)) e.added) e.size.0 e.size.1,
      omega (arith, e.size.0, o.invariant.2),
    )
