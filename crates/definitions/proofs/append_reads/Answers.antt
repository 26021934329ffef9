-- `definitions::append_reads` meets its contract: the operands so far are the ids of the words so far.
use Prim.Native.Nat.{ℕ, ◌+◌, ◌<◌}
use mathlib.Core.Path.{◌≡◌, ap, ◌∙◌}
use mathlib.Core.List.{[], ◌∷◌, ◌++◌}
use native.Mathlib.Omega.{arith}
use lib.ListN.{length, take}
use Rattle.blif.specs.Scan.{name_at, words_at}
use Rattle.blif.proofs.Walking.{word-here, words-after}
use Rattle.names.specs.Table.{names_in}
use Rattle.names.proofs.Tables.{length-names}
use Rattle.definitions.proofs.Keeping.{one-id, id-small}
use Rattle.definitions.proofs.append_reads.Goals as goal

pub overflow_cast-id : goal.overflow_cast-id
overflow_cast-id c =
    let N = names_in c.args.names.now c.args.count in
    omega (arith, c.unwrap_or-id.ensures, c.id_of.ensures.id, id-small N (name_at c.args.text.now c.after_blanks-first.result), length-names c.args.names.now c.args.count, c.requires.1.few)

pub loop-i-preserved : goal.loop-i-preserved
loop-i-preserved c =
    let T = c.args.text.now in
    let N = names_in c.args.names.now c.args.count in
    let first = c.after_blanks-first in
    let l : c.loop-i.i < length (words_at T c.args.start) = omega (arith, c.requires.0) in
    let w = word-here T c.args.start c.loop-i.at first.result c.loop-i.i c.loop-i.invariant.0 l first.ensures.0 in
    let e = c.append.ensures in
    let k : c.args.used + (c.loop-i.i + 1) ≡ c.append.result = omega (arith, e.0) in
    let id = c.unwrap_or-id.ensures ∙ c.id_of.ensures.id in (
      words-after T c.args.start c.loop-i.at first.result c.after_word-at.result c.loop-i.i c.loop-i.invariant.0 l first.ensures.0 c.after_word-at.ensures.0,
      rw k (one-id (take c.args.used c.args.operands.now) N (words_at T c.args.start) (name_at T first.result) c.loop-i.i l w.0 (e.1 ∙ ap (λ (x : ℕ). take (c.args.used + c.loop-i.i) c.loop-i.operands ++ (x ∷ [])) id) c.loop-i.invariant.1),
      e.2 ∙ c.loop-i.invariant.2,
    )
