-- `definitions::keep_node` meets its contract.
use Prim.Native.Nat.{◌+◌}
use mathlib.Core.Path.{◌≡◌, ap, ◌∙◌}
use mathlib.Core.List.{[], ◌∷◌, ◌++◌}
use native.Mathlib.Omega.{arith}
use lib.ListN.{length, get_or, take}
use lib.Seq.{length-take-le}
use Rattle.types.specs.Code.{kind_meant}
use Rattle.blif.specs.Words.{Word}
use Rattle.blif.specs.Scan.{words_at}
use Rattle.blif.specs.Names.{definition}
use Rattle.blif.proofs.Walking.{word-here, words-after}
use Rattle.records.specs.Rows.{node_place, row_numbers}
use Rattle.records.specs.declared.NodeRow.{NodeRow}
use Rattle.names.specs.Table.{names_in}
use Rattle.definitions.proofs.Keeping.{added}
use Rattle.definitions.proofs.keep_node.Goals as goal

pub add_name-requires-clause-at_len_bound : goal.add_name-requires-clause-at_len_bound
add_name-requires-clause-at_len_bound c =
    let T = c.args.text.now in
    let r = c.requires in
    let w = word-here T c.args.start c.append_reads-rest.result c.after_blanks-first.result c.args.reads c.append_reads-rest.ensures.result_value r.reads_in_bounds.0 c.after_blanks-first.ensures.0 in
    (rw w.0 r.reads_in_bounds.1, rw w.0 r.reads_value)

pub returns-clause-result_value : goal.returns-clause-result_value
returns-clause-result_value c =
    words-after c.args.text.now c.args.start c.append_reads-rest.result c.after_blanks-first.result c.after_word.result c.args.reads c.append_reads-rest.ensures.result_value c.requires.reads_in_bounds.0 c.after_blanks-first.ensures.0 c.after_word.ensures.0

pub returns-clause-added : goal.returns-clause-added
returns-clause-added c =
    let T = c.args.text.now in
    let n = c.args.size.nodes in
    let used = c.args.size.operands in
    let r = c.append_reads-rest in
    let f = c.after_blanks-first in
    let a = c.add_name.ensures in
    let p = c.put_row.ensures in
    let w = word-here T c.args.start r.result f.result c.args.reads r.ensures.result_value c.requires.reads_in_bounds.0 f.ensures.0 in
    let x = definition (get_or (words_at T c.args.start) c.args.reads []) (kind_meant c.args.kind) (take c.args.reads (words_at T c.args.start)) in
    let l : used + c.args.reads ≡ used + length x.reads =
    omega (arith, length-take-le c.args.reads (words_at T c.args.start) (omega (arith, c.requires.reads_in_bounds.0))) in
    added x (used + c.args.reads) l a.listed_2 (a.count_after ∙ ap (λ (v : Word). names_in c.args.names.now n ++ (v ∷ [])) w.0)
    (p.0 ∙ ap (λ (row : NodeRow). take (node_place n) c.args.nodes.now ++ row_numbers row) c.row_of.ensures) r.ensures.operands_after.0 p.1 r.ensures.operands_after.1
