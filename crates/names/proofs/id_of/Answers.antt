-- `names::id_of` meets its contract: the search has come to an id, and no name from there on is the one that is sought.
use Prim.Native.Nat.{ℕ, ◌%◌, ◌<◌}
use mathlib.Core.Path.{sym, subst, ◌∙◌}
use lib.ListN.{get_or}
use Rattle.std.specs.Prelude.{Option, None}
use Rattle.blif.specs.Scan.{name_at}
use Rattle.names.specs.Table.{buckets, slot, entry_in}
use Rattle.names.proofs.Searching.{Searched, search-begins, search-falls, search-goes, search-differs, search-finds, search-ends}
use Rattle.names.proofs.id_of.Goals.{else-entry-hash-via-then-entry-hash+else-is_at, else-entry-hash-via-else-entry-hash}
use Rattle.names.proofs.id_of.Goals as goal

pub loop-next-init : goal.loop-next-init
loop-next-init c =
    let a = c.args in
    let w = name_at a.text.now a.at in
    subst (λ (h : ℕ). Searched a.names.now a.count w (slot (get_or a.names.now.heads (h % buckets) None))) (sym c.name_hash-hash.ensures) (search-begins c.requires w)

pub returns-then-is_at-clause-id : goal.returns-then-is_at-clause-id
returns-then-is_at-clause-id c =
    let a = c.args in
    let w = name_at a.text.now a.at in
    let s = subst (λ (n : Option ℕ). Searched a.names.now a.count w (slot n)) c.in-Some.is c.loop-next.invariant in
    c.from-id.ensures ∙ search-finds c.requires w c.in-Some.i s (sym (rw c.from-id.ensures at c.is_at.ensures) ∙ c.if-is_at.true)

pub loop-next-smaller : goal.loop-next-smaller
loop-next-smaller c =
    let a = c.args in
    let w = name_at a.text.now a.at in
    let s = subst (λ (n : Option ℕ). Searched a.names.now a.count w (slot n)) c.in-Some.is c.loop-next.invariant in
    let less : slot (entry_in a.names.now c.from-id.result).next < slot c.loop-next.next = rw (c.from-id.ensures, c.in-Some.is) (search-falls c.requires w c.in-Some.i s) in
    less

pub loop-next-preserved : goal.loop-next-preserved
loop-next-preserved c =
    let a = c.args in
    let w = name_at a.text.now a.at in
    let f = c.from-id.ensures in
    let s = subst (λ (n : Option ℕ). Searched a.names.now a.count w (slot n)) c.in-Some.is c.loop-next.invariant in
    let differs = search-differs c.requires w c.in-Some.i s in
    rw f
    (search-goes c.requires w c.in-Some.i s
    (elim c.else-entry-hash.branch [
      | else-entry-hash-via-then-entry-hash+else-is_at j ↦ sym (rw f at j.is_at.ensures) ∙ j.if-is_at.false
      | else-entry-hash-via-else-entry-hash j ↦ differs (λ q. (rw f at j.if-entry-hash.false) (q ∙ sym c.name_hash-hash.ensures))
    ]))

pub returns-clause-id : goal.returns-clause-id
returns-clause-id c =
    let a = c.args in
    let w = name_at a.text.now a.at in
    search-ends c.requires w (subst (λ (n : Option ℕ). Searched a.names.now a.count w (slot n)) c.in_default.is c.loop-next.invariant)
