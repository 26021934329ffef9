-- `names::add_name` meets its contract.
use Prim.Native.Nat.{ℕ, ◌+◌, ◌%◌}
use mathlib.Core.Path.{◌≡◌, sym, ap, subst, ◌∙◌}
use mathlib.Core.List.{[], ◌∷◌, ◌++◌}
use lib.ListN.{get_or}
use Rattle.std.specs.Prelude.{None}
use Rattle.blif.specs.Scan.{name_at}
use Rattle.names.specs.Table.{buckets, names_in, Listed}
use Rattle.names.proofs.Tables.{with_entry, listed_more, names_more}
use Rattle.names.proofs.add_name.Goals as goal

pub returns-clause-listed_2 : goal.returns-clause-listed_2
returns-clause-listed_2 c =
    let a = c.args in
    let p = c.requires in
    let t = a.names.now in
    let w = name_at a.text.now a.at in
    let q = c.new in
    let h = c.name_hash-hash.ensures in
    subst (λ (b : ℕ). Listed (with_entry t a.count (b % buckets) q.result) (a.count + 1)) (sym h)
    (listed_more t a.count w q.result p.listed.0 p.listed.1 q.ensures.bytes q.ensures.kept.2 (q.ensures.kept.0 ∙ h)
    (q.ensures.kept.1 ∙ ap (λ (b : ℕ). get_or t.heads (b % buckets) None) h) p.at_len_bound.1)

pub returns-clause-count_after : goal.returns-clause-count_after
returns-clause-count_after c =
    let a = c.args in
    let p = c.requires in
    let t = a.names.now in
    let w = name_at a.text.now a.at in
    let q = c.new in
    subst (λ (b : ℕ). names_in (with_entry t a.count (b % buckets) q.result) (a.count + 1) ≡ names_in t a.count ++ (w ∷ [])) (sym c.name_hash-hash.ensures)
    (names_more t a.count w q.result p.listed.0 p.listed.1 q.ensures.bytes)
