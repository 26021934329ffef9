-- `timing::time_labels` meets its contract.
use Prim.Native.Nat.{ℕ}
use borrow.Author.Rules.{rules}
use mathlib.Core.Bool.{Bool, true, false}
use mathlib.Core.List.{List, []}
use mathlib.Core.Path.{◌≡◌, refl, subst}
use native.Mathlib.Omega.{arith}
use Rattle.std.specs.Prelude.{Result, Ok, Err, is_ok}
use Rattle.maps.specs.Sheet.{Sheet}
use Rattle.types.specs.declared.Refusal.{Refusal}
use Rattle.types.specs.declared.Refusal.TheVariants.{Late}
use Rattle.bound.specs.Lookup.{labels_in}
use Rattle.rows.specs.declared.Header as R
use Rattle.bound.proofs.Safety.{no-entries, some-entries}
use Rattle.timing.specs.Timing.{Times, is_within, is-past}
use Rattle.timing.proofs.Far.{Sought, far-soon, far-ends, searched-given}
use Rattle.timing.proofs.time_labels.Goals as goal

-- with entries the refusal is 7 where nothing is found
with-entries : {S : Sheet} (limits : R.Header) (steps levels : List ℕ) (found : Bool) (r : Result (Unit {0}) Refusal)
    → (found ≡ true → r ≡ Ok tt) → (found ≡ false → r ≡ Err (Late 0)) → (S.windows ≡ [] → ⊥) → Sought S limits steps levels found
    → Times S limits.horizon (labels_in limits.nodes steps levels) r
with-entries limits steps levels true r p q n h = rw (p refl) (is_within n h)
with-entries limits steps levels false r p q n h = rw (q refl) (is-past n h)

pub time_ever-requires-clause-soon : goal.time_ever-requires-clause-soon
time_ever-requires-clause-soon c found =
    let p = c.requires in
    let s = c.search_limits.ensures in
    let l = c.least_labels-found in
    let labels = l.new.labels in
    far-soon p.1 (s.far c.if-limits-eq0.true) (no-entries p.1 c.if-limits-eq0.true) p.3 labels.steps labels.levels
    (rw found at (l.ensures p.0 (searched-given p.1 s) p.2 p.3))

pub returns-then-limits-eq0 : goal.returns-then-limits-eq0
returns-then-limits-eq0 c S g k cuts =
    let s = c.search_limits.ensures in
    let l = c.least_labels-found in
    let labels = l.new.labels in
    let free = no-entries g c.if-limits-eq0.true in
    c.time_ever.ensures S labels.levels g.tabled g.nodes free
    (far-ends g (s.far c.if-limits-eq0.true) free cuts labels.steps labels.levels (is_ok l.result) (l.ensures S (searched-given g s) k cuts))

pub returns : goal.returns
returns c S g k cuts =
    let s = c.search_limits.ensures in
    let l = c.least_labels-found in
    let labels = l.new.labels in
    let entries = some-entries g (omega (arith, c.if-limits-eq0.false)) in
    with-entries c.args.limits labels.steps labels.levels (is_ok l.result) c.map_err.result (λ f. search rules) (λ f. search rules) entries
    (subst (λ (h : R.Header). Sought S h labels.steps labels.levels (is_ok l.result)) (s.own c.if-limits-eq0.false) (l.ensures S (searched-given g s) k cuts))
