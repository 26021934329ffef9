-- `definitions::keep_line` meets its contract, statement by statement.
use Prim.Native.Nat.{ℕ, suc, ◌-◌, ◌≤◌}
use mathlib.Core.Path.{◌≡◌, refl, sym, subst, ap, ◌∙◌}
use mathlib.Core.List.{List, [], ◌∷◌, ◌++◌}
use native.Mathlib.Omega.{arith}
use lib.ListN.{length, get_or, take}
use lib.Seq.{length-take-le}
use Rattle.maps.specs.Sheet.{Kind, box}
use Rattle.blif.specs.Words.{Word}
use Rattle.blif.specs.Scan.{words_at}
use Rattle.blif.specs.Subset.{inputs, latch, names_line}
use Rattle.blif.specs.Names.{Definition, definition, kind_of, inputs_of, defined}
use Rattle.subset.specs.declared.Statement as Code
use Rattle.subset.specs.Meant.{statement_meant, Shaped}
use Rattle.definitions.specs.Kept.{Lawful}
use Rattle.definitions.proofs.Keeping.{kept-size, kept_same}
use Rattle.definitions.proofs.Lawful.{lawful-parts, lawful-one, names-defined, latch-defined, names-few, all_words, inputs-new, inputs_short, inputs-room}
use Rattle.definitions.proofs.keep_line.Goals as goal

-- what a statement that is known says of its line
known : {a b : Code.Statement} {ds : List Definition} (ws : List Word) → a ≡ b → Lawful ds (statement_meant a ws) → Lawful ds (statement_meant b ws)
known {ds = ds} ws e h = subst (λ (s : Code.Statement). Lawful ds (statement_meant s ws)) e h

shape : {a b : Code.Statement} (n : ℕ) → a ≡ b → Shaped a n → Shaped b n
shape n e h = subst (λ (s : Code.Statement). Shaped s n) e h

-- and what it defines
adds : {a b : Code.Statement} (ds : List Definition) (ws : List Word) {xs : List Definition} → a ≡ b → defined (statement_meant b ws) ≡ xs → ds ++ xs ≡ ds ++ defined (statement_meant a ws)
adds ds ws e f = ap (λ (xs : List Definition). ds ++ xs) (sym f ∙ ap (λ (s : Code.Statement). defined (statement_meant s ws)) (sym e))

pub keep_inputs-requires : goal.keep_inputs-requires
keep_inputs-requires c =
    let ws = words_at c.args.text.now c.args.rest in
    let h : Lawful c.requires.kept.0 (inputs ws) = known ws c.in-Inputs.is c.requires.kept.2 in record { k_in_bounds = (omega (arith, c.requires.count_value.0), inputs_short c.requires.kept.0 ws c.args.count c.requires.count_value.0 h, omega (arith, c.requires.count_value.0, inputs-room c.requires.kept.0 ws h, kept-size c.requires.kept.1)); kept = (c.requires.kept.0, c.requires.kept.1, inputs-new c.requires.kept.0 ws c.args.count c.requires.count_value.0 h) }

pub keep_one-requires : goal.keep_one-requires
keep_one-requires c =
    let ws = words_at c.args.text.now c.args.rest in
    let l : 1 ≤ c.args.count = shape c.args.count c.in-Names.is c.requires.count_value.1 in
    let n : length ws ≡ suc (c.args.count - 1) = omega (arith, c.requires.count_value.0, l) in
    let h : Lawful c.requires.kept.0 (names_line ws) = known ws c.in-Names.is c.requires.kept.2 in
    let o = lawful-one c.requires.kept.0 (names_line ws) (definition (get_or ws (c.args.count - 1) []) (kind_of (take (c.args.count - 1) ws)) (take (c.args.count - 1) ws)) (names-defined ws (c.args.count - 1) n) h in
    record { reads_in_bounds = (omega (arith, n), o.short, omega (arith, o.room, kept-size c.requires.kept.1), names-few ws (c.args.count - 1) n (lawful-parts c.requires.kept.0 (names_line ws) h).few); kept = (c.requires.kept.0, c.requires.kept.1, o.new) }

pub keep_one-requires-in-Latch : goal.keep_one-requires-in-Latch
keep_one-requires-in-Latch c =
    let ws = words_at c.args.text.now c.args.rest in
    let l : 2 ≤ c.args.count = shape c.args.count c.in-Latch.is c.requires.count_value.1 in
    let n : 2 ≤ length ws = omega (arith, c.requires.count_value.0, l) in
    let o = lawful-one c.requires.kept.0 (latch (get_or ws 0 []) (get_or ws 1 [])) (definition (get_or ws 1 []) (box 1 0) (take 1 ws)) (latch-defined ws n) (known ws c.in-Latch.is c.requires.kept.2) in
    record { reads_in_bounds = (omega (arith, n), o.short, omega (arith, o.room, kept-size c.requires.kept.1), omega arith); kept = (c.requires.kept.0, c.requires.kept.1, o.new) }

pub returns-in-Inputs : goal.returns-in-Inputs
returns-in-Inputs c =
    let ws = words_at c.args.text.now c.args.rest in
    let t = c.in-Inputs.is in
    λ ds q h. kept_same (ap (λ (ws : List Word). ds ++ inputs_of ws) (all_words ws c.args.count c.requires.count_value.0) ∙ adds ds ws t refl)
    (c.keep_inputs.ensures ds q (inputs-new ds ws c.args.count c.requires.count_value.0 (known ws t h)))

pub returns-in-Names : goal.returns-in-Names
returns-in-Names c =
    let ws = words_at c.args.text.now c.args.rest in
    let t = c.in-Names.is in
    let r = c.args.count - 1 in
    let l : 1 ≤ c.args.count = shape c.args.count t c.requires.count_value.1 in
    let n : length ws ≡ suc r = omega (arith, c.requires.count_value.0, l) in
    let k = c.kind_of.ensures (take r ws) (length-take-le r ws (omega (arith, n))) in
    λ ds q h.
    let o = lawful-one ds (names_line ws) (definition (get_or ws r []) (kind_of (take r ws)) (take r ws)) (names-defined ws r n) (known ws t h) in
    kept_same (ap (λ (k : Kind). ds ++ (definition (get_or ws r []) k (take r ws) ∷ [])) k ∙ adds ds ws t (names-defined ws r n)) (c.keep_one.ensures ds q o.reads o.new)

pub returns-in-Latch : goal.returns-in-Latch
returns-in-Latch c =
    let ws = words_at c.args.text.now c.args.rest in
    let t = c.in-Latch.is in
    let l : 2 ≤ c.args.count = shape c.args.count t c.requires.count_value.1 in
    let n : 2 ≤ length ws = omega (arith, c.requires.count_value.0, l) in
    λ ds q h.
    let o = lawful-one ds (latch (get_or ws 0 []) (get_or ws 1 [])) (definition (get_or ws 1 []) (box 1 0) (take 1 ws)) (latch-defined ws n) (known ws t h) in
    kept_same (adds ds ws t (latch-defined ws n)) (c.keep_one-in-Latch.ensures ds q o.reads o.new)
