-- A model is kept: none at first, and one definition more.
use Prim.Native.Nat.{ℕ, zero, suc, ◌+◌, ◌≤◌, ◌<◌}
use mathlib.Core.Path.{◌≡◌, refl, sym, subst, ap, ◌∙◌}
use mathlib.Core.Bool.{Bool, true, false, cond, ◌||◌, not}
use mathlib.Core.List.{List, [], ◌∷◌, ◌++◌, map, map-append, append-nil, append_assoc}
use native.Mathlib.Omega.{arith}
use native.Mathlib.Nat.{not-suc-le-zero}
use lib.ListN.{length, get_or, take, length-map}
use borrow.Author.Tests.{not-true}
use lib.Seq.{length-take-le, take-take, get_or-take}
use Rattle.maps.specs.Lists.{all, equal}
use Rattle.maps.specs.Sheet.{input}
use Rattle.maps.specs.Limits.{operands_most}
use Rattle.maps.proofs.Over.{and-true}
use Rattle.blif.specs.Words.{Word}
use Rattle.blif.specs.Names.{Definition, definition, inputs_of, names_of, reads_of, has, fresh}
use Rattle.blif.specs.Import.{id_of}
use Rattle.records.specs.Rows.{node_place, row_numbers}
use Rattle.blif.proofs.Ordering.{all_append}
use Rattle.blif.proofs.Positions.{take_next}
use Rattle.names.specs.Table.{names_in, Listed}
use Rattle.names.specs.declared.Names.{Names}
use Rattle.names.proofs.Tables.{length-names}
use Rattle.subset.proofs.PartsLaws.{inputs-names}
use Rattle.definitions.specs.Rows.{row_meant, rows_from, row_of, ids_of}
use Rattle.definitions.specs.Kept.{Kept, Added}
use Rattle.definitions.proofs.RowLaws.{names-append, reads-append, rows_append, ids-grow, has-append, all-grows}

-- how many operands there are
kept-reads : {names : Names} {nodes operands : List ℕ} {d n u : ℕ} {ds : List Definition} → Kept d ds names nodes operands n u → u ≡ length (reads_of ds)
kept-reads {names} {nodes} {operands} {d} {n} {u} {ds} k =
    let l : u ≤ length operands = omega (arith, k.few, k.long, k.listed.few) in
    omega (arith, length-take-le u operands l, ap length k.ids, length-map (reads_of ds) (id_of (names_of ds)))

-- and how many definitions
pub kept-size : {names : Names} {nodes operands : List ℕ} {d n u : ℕ} {ds : List Definition} → Kept d ds names nodes operands n u → length ds ≡ n
kept-size {names} {n = n} {ds = ds} k =
    omega (arith, ap length k.named, length-names names n, length-map ds (λ (x : Definition). x.name))

pub kept_same : {names : Names} {nodes operands : List ℕ} {d n u : ℕ} {xs ys : List Definition} → xs ≡ ys → Kept d xs names nodes operands n u → Kept d ys names nodes operands n u
kept_same {names} {nodes} {operands} {d} {n} {u} e k = subst (λ (zs : List Definition). Kept d zs names nodes operands n u) e k

-- The new definition reads names that are defined, whose ids stay as they are when its own name is added behind them.
pub kept-added : {names : Names} {nodes operands : List ℕ} {names' : Names} {nodes' operands' : List ℕ} {d n u m v : ℕ} {ds : List Definition} → Kept d ds names nodes operands n u
    → (x : Definition) → n + 1 ≡ m → u + length x.reads ≡ v → all (has (names_of ds)) x.reads ≡ true → length x.reads ≤ operands_most
    → Added d x names nodes operands n u names' nodes' operands' → Kept d (ds ++ (x ∷ [])) names' nodes' operands' m v
kept-added {names} {nodes} {operands} {names'} {nodes'} {operands'} {d} {n} {u} {m} {v} {ds} k x em ev h l a =
    rw (sym em, sym ev) (record {
      listed = a.listed;
      named = a.named ∙ ap (λ (ns : List Word). ns ++ (x.name ∷ [])) k.named ∙ sym more;
      rows = a.rows ∙ ap (λ (rows : List ℕ). rows ++ row_of d (λ w. false) (u + length x.reads) x) k.rows ∙ sym rows;
      ids = a.ids ∙ ap (λ (us : List ℕ). us ++ map (id_of (names_in names n)) x.reads) k.ids ∙ ap (λ (ns : List Word). ids_of (names_of ds) ds ++ map (id_of ns) x.reads) k.named ∙ sym ids;
      closed = closed;
      few = omega (arith, k.few, l);
      wide = a.wide ∙ k.wide;
      long = a.long ∙ k.long;
    })
  where
    more : names_of (ds ++ (x ∷ [])) ≡ names_of ds ++ (x.name ∷ [])
    more = names-append ds (x ∷ [])

    reads : reads_of (ds ++ (x ∷ [])) ≡ reads_of ds ++ x.reads
    reads = reads-append ds (x ∷ []) ∙ ap (λ (ws : List Word). reads_of ds ++ ws) (append-nil x.reads)

    rows : rows_from d (λ w. false) 0 (ds ++ (x ∷ [])) ≡ rows_from d (λ w. false) 0 ds ++ row_of d (λ w. false) (u + length x.reads) x
    rows =
        let e : 0 + length (reads_of ds) ≡ u = omega (arith, kept-reads k) in
        rows_append d (λ w. false) 0 ds (x ∷ []) ∙ ap (λ (e : ℕ). rows_from d (λ w. false) 0 ds ++ rows_from d (λ w. false) e (x ∷ [])) e

    ids : ids_of (names_of (ds ++ (x ∷ []))) (ds ++ (x ∷ [])) ≡ ids_of (names_of ds) ds ++ map (id_of (names_of ds)) x.reads
    ids =
        ap (λ (ns : List Word). map (id_of ns) (reads_of (ds ++ (x ∷ [])))) more
        ∙ ap (map (id_of (names_of ds ++ (x.name ∷ [])))) reads
        ∙ map-append (id_of (names_of ds ++ (x.name ∷ []))) (reads_of ds) x.reads
        ∙ ap (λ (us : List ℕ). us ++ map (id_of (names_of ds ++ (x.name ∷ []))) x.reads) (ids-grow (names_of ds) (x.name ∷ []) (reads_of ds) k.closed)
        ∙ ap (λ (us : List ℕ). ids_of (names_of ds) ds ++ us) (ids-grow (names_of ds) (x.name ∷ []) x.reads h)

    closed : all (has (names_of (ds ++ (x ∷ [])))) (reads_of (ds ++ (x ∷ []))) ≡ true
    closed =
        ap (λ (ns : List Word). all (has ns) (reads_of (ds ++ (x ∷ [])))) more
        ∙ ap (all (has (names_of ds ++ (x.name ∷ [])))) reads
        ∙ all_append (has (names_of ds ++ (x.name ∷ []))) (reads_of ds) x.reads
        ∙ rw (all-grows (names_of ds) (x.name ∷ []) (reads_of ds) k.closed, all-grows (names_of ds) (x.name ∷ []) x.reads h) refl

-- the ids of one word more
pub one-id : (first : List ℕ) (ns ws : List Word) (w : Word) (i : ℕ) {before after : List ℕ} → i < length ws → w ≡ get_or ws i [] → after ≡ before ++ (id_of ns w ∷ [])
    → before ≡ first ++ map (id_of ns) (take i ws) → after ≡ first ++ map (id_of ns) (take (i + 1) ws)
one-id first ns ws w i l q e f =
    e ∙ ap (λ (us : List ℕ). us ++ (id_of ns w ∷ [])) f ∙ append_assoc first (map (id_of ns) (take i ws)) (id_of ns w ∷ [])
    ∙ ap (λ (us : List ℕ). first ++ us)
    (ap (λ (v : Word). map (id_of ns) (take i ws) ++ (id_of ns v ∷ [])) q ∙ sym (map-append (id_of ns) (take i ws) (get_or ws i [] ∷ []))
    ∙ ap (map (id_of ns)) (sym (take_next ws i [] l)))

-- an id is at most the count of the names
pub id-small : (ns : List Word) (w : Word) → id_of ns w ≤ length ns
id-small [] w = omega arith
id-small (n ∷ ns) w = go (equal w n) (id-small ns w)
  where
    go : (b : Bool) → id_of ns w ≤ length ns → cond b 0 (suc (id_of ns w)) ≤ suc (length ns)
    go true h = omega arith
    go false h = omega (arith, h)

-- what the three tables are after the stores of one definition
pub added : {names : Names} {nodes operands : List ℕ} {names' : Names} {nodes' operands' : List ℕ} {d n u : ℕ} (x : Definition) (next : ℕ) → next ≡ u + length x.reads → Listed names' (n + 1)
    → names_in names' (n + 1) ≡ names_in names n ++ (x.name ∷ []) → take (node_place (n + 1)) nodes' ≡ take (node_place n) nodes ++ row_numbers (row_meant d x.kind next)
    → take next operands' ≡ take u operands ++ map (id_of (names_in names n)) x.reads → length nodes' ≡ length nodes → length operands' ≡ length operands
    → Added d x names nodes operands n u names' nodes' operands'
added x next e l m r i w o =
    record { listed = l; named = m; rows = rw (sym e) r; ids = rw (sym e) i; wide = w; long = o }

-- inputs that are kept one after the other
names-inputs : (ds : List Definition) (ws : List Word) → names_of (ds ++ inputs_of ws) ≡ names_of ds ++ ws
names-inputs ds ws = names-append ds (inputs_of ws) ∙ ap (λ (ns : List Word). names_of ds ++ ns) (inputs-names ws)

-- of new names each is none of the old ones and none of those before it
fresh_at : (old new : List Word) (i : ℕ) → fresh old new ≡ true → i < length new → has (old ++ take i new) (get_or new i []) ≡ false
fresh_at old [] i f l = absurd (not-suc-le-zero l)
fresh_at old (n ∷ new) zero f l =
    let a = and-true (not (has old n)) (fresh (n ∷ old) new) f in
    ap (λ (ns : List Word). has ns n) (append-nil old) ∙ not-true (has old n) a.0
fresh_at old (n ∷ new) (suc i) f l =
    let a = and-true (not (has old n)) (fresh (n ∷ old) new) f in
    let w = get_or new i [] in
    has-append old (n ∷ take i new) w ∙ swap (has old w) (equal w n) (has (take i new) w)
    ∙ ap (λ (b : Bool). equal w n || b) (sym (has-append old (take i new) w)) ∙ fresh_at (n ∷ old) new i a.1 (omega arith)
  where
    swap : (a b c : Bool) → (a || (b || c)) ≡ (b || (a || c))
    swap true true c = refl
    swap true false c = refl
    swap false b c = refl

-- the i-th of k inputs
module _ (ds : List Definition) (ws : List Word) (i k : ℕ) (l : i < k) (m : k ≤ length ws) where
  pub input-new : {names : Names} {nodes operands : List ℕ} {d n u : ℕ} → fresh (names_of ds) (take k ws) ≡ true → Kept d (ds ++ inputs_of (take i ws)) names nodes operands n u → has (names_in names n) (get_or ws i []) ≡ false
  input-new f q =
      ap (λ (ns : List Word). has ns (get_or ws i [])) (q.named ∙ names-inputs ds (take i ws) ∙ ap (λ (ws : List Word). names_of ds ++ ws) (sym (take-take i k ws (omega (arith, l)))))
      ∙ ap (has (names_of ds ++ take i (take k ws))) (sym (get_or-take k ws i [] l)) ∙ fresh_at (names_of ds) (take k ws) i f (omega (arith, length-take-le k ws m))

  pub input-more : {names : Names} {nodes operands : List ℕ} {names' : Names} {nodes' operands' : List ℕ} {d n u n' u' : ℕ} → Kept d (ds ++ inputs_of (take i ws)) names nodes operands n u
      → Added d (definition (get_or ws i []) input []) names nodes operands n u names' nodes' operands' → n' ≡ n + 1 → u' ≡ u + 0
      → Kept d (ds ++ inputs_of (take (i + 1) ws)) names' nodes' operands' n' u'
  input-more q a en eu = kept_same more (kept-added q (definition (get_or ws i []) input []) (sym en) (sym eu) refl (omega arith) a)
    where
      more : (ds ++ inputs_of (take i ws)) ++ (definition (get_or ws i []) input [] ∷ []) ≡ ds ++ inputs_of (take (i + 1) ws)
      more =
          append_assoc ds (inputs_of (take i ws)) (definition (get_or ws i []) input [] ∷ [])
          ∙ ap (λ (xs : List Definition). ds ++ xs)
          (sym (map-append (λ (w : Word). definition w input []) (take i ws) (get_or ws i [] ∷ [])) ∙ ap inputs_of (sym (take_next ws i [] (omega (arith, l, m)))))
