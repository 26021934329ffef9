-- Rows, names and reads of definitions one after the other; the ids of names when more are defined; names that come once.
use Prim.Native.Nat.{ℕ, suc, ◌+◌, ◌<◌}
use mathlib.Core.Path.{◌≡◌, refl, sym, ap, ◌∙◌}
use mathlib.Core.Bool.{Bool, true, false, cond, ◌||◌, or_assoc}
use mathlib.Core.List.{List, [], ◌∷◌, ◌++◌, map, append_assoc, map-append}
use native.Mathlib.Omega.{arith}
use lib.ListN.{length, length-append}
use borrow.Author.Tests.{ltb-true}
use Rattle.maps.specs.Lists.{all, equal}
use Rattle.maps.specs.Sheet.{is_logic, latency_of, clock_to_q_of}
use Rattle.maps.specs.WellFormed.{code_of}
use Rattle.maps.proofs.Over.{and-true}
use Rattle.records.specs.Rows.{node_place}
use Rattle.blif.specs.Words.{Word}
use Rattle.blif.specs.Names.{Definition, names_of, reads_of, has}
use Rattle.blif.specs.Import.{id_of}
use Rattle.names.proofs.Ids.{has-id}
use Rattle.definitions.specs.Rows.{rows_from}

pub names-append : (xs ys : List Definition) → names_of (xs ++ ys) ≡ names_of xs ++ names_of ys
names-append xs ys = map-append (λ (d : Definition). d.name) xs ys

pub reads-append : (xs ys : List Definition) → reads_of (xs ++ ys) ≡ reads_of xs ++ reads_of ys
reads-append [] ys = refl
reads-append (x ∷ xs) ys = ap (λ ws. x.reads ++ ws) (reads-append xs ys) ∙ sym (append_assoc x.reads (reads_of xs) (reads_of ys))

-- the rows of later definitions begin where the operands of the earlier ones end
module _ (d : ℕ) (m : Word → Bool) where
  pub rows_append : (e : ℕ) (xs ys : List Definition) → rows_from d m e (xs ++ ys) ≡ rows_from d m e xs ++ rows_from d m (e + length (reads_of xs)) ys
  rows_append e [] ys = let z : e + 0 ≡ e = omega arith in rw z refl
  rows_append e (x ∷ xs) ys =
      let n : e + length x.reads + length (reads_of xs) ≡ e + length (x.reads ++ reads_of xs) = omega (arith, length-append x.reads (reads_of xs)) in
      ap
      (λ (rows : List ℕ). code_of x.kind ∷ cond (m x.name) 1 0 ∷ cond (is_logic x.kind) d 0 ∷ latency_of x.kind ∷ (e + length x.reads) ∷ clock_to_q_of x.kind ∷ rows)
      (rows_append (e + length x.reads) xs ys ∙ ap (λ (k : ℕ). rows_from d m (e + length x.reads) xs ++ rows_from d m k ys) n)

  pub rows-length : (e : ℕ) (xs : List Definition) → length (rows_from d m e xs) ≡ node_place (length xs)
  rows-length e [] = refl
  rows-length e (x ∷ xs) = omega (arith, rows-length (e + length x.reads) xs)

-- a name that is there keeps its id when more names follow
id-grows : (ns ms : List Word) (w : Word) → has ns w ≡ true → id_of (ns ++ ms) w ≡ id_of ns w
id-grows [] ms w h = let z : ◌≡◌ {A = ℕ} 0 1 = cc in absurd (omega arith)
id-grows (n ∷ ns) ms w h = go (equal w n) h (id-grows ns ms w)
  where
    go : (b : Bool) → (b || has ns w) ≡ true → (has ns w ≡ true → id_of (ns ++ ms) w ≡ id_of ns w) → ◌≡◌ {A = ℕ} (cond b 0 (suc (id_of (ns ++ ms) w))) (cond b 0 (suc (id_of ns w)))
    go true e rec = refl
    go false e rec = ap suc (rec e)

pub ids-grow : (ns ms ws : List Word) → all (has ns) ws ≡ true → map (id_of (ns ++ ms)) ws ≡ map (id_of ns) ws
ids-grow ns ms [] h = refl
ids-grow ns ms (w ∷ ws) h =
    let a = and-true (has ns w) (all (has ns) ws) h in
    rw (id-grows ns ms w a.0, ids-grow ns ms ws a.1) refl

-- and is below the count of the names
pub id_below : (ns : List Word) (w : Word) → has ns w ≡ true → id_of ns w < length ns
id_below ns w h = ltb-true (id_of ns w) (length ns) (sym (has-id ns w) ∙ h)

pub has-append : (ns ms : List Word) (w : Word) → has (ns ++ ms) w ≡ (has ns w || has ms w)
has-append [] ms w = refl
has-append (n ∷ ns) ms w = ap (λ (b : Bool). equal w n || b) (has-append ns ms w) ∙ sym (or_assoc (equal w n) (has ns w) (has ms w))

pub all-grows : (ns ms ws : List Word) → all (has ns) ws ≡ true → all (has (ns ++ ms)) ws ≡ true
all-grows ns ms [] h = refl
all-grows ns ms (w ∷ ws) h =
    let a = and-true (has ns w) (all (has ns) ws) h in
    rw (has-append ns ms w, a.0, all-grows ns ms ws a.1) refl
