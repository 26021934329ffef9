-- A search of a name along the list of its bucket.
use Prim.Native.Nat.{ℕ, ◌+◌, ◌≤◌, ◌<◌}
use mathlib.Core.Path.{◌≡◌, refl, sym, ap, subst, ◌∙◌}
use mathlib.Core.Bool.{Bool, true, false}
use mathlib.Core.List.{[]}
use native.Mathlib.Omega.{arith}
use lib.Dec.{ltb, eqb}
use lib.ListN.{length, get_or}
use borrow.Author.Tests.{eqb-true, eqb-false, ltb-true, ltb-false}
use Rattle.maps.specs.Lists.{equal}
use Rattle.blif.specs.Words.{Word}
use Rattle.blif.specs.Import.{id_of}
use Rattle.blif.proofs.Naming.{equal-true, equal_of}
use Rattle.scan.specs.Hash.{hash_of}
use Rattle.names.specs.declared.Names.{Names}
use Rattle.std.specs.Prelude.{None}
use Rattle.names.specs.Table.{slot, entry_in, name_in, names_in, bucket_of, bucket_in, last_in, Listed}
use Rattle.names.proofs.Ids.{id-none, id-at}
use Rattle.names.proofs.Buckets.{last-le, last-hit, last_none}
use Rattle.names.proofs.Tables.{length-names, name_of, bucket-inside}

-- a search of the name w has come to the id before e: that one is in the bucket of w, and none from e on has the name
pub record Searched (table : Names) (count : ℕ) (w : Word) (e : ℕ) : Type 0 where
  pub within : e ≤ count
  pub here : (j : ℕ) → e ≡ j + 1 → bucket_in table j ≡ bucket_of w
  pub later : (i : ℕ) → e ≤ i → i < count → name_in table i ≡ w → ⊥

module _ {table : Names} {count : ℕ} (k : Listed table count) (w : Word) where
  -- a name of another bucket is another name, so the search may go to the last of this bucket
  searched-last : (n : ℕ) → n ≤ count → ((i : ℕ) → n ≤ i → i < count → name_in table i ≡ w → ⊥) → Searched table count w (last_in (bucket_in table) (bucket_of w) n)
  searched-last n l h =
      record {
        within = omega (arith, last-le (bucket_in table) (bucket_of w) n);
        here = λ j e. last-hit (bucket_in table) (bucket_of w) n j e;
        later = λ i m b q. go i m b q (ltb i n) refl;
      }
    where
      go : (i : ℕ) → last_in (bucket_in table) (bucket_of w) n ≤ i → i < count → name_in table i ≡ w → (t : Bool) → ltb i n ≡ t → ⊥
      go i m b q true e = last_none (bucket_in table) (bucket_of w) n i m (ltb-true i n e) (ap bucket_of q)
      go i m b q false e = h i (ltb-false i n e) b q

  pub search-begins : Searched table count w (slot (get_or table.heads (bucket_of w) None))
  search-begins =
      subst (Searched table count w) (sym (k.heads (bucket_of w) (bucket-inside w))) (searched-last count (omega arith) (λ i m b q. omega arith))

  -- at the id i
  module _ (i : ℕ) (s : Searched table count w (i + 1)) where
    next_last : slot (entry_in table i).next ≡ last_in (bucket_in table) (bucket_of w) i
    next_last = k.links i (omega (arith, s.within)) ∙ ap (λ (b : ℕ). last_in (bucket_in table) b i) (s.here i refl)

    pub search-falls : slot (entry_in table i).next < i + 1
    search-falls = omega (arith, next_last, last-le (bucket_in table) (bucket_of w) i)

    pub search-goes : equal w (name_in table i) ≡ false → Searched table count w (slot (entry_in table i).next)
    search-goes d = subst (Searched table count w) (sym next_last) (searched-last i (omega (arith, s.within)) (λ j m b q. go j m b q (eqb j i) refl))
      where
        go : (j : ℕ) → i ≤ j → j < count → name_in table j ≡ w → (b : Bool) → eqb j i ≡ b → ⊥
        go j m b q true x =
            let y : equal w (name_in table i) ≡ true = equal_of _ _ (sym q ∙ ap (name_in table) (eqb-true j i x)) in
            let z : ◌≡◌ {A = ℕ} 0 1 = cc in omega arith
        go j m b q false x = s.later j (let n = eqb-false j i x in omega arith) b q

    -- equal names have equal hashes
    pub search-differs : ((entry_in table i).hash ≡ hash_of w → ⊥) → equal w (name_in table i) ≡ false
    search-differs d = go (equal w (name_in table i)) refl
      where
        go : (b : Bool) → equal w (name_in table i) ≡ b → b ≡ false
        go true q = absurd (d (k.hashes i (omega (arith, s.within)) ∙ ap hash_of (sym (equal-true _ _ q))))
        go false q = refl

    pub search-finds : equal w (name_in table i) ≡ true → i ≡ id_of (names_in table count) w
    search-finds d =
        let l : i < count = omega (arith, s.within) in
        sym
        (id-at (names_in table count) w i k.once (omega (arith, length-names table count))
        (name_of table count i l ∙ sym (equal-true _ _ d)))

  pub search-ends : Searched table count w 0 → count ≡ id_of (names_in table count) w
  search-ends s = sym (id-none (names_in table count) w none ∙ length-names table count)
    where
      none : (i : ℕ) → i < length (names_in table count) → get_or (names_in table count) i [] ≡ w → ⊥
      none i l q =
          let m : i < count = omega (arith, length-names table count) in
          s.later i (omega arith) m (sym (name_of table count i m) ∙ q)
