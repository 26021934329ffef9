-- Ids of names in lists in which no name stands twice.
use Prim.Native.Nat.{ℕ, suc, ◌<◌}
use mathlib.Core.Path.{◌≡◌, refl, sym, ap, ◌∙◌}
use mathlib.Core.Bool.{Bool, true, false, cond, ◌&&◌, ◌||◌, not}
use mathlib.Core.List.{List, [], ◌∷◌, ◌++◌}
use native.Mathlib.Omega.{arith}
use lib.Dec.{ltb, leb-zero, leb-suc-zero, leb-suc-suc}
use lib.ListN.{length, get_or}
use Rattle.maps.specs.Lists.{equal}
use Rattle.maps.proofs.Over.{and-true}
use Rattle.blif.specs.Words.{Word}
use Rattle.blif.specs.Names.{has, fresh}
use Rattle.blif.specs.Import.{id_of}
use Rattle.blif.proofs.Naming.{equal-true, id-first}
use Rattle.blif.proofs.Ordering.{Once, once-none, once_more}

-- a name is there exactly if its id is below the number of names
pub has-id : (ns : List Word) (w : Word) → has ns w ≡ ltb (id_of ns w) (length ns)
has-id [] w = sym (leb-suc-zero 0)
has-id (n ∷ ns) w = go (equal w n) (has-id ns w)
  where
    go : (b : Bool) → has ns w ≡ ltb (id_of ns w) (length ns) → (b || has ns w) ≡ ltb (cond b 0 (suc (id_of ns w))) (suc (length ns))
    go true e = sym (leb-suc-suc 0 (length ns) ∙ leb-zero (length ns))
    go false e = e ∙ sym (leb-suc-suc (suc (id_of ns w)) (length ns))

-- a name that stands nowhere
pub id-none : (ns : List Word) (w : Word) → ((i : ℕ) → i < length ns → get_or ns i [] ≡ w → ⊥) → id_of ns w ≡ length ns
id-none [] w h = refl
id-none (n ∷ ns) w h = go (equal w n) refl (id-none ns w (λ i l. h (suc i) (omega arith)))
  where
    go : (b : Bool) → equal w n ≡ b → id_of ns w ≡ length ns → cond b 0 (suc (id_of ns w)) ≡ suc (length ns)
    go true e rec = absurd (h 0 (omega arith) (sym (equal-true w n e)))
    go false e rec = ap suc rec

-- a name that stands somewhere, where no name stands twice
pub id-at : (ns : List Word) (w : Word) (i : ℕ) → fresh [] ns ≡ true → i < length ns → get_or ns i [] ≡ w → id_of ns w ≡ i
id-at ns w i f l e =
    let r = id-first ns w i l e in
    let o : Once ns = once_more [] ns once-none f in
    o.once (id_of ns w) i (omega (arith, r.0)) l (r.1 ∙ sym e)

-- one more name, which is none of those before
pub fresh-more : (old new : List Word) (w : Word) → fresh old new ≡ true → has old w ≡ false → has new w ≡ false → fresh old (new ++ (w ∷ [])) ≡ true
fresh-more old [] w f o n = rw o refl
fresh-more old (x ∷ new) w f o n = go (equal w x) refl (and-true (not (has old x)) (fresh (x ∷ old) new) f) (fresh-more (x ∷ old) new w)
  where
    go : (b : Bool) → equal w x ≡ b → (not (has old x) ≡ true) × (fresh (x ∷ old) new ≡ true)
        → (fresh (x ∷ old) new ≡ true → has (x ∷ old) w ≡ false → has new w ≡ false → fresh (x ∷ old) (new ++ (w ∷ [])) ≡ true)
        → (not (has old x) && fresh (x ∷ old) (new ++ (w ∷ []))) ≡ true
    go true e a rec = let z : ◌≡◌ {A = ℕ} 0 1 = cc in absurd (omega arith)
    go false e a rec = rw a.0 (rec a.1 (rw e o) (let z : (equal w x || has new w) ≡ has new w = rw e refl in sym z ∙ n))
