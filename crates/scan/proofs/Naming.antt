-- A line or a name byte by byte, from position to position: p is where the joins at a position end.
use Prim.Native.Nat.{ℕ, ◌+◌, ◌≤◌, ◌<◌}
use mathlib.Core.Path.{◌≡◌, refl, sym, subst, ap, ◌∙◌}
use mathlib.Core.Bool.{Bool, true, false, cond}
use mathlib.Core.List.{List, [], ◌∷◌}
use lib.ListN.{length, drop}
use Rattle.maps.specs.Number.{byte_at}
use Rattle.blif.specs.Scan.{joins_here, until, from, ends_word, name_at}
use Rattle.blif.proofs.Positions.{at-cons, until_end}
use Rattle.blif.proofs.Wording.{Stopped, from-stops, here}
use Rattle.scan.specs.Joins.{any_byte}

module _ (stop : ℕ → Bool) where
  -- what is before the stop goes on after joins as it does at them
  joins-passed : (t : List ℕ) → until stop t ≡ until stop (from any_byte t)
  unfolding until from
  joins-passed [] = refl
  joins-passed (b ∷ []) = go (joins_here b []) refl
    where
      go : (x : Bool) → joins_here b [] ≡ x → until stop (b ∷ []) ≡ until stop (cond x [] (b ∷ []))
      go true f = rw f refl
      go false f = refl
  joins-passed (b ∷ c ∷ t) = go (joins_here b (c ∷ t)) refl (joins-passed t)
    where
      go : (x : Bool) → joins_here b (c ∷ t) ≡ x → until stop t ≡ until stop (from any_byte t) → until stop (b ∷ c ∷ t) ≡ until stop (cond x (from any_byte t) (b ∷ c ∷ t))
      go true f r = rw f r
      go false f r = refl

  -- at a byte that does not join
  first-byte : (b : ℕ) (t : List ℕ) → Stopped any_byte (b ∷ t) → until stop (b ∷ t) ≡ cond (stop b) [] (b ∷ until stop t)
  unfolding until
  first-byte b [] (here s j) = rw j refl
  first-byte b (c ∷ t) (here s j) = rw j refl

  module _ (s : List ℕ) (at p : ℕ) (e : drop p s ≡ from any_byte (drop at s)) where
    here-too : until stop (drop at s) ≡ until stop (drop p s)
    here-too = joins-passed (drop at s) ∙ ap (until stop) (sym e)

    turn : p < length s → until stop (drop p s) ≡ cond (stop (byte_at s p)) [] (byte_at s p ∷ until stop (drop (p + 1) s))
    turn l =
        ap (until stop) (at-cons s p l)
        ∙ first-byte (byte_at s p) (drop (p + 1) s) (subst (Stopped any_byte) (sym e ∙ at-cons s p l) (from-stops any_byte (drop at s)))

    pub rest-past : length s ≤ p → (until stop (drop at s) ≡ []) × (until stop (drop p s) ≡ [])
    rest-past l = let n = until_end stop s p l in (here-too ∙ n, n)

    pub rest-ends : p < length s → stop (byte_at s p) ≡ true → (until stop (drop at s) ≡ []) × (until stop (drop p s) ≡ [])
    rest-ends l f = let n = turn l ∙ rw f refl in (here-too ∙ n, n)

    pub rest-byte : p < length s → stop (byte_at s p) ≡ false → until stop (drop at s) ≡ byte_at s p ∷ until stop (drop (p + 1) s)
    rest-byte l f = here-too ∙ turn l ∙ rw f refl

-- the same of a name
module _ (s : List ℕ) (at p : ℕ) (e : drop p s ≡ from any_byte (drop at s)) where
  pub name-past : length s ≤ p → (name_at s at ≡ []) × (name_at s p ≡ [])
  unfolding until
  name-past l = rest-past ends_word s at p e l

  pub name-ends : p < length s → ends_word (byte_at s p) ≡ true → (name_at s at ≡ []) × (name_at s p ≡ [])
  unfolding until
  name-ends l f = rest-ends ends_word s at p e l f

  pub name-byte : p < length s → ends_word (byte_at s p) ≡ false → name_at s at ≡ byte_at s p ∷ name_at s (p + 1)
  unfolding until
  name-byte l f = rest-byte ends_word s at p e l f
