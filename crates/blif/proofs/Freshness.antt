-- Names that are fresh: apart from the old ones, and each once.
use mathlib.Core.Path.{◌≡◌, refl, sym, ap, ◌∙◌}
use mathlib.Core.Bool.{Bool, true, false, ◌&&◌, ◌||◌, not}
use mathlib.Core.List.{List, [], ◌∷◌}
use Rattle.maps.specs.Lists.{all, equal}
use Rattle.blif.specs.Words.{Word}
use Rattle.blif.specs.Names.{has, fresh}

-- none of the words is among the names
abbrev pub apart : (names words : List Word) → Bool
apart ns ws = all (λ w. not (has ns w)) ws

apart_more : (n : Word) (old ws : List Word) → apart (n ∷ old) ws ≡ (apart (n ∷ []) ws && apart old ws)
apart_more n old [] = refl
apart_more n old (w ∷ ws) = go (equal w n) (has old w) (apart (n ∷ old) ws) (apart (n ∷ []) ws) (apart old ws) (apart_more n old ws)
  where
    go : (a b x y z : Bool) → x ≡ (y && z) → (not (a || b) && x) ≡ ((not (a || false) && y) && (not b && z))
    go true b x y z e = refl
    go false true x true z e = refl
    go false true x false z e = refl
    go false false x y z e = e

-- Fresh names are apart from the old ones, and fresh among themselves.
pub fresh-splits : (old new : List Word) → fresh old new ≡ (apart old new && fresh [] new)
fresh-splits old [] = refl
fresh-splits old (n ∷ new) =
    go (has old n) (fresh (n ∷ old) new) (apart (n ∷ old) new) (apart (n ∷ []) new) (apart old new) (fresh (n ∷ []) new) (fresh [] new) (fresh-splits (n ∷ old) new) (apart_more n old new) (fresh-splits (n ∷ []) new)
  where
    go : (h f a b c g k : Bool) → f ≡ (a && k) → a ≡ (b && c) → g ≡ (b && k) → (not h && f) ≡ ((not h && c) && g)
    go true f a b c g k p q r = refl
    go false f a true true g k p q r = p ∙ ap (λ x. x && k) q ∙ sym r
    go false f a true false g k p q r = p ∙ ap (λ x. x && k) q
    go false f a false true g k p q r = p ∙ ap (λ x. x && k) q ∙ sym r
    go false f a false false g k p q r = p ∙ ap (λ x. x && k) q
