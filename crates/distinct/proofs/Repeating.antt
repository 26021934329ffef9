-- Words that come twice: `fresh` by occurrences, and occurrences in ascending words.
use Prim.Native.Nat.{◌+◌, ◌≤◌}
use mathlib.Core.Path.{◌≡◌, refl, sym, ap, ◌∙◌}
use mathlib.Core.Bool.{Bool, true, false, cond, ◌||◌, not, ◌&&◌}
use mathlib.Core.List.{List, [], ◌∷◌, ◌++◌}
use native.Mathlib.Omega.{arith}
use lib.Dec.{ltb}
use borrow.Author.Tests.{lt-ltb, le-ltb, ltb-false}
use Rattle.maps.specs.Lists.{All, equal}
use Rattle.blif.specs.Words.{Word}
use Rattle.blif.specs.Names.{has, fresh}
use Rattle.blif.proofs.Naming.{equal-true, equal-self}
use Rattle.std.specs.Prelude.{Result, Ok, Err, is_ok}
use Rattle.distinct.specs.declared.Repeated.{Repeated}
use Rattle.distinct.specs.Sorting.{Precedes, Ascending, occurrences, Sorted}
use Rattle.distinct.proofs.Ordering.{precedes-other}

pub occurrences-append : (w : Word) (xs ys : List Word) → occurrences w (xs ++ ys) ≡ occurrences w xs + occurrences w ys
occurrences-append w [] ys = omega arith
occurrences-append w (x ∷ xs) ys = omega (arith, occurrences-append w xs ys)

has-occurs : (w : Word) (ns : List Word) → has ns w ≡ ltb 0 (occurrences w ns)
has-occurs w [] = sym (le-ltb 0 0 (omega arith))
has-occurs w (n ∷ ns) = go (equal w n) (has-occurs w ns)
  where
    go : (b : Bool) → has ns w ≡ ltb 0 (occurrences w ns) → (b || has ns w) ≡ ltb 0 (occurrences w ns + cond b 1 0)
    go true e = sym (lt-ltb 0 (occurrences w ns + 1) (omega arith))
    go false e = let z : occurrences w ns ≡ occurrences w ns + 0 = omega arith in e ∙ ap (ltb 0) z

pub self-once : (w : Word) (ws : List Word) → occurrences w (w ∷ ws) ≡ occurrences w ws + 1
self-once w ws = rw (equal-self w) refl

-- words that come once are fresh
once-fresh : (old new : List Word) → ((w : Word) → occurrences w old + occurrences w new ≤ 1) → fresh old new ≡ true
once-fresh old [] h = refl
once-fresh old (n ∷ new) h =
    let z : occurrences n old ≤ 0 = omega (arith, h n, self-once n new) in
    rw (has-occurs n old ∙ le-ltb 0 (occurrences n old) z) (once-fresh (n ∷ old) new (λ w. omega (arith, h w)))

-- a word that comes twice is not
twice-fresh : (w : Word) (old new : List Word) → occurrences w old ≤ 1 → 2 ≤ occurrences w old + occurrences w new → fresh old new ≡ false
twice-fresh w old [] h l = absurd (omega arith)
twice-fresh w old (n ∷ new) h l = go (ltb 0 (occurrences n old)) refl (twice-fresh w (n ∷ old) new)
  where
    once : (b : Bool) → equal w n ≡ b → occurrences n old ≤ 0 → occurrences w old + cond b 1 0 ≤ 1
    once true e z = let q : w ≡ n = equal-true w n e in (let s : occurrences w old ≤ 0 = rw q z in omega arith)
    once false e z = omega (arith, h)

    go : (b : Bool) → ltb 0 (occurrences n old) ≡ b → (occurrences w (n ∷ old) ≤ 1 → 2 ≤ occurrences w (n ∷ old) + occurrences w new → fresh (n ∷ old) new ≡ false) → (not (has old n) && fresh (n ∷ old) new) ≡ false
    go true e rec = rw (has-occurs n old ∙ e) refl
    go false e rec = rw (has-occurs n old ∙ e) (rec (once (equal w n) refl (ltb-false 0 (occurrences n old) e)) (omega arith))

none_after : (w : Word) (ws : List Word) → All (Precedes w) ws → occurrences w ws ≡ 0
none_after w [] h = refl
none_after w (x ∷ ws) h = rw (precedes-other w x h.0) (omega (arith, none_after w ws h.1))

ascending-once : (ws : List Word) → Ascending ws → (w : Word) → occurrences w ws ≤ 1
ascending-once [] h w = omega arith
ascending-once (x ∷ ws) h w = go (equal w x) refl (ascending-once ws h.1 w)
  where
    go : (b : Bool) → equal w x ≡ b → occurrences w ws ≤ 1 → occurrences w ws + cond b 1 0 ≤ 1
    go true e l = let q : w ≡ x = equal-true w x e in (let s : occurrences w ws ≡ 0 = rw q (none_after x ws h.0) in omega arith)
    go false e l = omega arith

-- what sorting answers is whether the words are all different
pub sorted-fresh : (words sorted : List Word) (r : Result (Unit {0}) Repeated) → Sorted words sorted r → is_ok r ≡ fresh [] words
sorted-fresh words sorted (Ok u) h = sym (once-fresh [] words (λ w. omega (arith, h.1 w, ascending-once sorted h.0 w)))
sorted-fresh words sorted (Err e) h = sym (twice-fresh h.0 [] words (omega arith) (omega (arith, h.1)))
