-- What is found along a name: its hash, and whether each byte is a 0, 1 or -.
use Prim.Native.Nat.{ℕ}
use mathlib.Core.Path.{◌≡◌, refl, ap, ◌∙◌}
use mathlib.Core.Bool.{Bool, ◌&&◌, ◌||◌}
use mathlib.Core.List.{List, [], ◌∷◌}
use lib.Dec.{eqb}
use lib.ListN.{length}
use borrow.Author.Tests.{eq-eqb}
use Rattle.std.specs.List.{fold, list_all}
use Rattle.maps.specs.Lists.{all}
use Rattle.blif.specs.Subset.{literals}
use Rattle.scan.specs.Hash.{hash_with, hash_from}

-- a hash, byte after byte
pub hash-folded : (hash : ℕ) (w : List ℕ) → fold hash_with hash w ≡ hash_from hash w
unfolding hash_from
hash-folded hash [] = refl
hash-folded hash (b ∷ w) = hash-folded (hash_with hash b) w

-- a byte that stands for an input's value
abbrev pub literal : ℕ → Bool
literal b = eqb b 48 || eqb b 49 || eqb b 45

all-same : (w : List ℕ) → list_all literal w ≡ all literal w
all-same [] = refl
all-same (b ∷ w) = ap (λ x. literal b && x) (all-same w)

-- the test of a word of the right length, by the test of its bytes
pub all-literals : (inputs : ℕ) (w : List ℕ) → length w ≡ inputs → list_all literal w ≡ literals inputs w
all-literals inputs w e = all-same w ∙ rw (eq-eqb (length w) inputs e) refl
