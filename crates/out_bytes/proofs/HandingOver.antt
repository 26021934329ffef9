-- Bytes copied into a buffer, or not where it is too short.
use Prim.Native.Nat.{ℕ, suc, ◌+◌, ◌≤◌, ◌<◌}
use mathlib.Core.Path.{◌≡◌, refl, sym, ap, ◌∙◌}
use mathlib.Core.List.{List, ◌++◌}
use native.Mathlib.Omega.{arith}
use native.Mathlib.Numerals.{add-one}
use lib.ListN.{length, get_or, set, take, drop}
use lib.Seq.{length-take-le, take-suc, drop-cons, append_snoc, set_at}
use borrow.Author.Tests.{le-leb, lt-leb}
use Rattle.maps.specs.Outcome.{within}
use Rattle.out_bytes.specs.Outcome.{Answered}

-- a turn of the loop that copies
pub copied_more : (bytes before buffer : List ℕ) (i : ℕ) → i < length bytes → i < length before → buffer ≡ take i bytes ++ drop i before
    → set buffer i (get_or bytes i 0) ≡ take (i + 1) bytes ++ drop (i + 1) before
copied_more bytes before buffer i l m e =
    ap (λ (b : List ℕ). set b i (get_or bytes i 0)) (e ∙ ap (λ (r : List ℕ). take i bytes ++ r) (drop-cons before i 0 m))
    ∙ set_at (take i bytes) (get_or before i 0) (drop (suc i) before) (get_or bytes i 0) i (length-take-le i bytes (omega arith))
    ∙ sym (append_snoc (take i bytes) (get_or bytes i 0) (drop (suc i) before))
    ∙ ap (λ (r : List ℕ). r ++ drop (suc i) before) (sym (take-suc bytes i 0 l))
    ∙ ap (λ (k : ℕ). take k bytes ++ drop k before) (sym (add-one i))

-- bytes that the buffer has no room for, and bytes that it has
module _ (bytes buffer : List ℕ) (n : ℕ) (wide : n ≤ length bytes) where
  pub no_room : length buffer < n → Answered (within (length buffer) (take n bytes)) 8 n buffer buffer
  no_room l =
      let e = length-take-le n bytes wide in
      rw (lt-leb (length (take n bytes)) (length buffer) (omega arith)) (refl, sym e, refl)

  pub written : (after : List ℕ) → n ≤ length buffer → after ≡ take n bytes ++ drop n buffer → Answered (within (length buffer) (take n bytes)) 0 n buffer after
  written after l q =
      let e = length-take-le n bytes wide in
      rw (le-leb (length (take n bytes)) (length buffer) (omega arith)) (refl, sym e, q ∙ ap (λ (k : ℕ). take n bytes ++ drop k buffer) (sym e))
