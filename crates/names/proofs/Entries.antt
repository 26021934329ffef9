-- A name put into an entry byte by byte, and the names of a table by their entries.
use Prim.Native.Nat.{ℕ, ◌+◌, ◌≤◌, ◌<◌}
use mathlib.Core.Path.{◌≡◌, sym, ap, ◌∙◌}
use mathlib.Core.List.{List, [], ◌∷◌, ◌++◌, map, map-append, append-nil}
use native.Mathlib.Omega.{arith}
use native.Mathlib.Numerals.{add-one}
use lib.ListN.{length, get_or, take, drop, set, length-append}
use lib.Seq.{length-take-le, take-suc-set, append_snoc, ext_get_or}
use Rattle.std.proofs.lemmas.List.{get_or-take}
use Rattle.maps.specs.Lists.{below}
use Rattle.maps.proofs.Over.{length_over, get_d_over}
use Rattle.blif.specs.Words.{Word}
use Rattle.blif.proofs.Positions.{at-cons}
use Rattle.names.specs.declared.Entry.{Entry}
use Rattle.names.specs.declared.Names.{Names}
use Rattle.names.specs.Table.{entry_in, word_of, name_in}

-- the first n bytes and what is left are the name
pub begun-room : (bytes w : List ℕ) (n b : ℕ) (rest more : List ℕ) → n ≤ length bytes → take n bytes ++ rest ≡ w → rest ≡ b ∷ more → n + 1 ≤ length w
begun-room bytes w n b rest more l e f = omega (arith, ap length e, length-append (take n bytes) rest, length-take-le n bytes l, ap length f)

pub begun_more : (bytes w : List ℕ) (n b : ℕ) (rest more : List ℕ) → n < length bytes → take n bytes ++ rest ≡ w → rest ≡ b ∷ more → take (n + 1) (set bytes n b) ++ more ≡ w
begun_more bytes w n b rest more l e f =
    ap (λ (k : ℕ). take k (set bytes n b) ++ more) (add-one n) ∙ ap (λ (t : List ℕ). t ++ more) (take-suc-set bytes n b l)
    ∙ append_snoc (take n bytes) b more ∙ ap (λ (t : List ℕ). take n bytes ++ t) (sym f) ∙ e

-- before the first byte, and after the last
pub begun-none : (bytes : List ℕ) {w rest : List ℕ} → w ≡ rest → take 0 bytes ++ rest ≡ w
begun-none bytes e = sym e

pub begun-length : (bytes w : List ℕ) (n : ℕ) (rest : List ℕ) → n ≤ length bytes → take n bytes ++ rest ≡ w → n + length rest ≡ length w
begun-length bytes w n rest l e = omega (arith, ap length e, length-append (take n bytes) rest, length-take-le n bytes l)

pub begun_all : (bytes w : List ℕ) (n : ℕ) {rest : List ℕ} → rest ≡ [] → take n bytes ++ rest ≡ w → take n bytes ≡ w
begun_all bytes w n e f = sym (append-nil (take n bytes)) ∙ rw e at f

-- a name is as long as its entry says, and from a byte on it is that byte and those after it
module _ (e : Entry) (held : e.size ≤ length e.bytes) where
  pub length-name : length (word_of e) ≡ e.size
  length-name = length-take-le e.size e.bytes held

  pub name-from : (j : ℕ) → j < e.size → drop j (word_of e) ≡ get_or e.bytes j 0 ∷ drop (j + 1) (word_of e)
  name-from j l = let n = length-name in rw (at-cons (word_of e) j (omega arith), get_or-take e.size e.bytes j 0 l)

-- tables that agree in an entry have the same name there
pub name-same : (s t : Names) (i : ℕ) → entry_in s i ≡ entry_in t i → name_in s i ≡ name_in t i
name-same s t i = ap word_of

pub stored-name : (table : Names) (i : ℕ) {e : Entry} {w : Word} → entry_in table i ≡ e → word_of e ≡ w → name_in table i ≡ w
stored-name table i p q = ap word_of p ∙ q

-- lists made over 0, 1, .. n - 1 by functions that agree there
pub over-same : {A : Type 0} (f g : ℕ → A) (d : A) (n : ℕ) → ((i : ℕ) → i < n → f i ≡ g i) → map f (below n) ≡ map g (below n)
over-same f g d n h =
    ext_get_or d (map f (below n)) (map g (below n)) (length_over f d n ∙ sym (length_over g d n))
    (λ i l. let m : i < n = omega (arith, length_over f d n) in get_d_over f d n i m ∙ h i m ∙ sym (get_d_over g d n i m))

pub over-more : {A : Type 0} (f : ℕ → A) (n : ℕ) → map f (below (n + 1)) ≡ map f (below n) ++ (f n ∷ [])
over-more f n = ap (λ (m : ℕ). map f (below m)) (add-one n) ∙ map-append f (below n) (n ∷ [])
