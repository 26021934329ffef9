-- Bytes 10: the position after the next one, how many stand before a position, and how many lines they end.
use Prim.Native.Nat.{ℕ, suc, ◌+◌, ◌-◌, ◌≤◌, ◌<◌}
use mathlib.Core.Path.{◌≡◌, refl, sym, ap, ◌∙◌}
use mathlib.Core.Bool.{Bool, true, false, cond, not}
use mathlib.Core.List.{List, [], ◌∷◌}
use native.Mathlib.Omega.{arith}
use lib.Dec.{eqb, ltb}
use lib.ListN.{length, take, drop, drop_of_length-le}
use lib.Seq.{take-length}
use Rattle.std.specs.List.{filter}
use Rattle.std.proofs.lemmas.List.{length-take}
use borrow.Author.Tests.{eq-eqb, ne_eqb, ltb-true, ltb-false}
use Rattle.maps.specs.Number.{byte_at}
use Rattle.blif.specs.Lines.{lines}
use Rattle.blif.specs.Scan.{past, newlines, open_end}
use Rattle.blif.proofs.Positions.{at-cons, lines-count}

-- the line after a position begins after it
pub later : {start end next size : ℕ} → start ≤ end → end ≤ next → start < size → (end < size → end < next) → start < next
later {start} {end} {next} {size} l m h k = go (ltb end size) refl
  where
    go : (b : Bool) → ltb end size ≡ b → start < next
    go true e = omega (arith, l, k (ltb-true end size e))
    go false e = omega (arith, m, h, ltb-false end size e)

module _ (s : List ℕ) (at : ℕ) where
  -- the next byte 10 stands here, or further on, or nowhere
  pub past-here : at < length s → byte_at s at ≡ 10 → past (drop at s) ≡ drop (at + 1) s
  unfolding past
  past-here l e = ap past (at-cons s at l) ∙ rw (eq-eqb (byte_at s at) 10 e) refl

  pub past-on : at < length s → (byte_at s at ≡ 10 → ⊥) → past (drop at s) ≡ past (drop (at + 1) s)
  unfolding past
  past-on l h = ap past (at-cons s at l) ∙ rw (ne_eqb (byte_at s at) 10 h) refl

  pub past_end : length s ≤ at → past (drop at s) ≡ []
  unfolding past
  past_end l = ap past (drop_of_length-le s l)

-- the bytes 10 of a text, picked out, and no more of them before a position than bytes
pub newlines-filtered : (s : List ℕ) → newlines s ≡ length (filter (λ b. eqb b 10) s)
unfolding newlines
newlines-filtered [] = refl
newlines-filtered (b ∷ s) = go (eqb b 10) (newlines-filtered s)
  where
    go : (x : Bool) → newlines s ≡ length (filter (λ b. eqb b 10) s) → cond x (suc (newlines s)) (newlines s) ≡ length (cond x (b ∷ filter (λ b. eqb b 10) s) (filter (λ b. eqb b 10) s))
    go true e = ap suc e
    go false e = e

newlines-few : (s : List ℕ) → newlines s ≤ length s
unfolding newlines
newlines-few [] = omega arith
newlines-few (b ∷ s) = go (eqb b 10) (newlines-few s)
  where
    go : (x : Bool) → newlines s ≤ length s → cond x (suc (newlines s)) (newlines s) ≤ suc (length s)
    go true l = omega (arith, l)
    go false l = omega (arith, l)

pub newlines-most : (s : List ℕ) (end : ℕ) → newlines (take end s) ≤ end
newlines-most s end = omega (arith, newlines-few (take end s), length-take end s)

-- the last line has no byte 10 where the last byte is none
open-last : (s : List ℕ) → 0 < length s → open_end s ≡ not (eqb (byte_at s (length s - 1)) 10)
unfolding open_end
open-last [] l = absurd (omega (arith, l))
open-last (b ∷ []) l = refl
open-last (b ∷ c ∷ s) l =
    let e : suc (length (c ∷ s) - 1) ≡ length (b ∷ c ∷ s) - 1 = omega arith in
    open-last (c ∷ s) (omega arith) ∙ ap (λ n. not (eqb (byte_at (b ∷ c ∷ s) n) 10)) e

-- how many lines: as many as bytes 10, and one more where the last line has none
module _ (s : List ℕ) where
  pub lines_none : length s ≡ 0 → 0 ≡ length (lines s)
  unfolding lines
  lines_none e = go s e
    where
      go : (t : List ℕ) → length t ≡ 0 → 0 ≡ length (lines t)
      go [] e = refl
      go (b ∷ t) e = absurd (omega (arith, e))

  count-last : 0 < length s → length (lines s) ≡ newlines (take (length s) s) + cond (not (eqb (byte_at s (length s - 1)) 10)) 1 0
  count-last l = lines-count s ∙ ap (λ b. newlines s + cond b 1 0) (open-last s l) ∙ ap (λ t. newlines t + cond (not (eqb (byte_at s (length s - 1)) 10)) 1 0) (sym (take-length s))

  pub lines-ended : 0 < length s → byte_at s (length s - 1) ≡ 10 → length (lines s) ≡ newlines (take (length s) s)
  lines-ended l e = count-last l ∙ rw (eq-eqb (byte_at s (length s - 1)) 10 e) (omega arith)

  pub lines-open : 0 < length s → (byte_at s (length s - 1) ≡ 10 → ⊥) → length (lines s) ≡ newlines (take (length s) s) + 1
  lines-open l h = count-last l ∙ rw (ne_eqb (byte_at s (length s - 1)) 10 h) refl
