-- Names from one byte to the next: a turn at a position, and what is left of the name after it.
use Prim.Native.Nat.{ℕ, zero, suc, ◌+◌, ◌-◌, ◌≤◌, ◌<◌}
use mathlib.Core.Path.{◌≡◌, refl, sym, ap, ◌∙◌}
use mathlib.Core.Bool.{Bool, true, false, cond}
use mathlib.Core.List.{List, [], ◌∷◌}
use native.Mathlib.Omega.{arith}
use lib.Dec.{eqb}
use lib.ListN.{length}
use borrow.Author.Tests.{ne_eqb, eqb-false}
use Rattle.maps.specs.Number.{byte_at}
use Rattle.blif.specs.Scan.{ends_word, name_at, join_at}
use Rattle.blif.proofs.Walking.{name-turn, name-none}

-- what is left of a name whose next byte stands before a position; 0 where nothing is
abbrev pub left : (text : List ℕ) → (next : ℕ) → List ℕ
left text zero = []
left text (suc k) = byte_at text k ∷ name_at text (suc k)

-- the position after the next byte of the name that goes on at `at`
pub record Next (text : List ℕ) (at next : ℕ) : Type 0 where
  pub name : name_at text at ≡ left text next
  pub inside : next ≤ length text
  pub on : (next ≡ 0 → ⊥) → at < next

pub name-joins : (s : List ℕ) (at : ℕ) → at < length s → true ≡ join_at s at → name_at s at ≡ name_at s (at + 2)
name-joins s at l e = name-turn s at l ∙ rw (sym e) refl

pub name-ends : (s : List ℕ) (start at : ℕ) → name_at s start ≡ name_at s at → at < length s → false ≡ join_at s at → ends_word (byte_at s at) ≡ true → Next s start 0
name-ends s start at i l e f = record { name = i ∙ name-turn s at l ∙ rw (sym e, f) refl; inside = omega arith; on = λ h. absurd (h refl) }

pub name-past : (s : List ℕ) (start at : ℕ) → name_at s start ≡ name_at s at → length s ≤ at → Next s start 0
name-past s start at i l = record { name = i ∙ name-none s at l; inside = omega arith; on = λ h. absurd (h refl) }

pub name-byte : (s : List ℕ) (start at : ℕ) → name_at s start ≡ name_at s at → start ≤ at → at < length s → false ≡ join_at s at → ends_word (byte_at s at) ≡ false → Next s start (at + 1)
name-byte s start at i m l e f =
    let q : at + 1 ≡ suc at = omega arith in
    record {
      name = i ∙ name-turn s at l ∙ rw (sym e, f) (ap (λ n. byte_at s at ∷ name_at s n) q) ∙ ap (left s) (sym q);
      inside = omega arith;
      on = λ h. omega arith;
    }

-- what is left of a name: nothing, or the byte before the position and what is left after it
pub left-none : (s : List ℕ) (p : ℕ) → p ≡ 0 → left s p ≡ []
left-none s p e = ap (left s) e

pub left-some : (s : List ℕ) (p : ℕ) → (p ≡ 0 → ⊥) → left s p ≡ byte_at s (p - 1) ∷ name_at s p
left-some s zero h = absurd (h refl)
left-some s (suc k) h = let e : k ≡ suc k - 1 = omega arith in ap (λ i. byte_at s i ∷ name_at s (suc k)) e

pub left-next : (s : List ℕ) (p next : ℕ) → (p ≡ 0 → ⊥) → Next s p next → left s p ≡ byte_at s (p - 1) ∷ left s next
left-next s p next h n = left-some s p h ∙ ap (λ w. byte_at s (p - 1) ∷ w) n.name

-- how much of the text is left, 0 where the name has ended
abbrev pub ahead : List ℕ → ℕ → ℕ
ahead s p = cond (eqb p 0) 0 (length s + 1 - p)

pub ahead-falls : (s : List ℕ) (p next : ℕ) → (p ≡ 0 → ⊥) → p ≤ length s → Next s p next → ahead s next < ahead s p
ahead-falls s p next h l n = rw (ne_eqb p 0 h) (go (eqb next 0) refl)
  where
    go : (b : Bool) → eqb next 0 ≡ b → cond b 0 (length s + 1 - next) < length s + 1 - p
    go true e = omega arith
    go false e = omega (arith, n.on (eqb-false next 0 e), n.inside)
