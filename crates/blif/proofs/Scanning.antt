-- The scanner's laws: lines and words of a text, from position to position.
use Prim.Native.Nat.{ℕ, suc, ◌+◌}
use mathlib.Core.Path.{◌≡◌, refl, sym, ap, ◌∙◌}
use mathlib.Core.Bool.{Bool, true, false, cond, ◌&&◌}
use mathlib.Core.List.{List, [], ◌∷◌}
use mathlib.Core.Logic.{◌⊎◌, inl, inr}
use native.Mathlib.Omega.{arith}
use lib.Dec.{eqb}
use borrow.Author.Tests.{eqb-true}
use Rattle.blif.specs.Lines.{onto, lines, Part, ends, joins, after, part, Joined, numbered, joined_to, joined_after, joined}
use Rattle.blif.specs.Scan.{until, from, ends_line, past, past_line, newlines}

-- what a byte is
data Class (b : ℕ) : Type 0 where
  newline : b ≡ 10 → Class b
  comment : b ≡ 35 → Class b
  backslash : b ≡ 92 → Class b
  other : eqb b 10 ≡ false → eqb b 35 ≡ false → eqb b 92 ≡ false → Class b

class : (b : ℕ) → Class b
class b = go (eqb b 10) (eqb b 35) (eqb b 92) refl refl refl
  where
    go : (x y z : Bool) → eqb b 10 ≡ x → eqb b 35 ≡ y → eqb b 92 ≡ z → Class b
    go true y z e f g = newline (eqb-true b 10 e)
    go false true z e f g = comment (eqb-true b 35 f)
    go false false true e f g = backslash (eqb-true b 92 g)
    go false false false e f g = other e f g

-- the first line of a text
lines-first : (c : ℕ) (t : List ℕ) → eqb c 10 ≡ false → (l : List ℕ) × (ls : List (List ℕ)) × (lines (c ∷ t) ≡ (c ∷ l) ∷ ls)
unfolding lines
lines-first c t e = go (lines t)
  where
    go : (ls : List (List ℕ)) → (l : List ℕ) × (ks : List (List ℕ)) × (cond (eqb c 10) ([] ∷ ls) (onto c ls) ≡ (c ∷ l) ∷ ks)
    go [] = ([], [], rw e)
    go (l ∷ ls) = (l, ls, rw e)

lines_none : (t : List ℕ) → lines t ≡ [] → t ≡ []
unfolding lines
lines_none [] e = refl
lines_none (b ∷ t) e = go (eqb b 10) (lines t) e
  where
    go : (x : Bool) (ls : List (List ℕ)) → cond x ([] ∷ ls) (onto b ls) ≡ [] → b ∷ t ≡ []
    go true ls q = let z : ◌≡◌ {A = ℕ} 0 1 = cc in absurd (omega arith)
    go false [] q = let z : ◌≡◌ {A = ℕ} 0 1 = cc in absurd (omega arith)
    go false (l ∷ ls) q = let z : ◌≡◌ {A = ℕ} 0 1 = cc in absurd (omega arith)

-- after the next byte 10 the other lines stand
past-lines : (t l : List ℕ) (ls : List (List ℕ)) → lines t ≡ l ∷ ls → lines (past t) ≡ ls
unfolding lines past
past-lines [] l ls e = let z : ◌≡◌ {A = ℕ} 0 1 = cc in absurd (omega arith)
past-lines (b ∷ t) l ls e = go (eqb b 10) (lines t) refl e (past-lines t)
  where
    go : (x : Bool) (ks : List (List ℕ)) → lines t ≡ ks → cond x ([] ∷ ks) (onto b ks) ≡ l ∷ ls → ((m : List ℕ) (ms : List (List ℕ)) → lines t ≡ m ∷ ms → lines (past t) ≡ ms) → lines (cond x t (past t)) ≡ ls
    go true ks f q rec = let z : ks ≡ ls = cc in f ∙ z
    go false [] f q rec = let z : [] ≡ ls = cc in rw (lines_none t f) z
    go false (k ∷ ks) f q rec = let z : ks ≡ ls = cc in rec k ks f ∙ z

-- one byte 10 is passed, or the text is at its end
past-newlines : (t : List ℕ) → (past t ≡ []) ⊎ (newlines t ≡ suc (newlines (past t)))
unfolding newlines past
past-newlines [] = inl refl
past-newlines (b ∷ t) = go (eqb b 10) (past-newlines t)
  where
    go : (x : Bool) → (past t ≡ []) ⊎ (newlines t ≡ suc (newlines (past t))) → (cond x t (past t) ≡ []) ⊎ (cond x (suc (newlines t)) (newlines t) ≡ suc (newlines (cond x t (past t))))
    go true r = inr refl
    go false r = r

pub lines-some : (c : ℕ) (t : List ℕ) → (l : List ℕ) × (ls : List (List ℕ)) × (lines (c ∷ t) ≡ l ∷ ls)
unfolding lines
lines-some c t = go (eqb c 10) (lines t)
  where
    go : (x : Bool) (ls : List (List ℕ)) → (l : List ℕ) × (ks : List (List ℕ)) × (cond x ([] ∷ ls) (onto c ls) ≡ l ∷ ks)
    go true ls = ([], ls, refl)
    go false [] = (c ∷ [], [], refl)
    go false (l ∷ ls) = (c ∷ l, ls, refl)

-- the first joined line of a text, the rest after it, and how many bytes 10 are passed
pub record FirstLine (n : ℕ) (t : List ℕ) : Type 0 where
  pub count : ℕ
  pub counted : newlines t ≡ count + newlines (past_line t)
  pub law : joined n (lines t) ≡ numbered n (until ends_line t) ∷ joined (n + count) (lines (past_line t))

-- a byte onto_first in front of the first of joined lines
abbrev onto_first : ℕ → List Joined → List Joined
onto_first b [] = []
onto_first b (l ∷ ls) = numbered l.number (b ∷ l.bytes) ∷ ls

put-after : (n b : ℕ) (p : Part) (js : List Joined) → joined_after n (after b p) js ≡ onto_first b (joined_after n p js)
put-after n b (ends bytes) js = refl
put-after n b (joins bytes) [] = refl
put-after n b (joins bytes) (j ∷ js) = refl

lines_more : (b c : ℕ) (t l : List ℕ) (ls : List (List ℕ)) → lines (c ∷ t) ≡ l ∷ ls → eqb b 10 ≡ false → lines (b ∷ c ∷ t) ≡ (b ∷ l) ∷ ls
unfolding lines
lines_more b c t l ls e f = rw f (ap (onto b) e)

part-more : (n b : ℕ) (l : List ℕ) (ls : List (List ℕ)) → part (b ∷ l) ≡ after b (part l) → joined n ((b ∷ l) ∷ ls) ≡ onto_first b (joined n (l ∷ ls))
unfolding joined
part-more n b l ls g = ap (λ p. joined_after n p (joined (suc n) ls)) g ∙ put-after n b (part l) (joined (suc n) ls)

joined-more : (n b c : ℕ) (t l : List ℕ) (ls : List (List ℕ)) → lines (c ∷ t) ≡ l ∷ ls → eqb b 10 ≡ false → part (b ∷ l) ≡ after b (part l) → joined n (lines (b ∷ c ∷ t)) ≡ onto_first b (joined n (lines (c ∷ t)))
joined-more n b c t l ls e f g = ap (joined n) (lines_more b c t l ls e f) ∙ part-more n b l ls g ∙ ap (λ ks. onto_first b (joined n ks)) (sym e)

-- the functions at a byte that neither joins nor stops
newlines-more : (b : ℕ) (t : List ℕ) → eqb b 10 ≡ false → newlines (b ∷ t) ≡ newlines t
unfolding newlines
newlines-more b t e = rw e refl

until-more : (stop : ℕ → Bool) (b c : ℕ) (t : List ℕ) → (eqb b 92 && eqb c 10) ≡ false → stop b ≡ false → until stop (b ∷ c ∷ t) ≡ b ∷ until stop (c ∷ t)
unfolding until
until-more stop b c t e f = rw (e, f) refl

from_more : (stop : ℕ → Bool) (b c : ℕ) (t : List ℕ) → (eqb b 92 && eqb c 10) ≡ false → stop b ≡ false → from stop (b ∷ c ∷ t) ≡ from stop (c ∷ t)
unfolding from
from_more stop b c t e f = rw (e, f) refl

past_more : (b c : ℕ) (t : List ℕ) → (eqb b 92 && eqb c 10) ≡ false → ends_line b ≡ false → past_line (b ∷ c ∷ t) ≡ past_line (c ∷ t)
unfolding past_line
past_more b c t e f = ap past (from_more ends_line b c t e f)

-- a byte that neither joins nor ends a line is the line's next byte
byte-first : (n b c : ℕ) (t : List ℕ) → eqb b 10 ≡ false → ends_line b ≡ false → (eqb b 92 && eqb c 10) ≡ false → (l : List ℕ) (ls : List (List ℕ)) → lines (c ∷ t) ≡ l ∷ ls → part (b ∷ l) ≡ after b (part l) → FirstLine n (c ∷ t) → FirstLine n (b ∷ c ∷ t)
byte-first n b c t e10 es ej l ls el ep r = record {
  count = r.count;
  counted = newlines-more b (c ∷ t) e10 ∙ r.counted ∙ ap (λ x. r.count + newlines x) (sym (past_more b c t ej es));
  law =
      joined-more n b c t l ls el e10 ep ∙ ap (onto_first b) r.law
      ∙ ap (λ x. numbered n x ∷ joined (n + r.count) (lines (past_line (c ∷ t)))) (sym (until-more ends_line b c t ej es))
      ∙ ap (λ x. numbered n (until ends_line (b ∷ c ∷ t)) ∷ joined (n + r.count) (lines x)) (sym (past_more b c t ej es));
}

-- a line that is one_byte
one_byte : (n b : ℕ) → FirstLine n (b ∷ [])
unfolding joined lines until past_line newlines
one_byte n b = go (class b)
  where
    go : Class b → FirstLine n (b ∷ [])
    go (newline e) = rw e (record { count = 1; counted = refl; law = refl })
    go (comment e) = rw e (record { count = 0; counted = refl; law = refl })
    go (backslash e) = rw e (record { count = 0; counted = refl; law = refl })
    go (other e f g) = record { count = 0; counted = rw (e, f, g) refl; law = rw (e, f, g) refl }

-- the line ends at a byte 10
newline-first : (n c : ℕ) (t : List ℕ) → FirstLine n (10 ∷ c ∷ t)
unfolding joined lines until past_line newlines
newline-first n c t = record { count = 1; counted = omega arith; law = ap (λ k. numbered n [] ∷ joined k (lines (c ∷ t))) (omega arith) }

-- the line ends at a comment
comment-first : (n c : ℕ) (t : List ℕ) → FirstLine n (35 ∷ c ∷ t)
unfolding joined lines until past_line newlines
comment-first n c t = go (past-newlines (c ∷ t)) (lines-some c t)
  where
    comment-part : (l : List ℕ) → part (35 ∷ l) ≡ ends []
    comment-part [] = refl
    comment-part (x ∷ l) = refl

    there : (l : List ℕ) (ls : List (List ℕ)) → lines (c ∷ t) ≡ l ∷ ls → joined n (lines (35 ∷ c ∷ t)) ≡ numbered n [] ∷ joined (suc n) (lines (past (c ∷ t)))
    there l ls e =
        ap (λ ks. joined n (onto 35 ks)) e ∙ ap (λ p. joined_after n p (joined (suc n) ls)) (comment-part l)
        ∙ ap (λ ks. numbered n [] ∷ joined (suc n) ks) (sym (past-lines (c ∷ t) l ls e))

    go : (past (c ∷ t) ≡ []) ⊎ (newlines (c ∷ t) ≡ suc (newlines (past (c ∷ t)))) → (l : List ℕ) × (ls : List (List ℕ)) × (lines (c ∷ t) ≡ l ∷ ls) → FirstLine n (35 ∷ c ∷ t)
    go (inl e) r = record {
      count = newlines (c ∷ t);
      counted = rw e (omega arith);
      law = there r.0 r.1 r.2 ∙ ap (λ x. numbered n [] ∷ joined (suc n) (lines x)) e ∙ sym (ap (λ x. numbered n [] ∷ joined (n + newlines (c ∷ t)) (lines x)) e);
    }
    go (inr e) r = record {
      count = 1;
      counted = omega (arith, e);
      law = there r.0 r.1 r.2 ∙ ap (λ k. numbered n [] ∷ joined k (lines (past (c ∷ t)))) (omega arith);
    }

-- the next line is joined: none is left, or its own first line is
data Next (n : ℕ) : List ℕ → Type 0 where
  none : Next n []
  some : {d : ℕ} {t : List ℕ} → FirstLine n (d ∷ t) → Next n (d ∷ t)

join_first : (n : ℕ) (t : List ℕ) → Next (suc n) t → FirstLine n (92 ∷ 10 ∷ t)
unfolding joined lines until past_line newlines
join_first n [] none = record { count = 1; counted = refl; law = refl }
join_first n (d ∷ t) (some r) = record {
  count = suc r.count;
  counted = omega (arith, r.counted);
  law = ap (joined_to n []) r.law ∙ ap (λ k. numbered n (until ends_line (d ∷ t)) ∷ joined k (lines (past_line (d ∷ t)))) (omega arith);
}

-- a byte that is no backslash goes before a part of a line
part-plain : (b : ℕ) (l : List ℕ) → eqb b 35 ≡ false → eqb b 92 ≡ false → part (b ∷ l) ≡ after b (part l)
unfolding part
part-plain b [] e f = rw (e, f) refl
part-plain b (x ∷ l) e f = rw e refl

part-backslash : (c : ℕ) (l : List ℕ) → part (92 ∷ c ∷ l) ≡ after 92 (part (c ∷ l))
unfolding part
part-backslash c l = refl

turn : (n b c : ℕ) (t : List ℕ) → FirstLine n (c ∷ t) → Next (suc n) t → FirstLine n (b ∷ c ∷ t)
turn n b c t r k = go (class b)
  where
    backslash-first : (x : Bool) → eqb c 10 ≡ x → FirstLine n (92 ∷ c ∷ t)
    backslash-first true e = rw (eqb-true c 10 e) (join_first n t k)
    backslash-first false e =
        let f = lines-first c t e in
        byte-first n 92 c t refl refl e (c ∷ f.0) f.1 f.2 (part-backslash c f.0) r

    go : Class b → FirstLine n (b ∷ c ∷ t)
    go (newline e) = rw e (newline-first n c t)
    go (comment e) = rw e (comment-first n c t)
    go (backslash e) = rw e (backslash-first (eqb c 10) refl)
    go (other e f g) =
        let s = lines-some c t in
        byte-first n b c t e (rw e f) (rw g refl) s.0 s.1 s.2 (part-plain b s.0 f g) r

-- a text that is not empty: its first joined line, and the rest
pub first-line : (n b : ℕ) (t : List ℕ) → FirstLine n (b ∷ t)
first-line n b [] = one_byte n b
first-line n b (c ∷ []) = turn n b c [] (first-line n c []) none
first-line n b (c ∷ d ∷ t) = turn n b c (d ∷ t) (first-line n c (d ∷ t)) (some (first-line (suc n) d t))
