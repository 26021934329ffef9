-- A line copied without its joins.
use Prim.Native.Nat.{ℕ, suc, ◌+◌, ◌<◌}
use mathlib.Core.Path.{◌≡◌, refl, sym, subst, ap, ◌∙◌}
use mathlib.Core.Bool.{Bool, true, false, ◌&&◌, and-false}
use mathlib.Core.List.{List, [], ◌∷◌, ◌++◌, append-nil}
use lib.Dec.{eqb, ltb}
use borrow.Author.Tests.{ltb-true, ltb-false}
use lib.ListN.{length, take, drop, set}
use lib.Seq.{append_snoc, set_split}
use Rattle.maps.specs.Lists.{All}
use Rattle.maps.specs.Number.{byte_at}
use Rattle.maps.proofs.Member.{All-join}
use Rattle.blif.specs.Lines.{newline, comment, backslash}
use Rattle.blif.specs.Words.{words}
use Rattle.blif.specs.Scan.{until, from, ends_line, at_line_end, words_at}
use Rattle.blif.proofs.Positions.{at-cons}
use Rattle.blif.proofs.Ordering.{or-false}
use Rattle.scan.specs.Joins.{any_byte}
use Rattle.scan.proofs.Counting.{inside, no_end}
use Rattle.scan.proofs.Naming.{rest-past, rest-ends, rest-byte}
use Rattle.distinct.proofs.Filling.{take-write}

abbrev Plain : List ℕ → Type 0
Plain = All (λ b. ends_line b ≡ false)

-- a line without joins before a comment
until-plain : (xs ys : List ℕ) → Plain xs → until ends_line (xs ++ comment ∷ ys) ≡ xs
unfolding until
until-plain [] [] h = refl
until-plain [] (y ∷ ys) h = refl
until-plain (x ∷ []) ys h = rw (and-false (eqb x backslash), h.0) (ap (λ r. x ∷ r) (until-plain [] ys tt))
until-plain (x ∷ y ∷ xs) ys h =
    let n = (or-false (eqb y newline) (eqb y comment) h.1.0).0 in
    rw (ap (λ b. eqb x backslash && b) n ∙ and-false (eqb x backslash), h.0) (ap (λ r. x ∷ r) (until-plain (y ∷ xs) ys h.1))

-- the line from `start` on is the first n bytes of the copy, and the line from `at` on
pub record Copied (s : List ℕ) (start : ℕ) (line : List ℕ) (at n : ℕ) : Type 0 where
  pub plain : Plain (take n line)
  pub rest : take n line ++ until ends_line (drop at s) ≡ until ends_line (drop start s)

-- p is where the joins at `at` end
module _ (s : List ℕ) (start : ℕ) (line : List ℕ) (at n p : ℕ) (c : Copied s start line at n) (e : drop p s ≡ from any_byte (drop at s)) (l : n < length line) where
  copied-end : until ends_line (drop at s) ≡ [] → words_at (set line n comment) 0 ≡ words_at s start
  unfolding until words
  copied-end e =
      ap (λ t. words (until ends_line t)) (set_split line n comment l)
      ∙ ap words (until-plain (take n line) (drop (suc n) line) c.plain ∙ sym (append-nil (take n line)) ∙ ap (λ r. take n line ++ r) (sym e) ∙ c.rest)

  -- the line ends there
  pub copied-stop : at_line_end (drop p s) ≡ true → words_at (set line n comment) 0 ≡ words_at s start
  copied-stop f = copied-end (go (ltb p (length s)) refl)
    where
      go : (b : Bool) → ltb p (length s) ≡ b → until ends_line (drop at s) ≡ []
      go true q = let m = ltb-true p (length s) q in (rest-ends ends_line s at p e m (ap at_line_end (sym (at-cons s p m)) ∙ f)).0
      go false q = (rest-past ends_line s at p e (ltb-false p (length s) q)).0

  -- or it goes on past a byte
  pub copied_byte : at_line_end (drop p s) ≡ false → Copied s start (set line n (byte_at s p)) (p + 1) (n + 1)
  copied_byte f =
      let b = byte_at s p in
      let w = take-write line n b l in
      let g : ends_line b ≡ false = no_end s p f in
      let r : until ends_line (drop at s) ≡ b ∷ until ends_line (drop (p + 1) s) = rest-byte ends_line s at p e (inside s p f) g in
      record {
        plain = subst Plain (sym w) (All-join (λ b. ends_line b ≡ false) (take n line) (b ∷ []) c.plain (g, tt));
        rest = ap (λ r. r ++ until ends_line (drop (p + 1) s)) w ∙ append_snoc (take n line) b (until ends_line (drop (p + 1) s)) ∙ ap (λ t. take n line ++ t) (sym r) ∙ c.rest;
      }
