-- Writes into a buffer: a number, and one write after another.
use Prim.Native.Nat.{ℕ, zero, suc, ◌+◌, ◌-◌, ◌/◌, ◌%◌, ◌^◌, ◌≤◌, ◌<◌}
use mathlib.Core.Path.{◌≡◌, refl, sym, ap, ◌∙◌}
use mathlib.Core.List.{List, [], ◌∷◌, ◌++◌, map, append_assoc, append-nil}
use native.Mathlib.Omega.{arith}
use native.Mathlib.Numerals.{add-one}
use lib.ListN.{length, take, set, length-append, length-set}
use lib.Seq.{take-suc-set}
use borrow.Author.Tests.{le-ltb}
use Rattle.maps.specs.Lists.{concat}
use Rattle.maps.specs.Number.{encoded_up_to, width}
use Rattle.maps.proofs.Spelling.{written-length, encoded-small}
use Rattle.out_bytes.specs.Put.{Put}

-- nothing is written
pub put-none : (bytes : List ℕ) (at : ℕ) → Put 0 bytes bytes at at []
put-none bytes at = record { end = omega arith; near = omega arith; wide = refl; front = sym (append-nil _) }

-- the bound on the bytes is raised
pub put-within : {m : ℕ} {a b : List ℕ} {p q : ℕ} {xs : List ℕ} (k : ℕ) → m ≤ k → Put m a b p q xs → Put k a b p q xs
put-within k l f = record { end = f.end; near = omega (arith, f.near); wide = f.wide; front = f.front }

-- two writes
pub put_then : {m n : ℕ} {a b c : List ℕ} {p q r : ℕ} {xs ys : List ℕ} (k : ℕ) → m + n ≤ k → Put m a b p q xs → Put n b c q r ys
    → Put k a c p r (xs ++ ys)
put_then {a = a} {p = p} {xs = xs} {ys = ys} k l f g =
    record {
      end = omega (arith, length-append xs ys, f.end, g.end);
      near = omega (arith, f.near, g.near);
      wide = g.wide ∙ f.wide;
      front = g.front ∙ ap (λ (l : List ℕ). l ++ ys) f.front ∙ append_assoc (take p a) xs ys;
    }

-- one byte
put_byte : (bytes : List ℕ) (at x : ℕ) → at < length bytes → Put 1 bytes (set bytes at x) at (at + 1) (x ∷ [])
put_byte bytes at x l =
    record {
      end = omega arith;
      near = omega arith;
      wide = length-set bytes at x;
      front = rw (add-one at) (take-suc-set bytes at x l);
    }

-- A number of at most 1 + g bytes, written group by group: the low groups of x stand from `at` to `to`, and what is left of x, `rest`, has a spelling
-- in the bytes that are left.
pub record Begun (g x : ℕ) (before bytes : List ℕ) (at to rest : ℕ) : Type 0 where
  pub low : List ℕ
  pub left : ℕ
  pub count : length low + left ≡ g
  pub put : Put (length low) before bytes at to low
  pub fits : rest < 128 ^ suc left
  pub whole : encoded_up_to g x ≡ low ++ encoded_up_to left rest

module _ {g x : ℕ} {before : List ℕ} {at : ℕ} where
  pub begun-none : x < 128 ^ suc g → Begun g x before before at at x
  begun-none l = record { low = []; left = g; count = omega arith; put = put-none before at; fits = l; whole = refl }

  module _ {bytes : List ℕ} {to rest : ℕ} (room : at + length (encoded_up_to g x) ≤ length before) (b : Begun g x before bytes at to rest) where
    -- there is room for the next byte
    pub begun-room : to < length bytes
    begun-room =
        omega (
          arith,
          b.put.end,
          b.put.wide,
          ap length b.whole,
          length-append b.low (encoded_up_to b.left rest),
          written-length b.left rest,
        )

    -- the next group: a rest of 128 or more has another byte after it
    pub begun_more : 128 ≤ rest → Begun g x before (set bytes to (128 + rest % 128)) at (to + 1) (rest / 128)
    unfolding encoded_up_to
    begun_more l = go b.left b.count b.fits b.whole
      where
        group : List ℕ
        group = (128 + rest % 128) ∷ []

        go : (k : ℕ) → length b.low + k ≡ g → rest < 128 ^ suc k → encoded_up_to g x ≡ b.low ++ encoded_up_to k rest
            → Begun g x before (set bytes to (128 + rest % 128)) at (to + 1) (rest / 128)
        go zero c f w = absurd (omega arith)
        go (suc k) c f w =
            let n = length-append b.low group in
            record {
              low = b.low ++ group;
              left = k;
              count = omega arith;
              put = put_then _ (omega arith) b.put (put_byte bytes to (128 + rest % 128) begun-room);
              fits = omega arith;
              whole = w ∙ rw (le-ltb rest 128 l) (sym (append_assoc b.low group (encoded_up_to k (rest / 128))));
            }

    -- the last group
    pub begun-last : rest < 128 → Put (length (encoded_up_to g x)) before (set bytes to rest) at (to + 1) (encoded_up_to g x)
    begun-last l =
        let e : encoded_up_to g x ≡ b.low ++ (rest ∷ []) = b.whole ∙ ap (λ (r : List ℕ). b.low ++ r) (encoded-small b.left rest l) in
        rw e (put_then _ (omega (arith, length-append b.low (rest ∷ []))) b.put (put_byte bytes to rest begun-room))

-- after two bytes what is left of a number is below 128
pub last-below : {x : ℕ} {before bytes : List ℕ} {at to rest : ℕ} → Begun (width - 1) x before bytes at to rest → to ≡ at + 2 → rest < 128
last-below {rest = rest} b e = go b.left (omega (arith, b.count, b.put.end, e)) b.fits
  where
    go : (k : ℕ) → k ≡ 0 → rest < 128 ^ suc k → rest < 128
    go zero z f = omega (arith, f)
    go (suc k) z f = absurd (omega (arith, z))

-- one more element
pub concat-more : {A : Type 0} (f : A → List ℕ) (xs : List A) (y : A) → concat (map f (xs ++ (y ∷ []))) ≡ concat (map f xs) ++ f y
concat-more f [] y = append-nil (f y)
concat-more f (x ∷ xs) y = rw (concat-more f xs y) (sym (append_assoc (f x) (concat (map f xs)) (f y)))
