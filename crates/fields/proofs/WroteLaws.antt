-- Laws of what a part of the sheet writer has done.
use Prim.Native.Nat.{ℕ, zero, suc, ◌+◌, ◌-◌, ◌*◌, ◌^◌, ◌<◌, ◌≤◌}
use mathlib.Core.Path.{◌≡◌, refl, sym, ap, ◌∙◌}
use mathlib.Core.Bool.{Bool, true, false, ◌&&◌}
use mathlib.Core.List.{List, [], ◌∷◌, ◌++◌, map, append-nil, append_assoc, map-append}
use native.Mathlib.Omega.{arith}
use native.Mathlib.Nat.{add-zero, suc-mul, mul-le-mul_right}
use native.Mathlib.Numerals.{add-one}
use lib.Dec.{leb}
use lib.ListN.{length, get_or, length-append}
use borrow.Author.Tests.{lt-leb, le-leb, lt-ltb, le-ltb}
use Rattle.maps.specs.Lists.{All, below, concat}
use Rattle.maps.specs.Limits.{Range as Span, range, size_range}
use Rattle.maps.specs.Number.{width, encoded, bytes_for}
use Rattle.maps.specs.Form.{Rule, among, boxed, under, passes, rule_ground}
use Rattle.maps.specs.Sizes.{bytes_most}
use Rattle.maps.specs.Write.{Entry, entry, Passes, First, values_of, spelled}
use Rattle.maps.proofs.Member.{All-join, All-split}
use Rattle.maps.proofs.Spelling.{written-length}
use Rattle.maps.proofs.WrittenSize.{within-bytes, id-bytes, most-append}
use Rattle.maps.proofs.Numbers.{spelled-append, first-later, first-sooner, concat-snoc}
use Rattle.std.specs.Prelude.{Result, Ok, Err}
use Rattle.std.specs.Result.{IsErrAnd}
use Rattle.std.proofs.lemmas.Result.{err_from_is_err_and}
use Rattle.types.specs.Code.{number_of}
use Rattle.types.specs.declared.Refusal.{Refusal}
use Rattle.types.specs.declared.Refusal.TheVariants.{Range, Operand}
use Rattle.out_bytes.specs.Put.{Put}
use Rattle.out_bytes.proofs.Putting.{put-none, put-within, put_then}
use Rattle.fields.specs.declared.Position.{Position}
use Rattle.fields.specs.Wrote.{Room, Wrote, passed, failed}

abbrev pub position : (at number : ℕ) → Position
position a n = record { at = a; number = n }

-- a number that fails, and one that passes
fails-here : (r : Rule) (x : ℕ) → passes r x ≡ false → First (entry r x ∷ []) (rule_ground r) 0
fails-here r x f = record { before = []; faulty = entry r x; after = []; listed = refl; place = refl; good = tt; fails = f; number = refl }

and-false : (a : Bool) → (a && false) ≡ false
and-false true = refl
and-false false = refl

and-true : (a : Bool) → (a && true) ≡ a
and-true true = refl
and-true false = refl

module _ (bytes : List ℕ) (p : Position) (low high x : ℕ) where
  pub wrote-low : x < low → Wrote (entry (among (range low high)) x ∷ []) bytes bytes p (Err (Range p.number))
  wrote-low l = failed 0 (fails-here (among (range low high)) x (rw (lt-leb low x l))) (sym (add-zero p.number)) refl

  pub wrote-high : high < x → Wrote (entry (among (range low high)) x ∷ []) bytes bytes p (Err (Range p.number))
  wrote-high l = failed 0 (fails-here (among (range low high)) x (rw (lt-leb x high l) (and-false (leb low x)))) (sym (add-zero p.number)) refl

  pub wrote-among : (after : List ℕ) (next : ℕ) → low ≤ x → x ≤ high → Put (bytes_for x) bytes after p.at next (encoded x)
      → Wrote (entry (among (range low high)) x ∷ []) bytes after p (Ok (position next (p.number + 1)))
  wrote-among after next l h w =
      passed {next = position next (p.number + 1)} (rw (le-leb low x l, le-leb x high h), tt)
      (rw (append-nil (encoded x)) (put-within _ (omega (arith, within-bytes h)) w)) refl

-- a number more can be counted, where no more came before than bytes, of which a number takes one or more
pub counts : (x : ℕ) {number : ℕ} {a b : List ℕ} {p q : ℕ} → number ≤ p → Put (bytes_for x) a b p q (encoded x) → q < 2 ^ 64 → number + 1 < 2 ^ 64
counts x l w f = omega (arith, w.end, written-length (width - 1) x)

-- the one number of a list is its first that fails
module _ (e : Entry) where
  abbrev Fails : (k j : ℕ) → Type 0
  Fails k j = (passes e.rule e.value ≡ false) × (rule_ground e.rule ≡ k) × (j ≡ 0)

  fails-only : {k j : ℕ} → First (e ∷ []) k j → Fails k j
  fails-only {k} {j} f = go f.before f.faulty f.after f.listed f.place f.fails f.number
    where
      go : (bs : List Entry) (x : Entry) (cs : List Entry) → e ∷ [] ≡ bs ++ (x ∷ cs) → length bs ≡ j → passes x.rule x.value ≡ false
          → rule_ground x.rule ≡ k → Fails k j
      go [] x cs l p n g = let q : e ≡ x = ap (λ es. get_or es 0 e) l in (rw q n, rw q g, sym p)
      go (b ∷ bs) x cs l p n g = absurd (omega (arith, ap length l, length-append bs (x ∷ cs)))

-- a number that is no box's id, and one that is
module _ (r : Span) (is_box : ℕ → Bool) (x : ℕ) where
  pub wrote-no-box : (bytes : List ℕ) (p : Position) → is_box x ≡ false → Wrote (entry (boxed r is_box) x ∷ []) bytes bytes p (Err (Range p.number))
  wrote-no-box bytes p e =
      failed 0 (fails-here (boxed r is_box) x (rw e (and-false (leb r.low x && leb x r.high)))) (sym (add-zero p.number)) refl

  box-passes : is_box x ≡ true → {b : Bool} → passes (among r) x ≡ b → passes (boxed r is_box) x ≡ b
  box-passes e {b} h = rw (h, e) (and-true b)

  pub wrote-box : is_box x ≡ true → {a b : List ℕ} {p : Position} {q : Result Position Refusal} → Wrote (entry (among r) x ∷ []) a b p q → Wrote (entry (boxed r is_box) x ∷ []) a b p q
  wrote-box e (passed {next = next} good f n) = passed {next = next} (box-passes e good.0, tt) f n
  wrote-box e (failed {w = w} j f q l) =
      let h = fails-only (entry (among r) x) f in
      let g : First (entry (boxed r is_box) x ∷ []) (number_of w) 0 =
      record { before = []; faulty = entry (boxed r is_box) x; after = []; listed = refl; place = refl; good = tt; fails = box-passes e h.0; number = h.1 } in
      failed {w = w} 0 g (omega (arith, h.2)) l

module _ (bytes : List ℕ) (p : Position) (own x : ℕ) where
  pub wrote-own : own ≤ x → Wrote (entry (under own) x ∷ []) bytes bytes p (Err (Operand p.number))
  wrote-own l = failed 0 (fails-here (under own) x (le-ltb x own l)) (sym (add-zero p.number)) refl

  pub wrote-under : (after : List ℕ) (next : ℕ) → own ≤ size_range.high → x < own → Put (bytes_for x) bytes after p.at next (encoded x)
      → Wrote (entry (under own) x ∷ []) bytes after p (Ok (position next (p.number + 1)))
  wrote-under after next o l w =
      passed {next = position next (p.number + 1)} (lt-ltb x own l, tt) (rw (append-nil (encoded x)) (put-within _ (omega (arith, id-bytes {x = x} (omega arith))) w)) refl

-- nothing yet
pub wrote_none : (bytes : List ℕ) (p : Position) → Wrote [] bytes bytes p (Ok p)
wrote_none bytes p = passed tt (put-none bytes p.at) (sym (add-zero p.number))

-- each number takes a byte or more
byte-each : (es : List Entry) → length es ≤ length (spelled (values_of es))
byte-each [] = omega arith
byte-each (e ∷ es) =
    omega (arith, length-append (encoded e.value) (spelled (values_of es)), written-length (width - 1) e.value, byte-each es)

-- one part after another
wrote-stop : (es ds : List Entry) {a b : List ℕ} {p : Position} {w : Refusal} → Wrote es a b p (Err w) → Wrote (es ++ ds) a b p (Err w)
wrote-stop es ds (failed j f q l) = failed j (first-sooner es ds _ j f) q l

pub wrote_then : (es ds : List Entry) {a b c : List ℕ} {p next : Position} {r : Result Position Refusal} → Wrote es a b p (Ok next) → Wrote ds b c next r
    → Wrote (es ++ ds) a c p r
wrote_then es ds (passed good f n) (passed {next = last} more g m) =
    passed {next = last} (All-join Passes es ds good more)
    (rw (map-append (λ (e : Entry). e.value) es ds, spelled-append (values_of es) (values_of ds)) (put_then _ (omega (arith, most-append es ds)) f g))
    (omega (arith, length-append es ds))
wrote_then es ds (passed good f n) (failed {w = w} j g q l) = failed {w = w} (length es + j) (first-later es ds _ j good g) (omega arith) (l ∙ f.wide)

-- an answer that was looked at
pub begun : {es : List Entry} {a b : List ℕ} {p next : Position} {q : Result Position Refusal} → q ≡ Ok next → Wrote es a b p q → Wrote es a b p (Ok next)
begun e h = rw e at h

-- the same with the lists found from the parts: the part that stopped before `rest`, as `?` hands it on, one more part, and the last one
pub stopped : {es : List Entry} (rest : List Entry) {a b : List ℕ} {p : Position} {w : Refusal} {r : Result Position Refusal} → IsErrAnd r (λ e. e ≡ w)
    → Wrote es a b p (Err w) → Wrote (es ++ rest) a b p r
stopped {es} rest {r = r} e h = let q = err_from_is_err_and r e in rw (q.1, q.2) (wrote-stop es rest h)

pub more : {es ds : List Entry} {a b c : List ℕ} {p next : Position} {r : Result Position Refusal} → Wrote es a b p (Ok next) → Wrote ds b c next r
    → Wrote (es ++ ds) a c p r
more {es} {ds} h k = wrote_then es ds h k

pub last_one : {es ds : List Entry} {a b c : List ℕ} {p next : Position} {r : Result Position Refusal} → Wrote es a b p (Ok next) → Wrote ds b c next r
    → Wrote (es ++ ds) a c p r
last_one h k = more h k

-- the buffer keeps its length
pub wrote-wide : {es : List Entry} {a b : List ℕ} {p : Position} {r : Result Position Refusal} → Wrote es a b p r → length b ≡ length a
wrote-wide (passed good f n) = f.wide
wrote-wide (failed j f q l) = l

-- how many numbers came before
pub numbered : {es : List Entry} {a b : List ℕ} {p next : Position} → Wrote es a b p (Ok next) → next.number ≡ p.number + length es
numbered (passed good f n) = n

-- what room is left after numbers that were written
pub room-left : {es : List Entry} {k m : ℕ} {a b : List ℕ} {p next : Position} → Wrote es a b p (Ok next) → bytes_most es + k ≤ m → Room m a p → Room k b next
room-left {es} (passed good f n) l r =
    record { space = omega (arith, f.near, f.wide, r.space); counted = omega (arith, f.end, n, r.counted, byte-each es) }

pub room-less : {k m : ℕ} {a : List ℕ} {p : Position} → k ≤ m → Room m a p → Room k a p
room-less l r = record { space = omega (arith, r.space); counted = r.counted }

-- rows in order: one more of them, and the rest after a refusal
rows_more : (f : ℕ → List Entry) (j : ℕ) {a b c : List ℕ} {p next : Position} {r : Result Position Refusal} → Wrote (concat (map f (below j))) a b p (Ok next)
    → Wrote (f j) b c next r → Wrote (concat (map f (below (suc j)))) a c p r
rows_more f j h k = rw (concat-snoc f (below j) j) (wrote_then (concat (map f (below j))) (f j) h k)

rows_split : (f : ℕ → List Entry) (k n : ℕ) → concat (map f (below (n + k))) ≡ concat (map f (below n)) ++ concat (map (λ j. f (n + j)) (below k))
rows_split f zero n = rw (add-zero n) (sym (append-nil (concat (map f (below n)))))
rows_split f (suc k) n =
    let q : n + suc k ≡ suc (n + k) = omega arith in
    rw (q, concat-snoc f (below (n + k)) (n + k), rows_split f k n, concat-snoc (λ j. f (n + j)) (below k) k)
    (append_assoc (concat (map f (below n))) (concat (map (λ j. f (n + j)) (below k))) (f (n + k)))

-- rows that take at most so many bytes each, where their numbers pass
pub rows-most : (f : ℕ → List Entry) {most : ℕ} → ((j : ℕ) → All Passes (f j) → bytes_most (f j) ≤ most) → (n : ℕ) {a b : List ℕ} {p next : Position}
    → Wrote (concat (map f (below n))) a b p (Ok next) → bytes_most (concat (map f (below n))) ≤ n * most
rows-most f {most} h n (passed good g e) = go n good
  where
    go : (n : ℕ) → All Passes (concat (map f (below n))) → bytes_most (concat (map f (below n))) ≤ n * most
    go zero p = omega arith
    go (suc n) p =
        let q = concat-snoc f (below n) n in
        let s = All-split Passes (concat (map f (below n))) (f n) (rw q at p) in
        rw q (omega (arith, most-append (concat (map f (below n))) (f n), go n s.0, h n s.1, suc-mul n most))

-- the room for one more of them
pub rows-room : (f : ℕ → List Entry) {most : ℕ} → ((j : ℕ) → All Passes (f j) → bytes_most (f j) ≤ most) → (j n : ℕ) → j < n
    → {a b : List ℕ} {p next : Position} → Wrote (concat (map f (below j))) a b p (Ok next) → Room (n * most) a p → Room most b next
rows-room f {most} h j n l w = room-left w (omega (arith, rows-most f h j w, mul-le-mul_right most l, suc-mul j most))

module _ (f : ℕ → List Entry) (j : ℕ) where
  pub rows_next : {a b c : List ℕ} {p next last : Position} → Wrote (concat (map f (below j))) a b p (Ok next) → Wrote (f j) b c next (Ok last)
      → Wrote (concat (map f (below (j + 1)))) a c p (Ok last)
  rows_next h k = rw (add-one j) (rows_more f j h k)

  pub rows-stop : (n : ℕ) → j < n → {a b c : List ℕ} {p next : Position} {w : Refusal} {r : Result Position Refusal} → IsErrAnd r (λ e. e ≡ w)
      → Wrote (concat (map f (below j))) a b p (Ok next) → Wrote (f j) b c next (Err w) → Wrote (concat (map f (below n))) a c p r
  rows-stop n l e h k =
      let q : n ≡ suc j + (n - suc j) = omega arith in
      rw (q, rows_split f (n - suc j) (suc j))
      (stopped (concat (map (λ m. f (suc j + m)) (below (n - suc j)))) e (rows_more f j h k))

  pub rows_all : (n : ℕ) → j ≤ n → n ≤ j → {a b : List ℕ} {p : Position} {r : Result Position Refusal} → Wrote (concat (map f (below j))) a b p r
      → Wrote (concat (map f (below n))) a b p r
  rows_all n l m h = let e : n ≡ j = omega arith in rw e h
