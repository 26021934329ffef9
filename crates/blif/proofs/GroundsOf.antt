-- The ground that `fault` finds of a line is the one on which the line is refused, and every such ground is found.
use Prim.Native.Nat.{ℕ, ◌+◌, ◌≤◌, ◌<◌}
use mathlib.Core.Path.{◌≡◌, refl, sym, subst, ap, ◌∙◌}
use mathlib.Core.Bool.{Bool, true, false, cond, ◌&&◌, not}
use mathlib.Core.List.Memᴰ
use mathlib.Core.List.{List, [], ◌∷◌, ◌++◌, Memᴰ}
use mathlib.Core.Logic.{◌⊎◌, inl, inr}
use native.Mathlib.Omega.{arith}
use lib.Dec.{leb}
use lib.ListN.{length}
use borrow.Author.Tests.{leb-true, leb-false, not-true, not-false}
use Rattle.maps.specs.Lists.{All, all, equal}
use Rattle.maps.specs.Limits.{size_range, operands_most}
use Rattle.maps.proofs.Over.{and-true, and-false}
use Rattle.maps.proofs.Member.{All-at, any_found, any_of}
use Rattle.blif.specs.Words.{Word}
use Rattle.blif.specs.Subset.{Stage, Statement, model, inputs, outputs, names, row, latch, end, outside, statement}
use Rattle.blif.specs.Grammar.{Means, means-model, means-inputs, means-outputs, means-names, means-row, means-latch, means-initial, means-end}
use Rattle.blif.specs.Names.{Definition, definition, kind_of, inputs_of, defined, names_of, reads_of, has, fresh, resolves}
use Rattle.blif.specs.Limits.{name_most, named, few_operands, some_nodes, within_limits}
use Rattle.blif.specs.Model.{Model, is_outside, fault}
use Rattle.blif.specs.Grounds.{NameFault, early, twice, LimitFault, long-name, many-operands, many-nodes, no-nodes, GroundOf, by_form, by_name, by-limit, Right}
use Rattle.blif.proofs.Naming.{equal-true, equal-self}
use Rattle.blif.proofs.Ordering.{clash}
use Rattle.blif.proofs.Grammars.{Meant, in-subset, not-in-subset, meant, statement-of}

-- a test that holds of all, and one that fails of some
all-at : {A : Type 0} (p : A → Bool) {x : A} (xs : List A) → all p xs ≡ true → Memᴰ x xs → p x ≡ true
all-at {A = A} p [] e x3 = elim x3 [ ]
all-at p (y ∷ ys) e (Memᴰ.head q) = ap p q ∙ (and-true (p y) (all p ys) e).0
all-at p (y ∷ ys) e (Memᴰ.tail m) = all-at p ys (and-true (p y) (all p ys) e).1 m

all-lacks : {A : Type 0} (p : A → Bool) (xs : List A) → all p xs ≡ false → (x : A) × Memᴰ x xs × (p x ≡ false)
all-lacks p [] e = let z : ◌≡◌ {A = ℕ} 0 1 = cc in absurd (omega arith)
all-lacks {A} p (x ∷ xs) e = go (all-lacks p xs) (and-false (p x) (all p xs) e)
  where
    go : (all p xs ≡ false → (y : A) × Memᴰ y xs × (p y ≡ false)) → (p x ≡ false) ⊎ (all p xs ≡ false) → (y : A) × Memᴰ y (x ∷ xs) × (p y ≡ false)
    go rec (inl h) = (x, Memᴰ.head refl, h)
    go rec (inr h) = let r = rec h in (r.0, Memᴰ.tail r.1, r.2)

pub is_false : (b : Bool) → (b ≡ true → ⊥) → b ≡ false
is_false true h = absurd (h refl)
is_false false h = refl

is_true : (b : Bool) → (b ≡ false → ⊥) → b ≡ true
is_true true h = refl
is_true false h = absurd (h refl)

-- the test whether a name is there
pub has_in : (ns : List Word) (w : Word) → Memᴰ w ns → has ns w ≡ true
has_in ns w m = any_of (equal w) m (equal-self w)

pub has-out : (ns : List Word) (w : Word) → has ns w ≡ true → Memᴰ w ns
has-out ns w e =
    let r = any_found (equal w) ns e in
    subst (λ x. Memᴰ x ns) (sym (equal-true w r.0 r.2)) r.1

-- the names that definitions read
reads_in : (d : Definition) (w : Word) (ds : List Definition) → Memᴰ d ds → Memᴰ w d.reads → Memᴰ w (reads_of ds)
reads_in d w [] x'' m = elim x'' [ ]
reads_in d w (x ∷ ds) (Memᴰ.head q) m = Memᴰ.append_left (reads_of ds) (subst (λ (y : Definition). Memᴰ w y.reads) q m)
reads_in d w (x ∷ ds) (Memᴰ.tail n) m = Memᴰ.append_right x.reads (reads_in d w ds n m)

reads-out : (w : Word) (ds : List Definition) → Memᴰ w (reads_of ds) → (d : Definition) × Memᴰ d ds × Memᴰ w d.reads
reads-out w [] m = absurd (Memᴰ.not-nil m)
reads-out w (x ∷ ds) m = go (reads-out w ds) (Memᴰ.append_cases x.reads m)
  where
    go : (Memᴰ w (reads_of ds) → (d : Definition) × Memᴰ d ds × Memᴰ w d.reads) → Memᴰ w x.reads ⊎ Memᴰ w (reads_of ds)
        → (d : Definition) × Memᴰ d (x ∷ ds) × Memᴰ w d.reads
    go rec (inl h) = (x, Memᴰ.head refl, h)
    go rec (inr h) = let r = rec h in (r.0, Memᴰ.tail r.1, r.2)

-- a name that comes twice, where some names stand already
record Twice (old new : List Word) : Type 0 where
  before : List Word
  after : List Word
  name : Word
  split : new ≡ before ++ (name ∷ after)
  again : Memᴰ name old ⊎ Memᴰ name before

fresh-fails : (old new : List Word) → fresh old new ≡ false → Twice old new
fresh-fails old [] e = let z : ◌≡◌ {A = ℕ} 0 1 = cc in absurd (omega arith)
fresh-fails old (n ∷ new) e = go (fresh-fails (n ∷ old) new) (and-false (not (has old n)) (fresh (n ∷ old) new) e)
  where
    shift : (w : Word) (b : List Word) → Memᴰ w (n ∷ old) ⊎ Memᴰ w b → Memᴰ w old ⊎ Memᴰ w (n ∷ b)
    shift w b (inl (Memᴰ.head q)) = inr (Memᴰ.head q)
    shift w b (inl (Memᴰ.tail m)) = inl m
    shift w b (inr m) = inr (Memᴰ.tail m)

    go : (fresh (n ∷ old) new ≡ false → Twice (n ∷ old) new) → (not (has old n) ≡ false) ⊎ (fresh (n ∷ old) new ≡ false) → Twice old (n ∷ new)
    go rec (inl h) = record { before = []; after = new; name = n; split = refl; again = inl (has-out old n (not-false (has old n) h)) }
    go rec (inr h) =
        let r = rec h in
        record { before = n ∷ r.before; after = r.after; name = r.name; split = ap (λ x. n ∷ x) r.split; again = shift r.name r.before r.again }

fresh-never : (old before after : List Word) (w : Word) → fresh old (before ++ (w ∷ after)) ≡ true → Memᴰ w old ⊎ Memᴰ w before → ⊥
fresh-never old [] after w e (inl m) = clash (has old w) (has_in old w m) (not-true (has old w) (and-true (not (has old w)) (fresh (w ∷ old) after) e).0)
fresh-never old [] after w e (inr m) = Memᴰ.not-nil m
fresh-never old (b ∷ before) after w e m = fresh-never (b ∷ old) before after w (and-true (not (has old b)) (fresh (b ∷ old) (before ++ (w ∷ after))) e).1 (shift m)
  where
    shift : Memᴰ w old ⊎ Memᴰ w (b ∷ before) → Memᴰ w (b ∷ old) ⊎ Memᴰ w before
    shift (inl m) = inl (Memᴰ.tail m)
    shift (inr (Memᴰ.head q)) = inl (Memᴰ.head q)
    shift (inr (Memᴰ.tail m)) = inr m

-- 10: the test of names fails exactly if there is a fault in them
names-right : (M : Model) (s : Statement) → resolves (names_of M.definitions) (defined s) ≡ true → NameFault M s → ⊥
names-right M s e f = go f
  where
    old : List Word
    old = names_of M.definitions

    both : (all (has (names_of M.definitions)) (reads_of (defined s)) ≡ true) × (fresh (names_of M.definitions) (names_of (defined s)) ≡ true)
    both = and-true (all (has old) (reads_of (defined s))) (fresh old (names_of (defined s))) e

    go : NameFault M s → ⊥
    go (early d w m r u) = u (has-out old w (all-at (has old) (reads_of (defined s)) both.0 (reads_in d w (defined s) m r)))
    go (twice before after w q m) = fresh-never old before after w (subst (λ ns. fresh (names_of M.definitions) ns ≡ true) q both.1) m

names-faulty : (M : Model) (s : Statement) → resolves (names_of M.definitions) (defined s) ≡ false → NameFault M s
names-faulty M s e = go (and-false (all (has (names_of M.definitions)) (reads_of (defined s))) (fresh (names_of M.definitions) (names_of (defined s))) e)
  where
    go : (all (has (names_of M.definitions)) (reads_of (defined s)) ≡ false) ⊎ (fresh (names_of M.definitions) (names_of (defined s)) ≡ false) → NameFault M s
    go (inl h) =
        let r = all-lacks (has (names_of M.definitions)) (reads_of (defined s)) h in
        let d = reads-out r.0 (defined s) r.1 in
        early d.0 r.0 d.1 d.2 (λ m. clash (has (names_of M.definitions) r.0) (has_in (names_of M.definitions) r.0 m) r.2)
    go (inr h) = let t = fresh-fails (names_of M.definitions) (names_of (defined s)) h in twice t.before t.after t.name t.split t.again

-- 11: the tests of operands
few-operands : (s : Statement) → few_operands s ≡ true → All (λ (d : Definition). length d.reads ≤ operands_most) (defined s)
few-operands (model n) e = tt
few-operands (inputs ns) e = go ns
  where
    go : (ns : List Word) → All (λ (d : Definition). length d.reads ≤ operands_most) (inputs_of ns)
    go [] = tt
    go (n ∷ ns) = (omega arith, go ns)
few-operands (outputs ns) e = tt
few-operands (names us o) e = (leb-true (length us) operands_most e, tt)
few-operands row e = tt
few-operands (latch i o) e = (omega arith, tt)
few-operands end e = tt
few-operands outside e = tt

too_many : (M : Model) (s : Statement) → few_operands s ≡ false → LimitFault M s
too_many M (model n) e = clash true refl e
too_many M (inputs ns) e = clash true refl e
too_many M (outputs ns) e = clash true refl e
too_many M (names us o) e = many-operands (definition o (kind_of us) us) (Memᴰ.head refl) (leb-false (length us) operands_most e)
too_many M row e = clash true refl e
too_many M (latch i o) e = clash true refl e
too_many M end e = clash true refl e
too_many M outside e = clash true refl e

-- of nodes at `.end`
none-at-end : (M : Model) (s : Statement) → some_nodes (length M.definitions) s ≡ false → LimitFault M s
none-at-end M (model n) e = clash true refl e
none-at-end M (inputs ns) e = clash true refl e
none-at-end M (outputs ns) e = clash true refl e
none-at-end M (names us o) e = clash true refl e
none-at-end M row e = clash true refl e
none-at-end M (latch i o) e = clash true refl e
none-at-end M end e = no-nodes refl (go M.definitions (leb-false 1 (length M.definitions) e))
  where
    go : (ds : List Definition) → length ds < 1 → ds ≡ []
    go [] l = refl
    go (d ∷ ds) l = absurd (omega (arith, l))
none-at-end M outside e = clash true refl e

some-at-end : (M : Model) (s : Statement) → some_nodes (length M.definitions) s ≡ true → s ≡ end → M.definitions ≡ [] → ⊥
some-at-end M s e q n =
    let a : some_nodes (length M.definitions) end ≡ true = subst (λ s. some_nodes (length M.definitions) s ≡ true) q e in
    let z : 1 ≤ length M.definitions = leb-true 1 (length M.definitions) a in
    let y : length M.definitions ≡ 0 = ap length n in
    absurd (omega (arith, z, y))

-- and of all limits
limits-right : (M : Model) (s : Statement) → within_limits (length M.definitions) s ≡ true → LimitFault M s → ⊥
limits-right M s e f = go f
  where
    long : Bool
    long = all (λ w. leb (length w) name_most) (named s)

    count : Bool
    count = leb (length M.definitions + length (defined s)) size_range.high

    three : ((long && few_operands s && count) ≡ true) × (some_nodes (length M.definitions) s ≡ true)
    three = and-true (long && few_operands s && count) (some_nodes (length M.definitions) s) e

    two : ((long && few_operands s) ≡ true) × (count ≡ true)
    two = and-true (long && few_operands s) count three.0

    one : (long ≡ true) × (few_operands s ≡ true)
    one = and-true long (few_operands s) two.0

    go : LimitFault M s → ⊥
    go (long-name w m l) = absurd (omega (arith, l, leb-true (length w) name_most (all-at (λ w. leb (length w) name_most) (named s) one.0 m)))
    go (many-operands d m l) = absurd (omega (arith, l, All-at (λ (d : Definition). length d.reads ≤ operands_most) (defined s) (few-operands s one.1) m))
    go (many-nodes l) = absurd (omega (arith, l, leb-true (length M.definitions + length (defined s)) size_range.high two.1))
    go (no-nodes q n) = some-at-end M s three.1 q n

limits-faulty : (M : Model) (s : Statement) → within_limits (length M.definitions) s ≡ false → LimitFault M s
limits-faulty M s e = three (and-false (long && few_operands s && count) (some_nodes (length M.definitions) s) e)
  where
    long : Bool
    long = all (λ w. leb (length w) name_most) (named s)

    count : Bool
    count = leb (length M.definitions + length (defined s)) size_range.high

    one : (long ≡ false) ⊎ (few_operands s ≡ false) → LimitFault M s
    one (inl h) = let r = all-lacks (λ w. leb (length w) name_most) (named s) h in long-name r.0 r.1 (leb-false (length r.0) name_most r.2)
    one (inr h) = too_many M s h

    two : ((long && few_operands s) ≡ false) ⊎ (count ≡ false) → LimitFault M s
    two (inl h) = one (and-false long (few_operands s) h)
    two (inr h) = many-nodes (leb-false (length M.definitions + length (defined s)) size_range.high h)

    three : ((long && few_operands s && count) ≡ false) ⊎ (some_nodes (length M.definitions) s ≡ false) → LimitFault M s
    three (inl h) = two (and-false (long && few_operands s) count h)
    three (inr h) = none-at-end M s h

-- a line of the subset is not outside
inside : (at : Stage) (ws : List Word) (s : Statement) → Means at ws s → is_outside s ≡ false
inside at ws s means-model = refl
inside at ws s means-inputs = refl
inside at ws s means-outputs = refl
inside at ws s (means-names us o h) = refl
inside at ws s (means-row r) = refl
inside at ws s (means-latch h) = refl
inside at ws s (means-initial h e) = refl
inside at ws s (means-end h) = refl

-- what is found of a line that says s: the tests of form, names and limits come in the order 9, 10, 11
pub data Judged (at : Stage) (M : Model) (ws : List Word) (s : Statement) : ℕ → Type 0 where
  refused : {k : ℕ} → GroundOf at M ws k → Judged at M ws s k
  right : Right at M ws s → Judged at M ws s 0

pub judge : (at : Stage) (M : Model) (ws : List Word) → Judged at M ws (statement at ws) (fault M (statement at ws))
judge at M ws = go (statement at ws) refl (meant at ws)
  where
    within : (s : Statement) → Means at ws s → (NameFault M s → ⊥) → (l : Bool) → within_limits (length M.definitions) s ≡ l → Judged at M ws s (cond l 0 11)
    within s m n true e = right (record { form = m; names = n; limits = limits-right M s e })
    within s m n false e = refused (by-limit s m n (limits-faulty M s e))

    named : (s : Statement) → Means at ws s → (r : Bool) → resolves (names_of M.definitions) (defined s) ≡ r
        → Judged at M ws s (cond (not r) 10 (cond (within_limits (length M.definitions) s) 0 11))
    named s m true e = within s m (names-right M s e) (within_limits (length M.definitions) s) refl
    named s m false e = refused (by_name s m (names-faulty M s e))

    go : (s : Statement) → statement at ws ≡ s → Meant at ws s → Judged at M ws s (fault M s)
    go s q (in-subset m) = rw (inside at ws s m) (named s m (resolves (names_of M.definitions) (defined s)) refl)
    go outside q not-in-subset = refused (by_form (λ s m. clash (is_outside s) (ap is_outside (sym (statement-of at ws s m) ∙ q)) (inside at ws s m)))

-- each ground is found
pub ground-found : (at : Stage) (M : Model) (ws : List Word) (k : ℕ) → GroundOf at M ws k → fault M (statement at ws) ≡ k
ground-found at M ws _ (by_form h) = go (statement at ws) (meant at ws)
  where
    go : (s : Statement) → Meant at ws s → fault M s ≡ 9
    go s (in-subset m) = absurd (h s m)
    go outside not-in-subset = refl
ground-found at M ws _ (by_name s m f) =
    let r = is_false (resolves (names_of M.definitions) (defined s)) (λ e. names-right M s e f) in
    ap (fault M) (statement-of at ws s m) ∙ rw (inside at ws s m, r) refl
ground-found at M ws _ (by-limit s m n f) =
    let r = is_true (resolves (names_of M.definitions) (defined s)) (λ e. n (names-faulty M s e)) in
    let l = is_false (within_limits (length M.definitions) s) (λ e. limits-right M s e f) in
    ap (fault M) (statement-of at ws s m) ∙ rw (inside at ws s m, r, l) refl

pub right-found : (at : Stage) (M : Model) (ws : List Word) (s : Statement) → Right at M ws s → (statement at ws ≡ s) × (fault M s ≡ 0)
right-found at M ws s h =
    let r = is_true (resolves (names_of M.definitions) (defined s)) (λ e. h.names (names-faulty M s e)) in
    let l = is_true (within_limits (length M.definitions) s) (λ e. h.limits (limits-faulty M s e)) in
    (statement-of at ws s h.form, rw (inside at ws s h.form, r, l) refl)

-- a ground has a number
pub ground-some : (at : Stage) (M : Model) (ws : List Word) (k : ℕ) → GroundOf at M ws k → 1 ≤ k
ground-some at M ws _ (by_form h) = omega arith
ground-some at M ws _ (by_name s m f) = omega arith
ground-some at M ws _ (by-limit s m n f) = omega arith

-- and what is found is a ground, or there is none
pub found-ground : (at : Stage) (M : Model) (ws : List Word) (k : ℕ) → 1 ≤ k → fault M (statement at ws) ≡ k → GroundOf at M ws k
found-ground at M ws k l e = go (fault M (statement at ws)) e (judge at M ws)
  where
    go : (j : ℕ) → j ≡ k → Judged at M ws (statement at ws) j → GroundOf at M ws k
    go j q (refused g) = subst (GroundOf at M ws) q g
    go _ q (right h) = absurd (omega (arith, l, q))

pub found_right : (at : Stage) (M : Model) (ws : List Word) → fault M (statement at ws) ≡ 0 → Right at M ws (statement at ws)
found_right at M ws e = go (fault M (statement at ws)) e (judge at M ws)
  where
    go : (j : ℕ) → j ≡ 0 → Judged at M ws (statement at ws) j → Right at M ws (statement at ws)
    go j q (refused g) = let l : 1 ≤ j = ground-some at M ws j g in absurd (omega (arith, l, q))
    go _ q (right h) = h
