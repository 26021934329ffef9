-- What a line without fault defines: names that are new, which read names that are defined.
use Prim.Native.Nat.{ℕ, zero, suc, ◌+◌, ◌≤◌, ◌<◌}
use mathlib.Core.Path.{◌≡◌, refl, sym, ap, ◌∙◌}
use mathlib.Core.Bool.{Bool, true, false, ◌&&◌, not}
use mathlib.Core.List.{List, [], ◌∷◌, append-nil}
use native.Mathlib.Omega.{arith}
use native.Mathlib.Nat.{not-suc-le-zero}
use lib.Dec.{leb}
use lib.ListN.{length, get_or, take, length-map}
use lib.Seq.{take-length}
use borrow.Author.Tests.{leb-true, not-true}
use Rattle.maps.specs.Lists.{all}
use Rattle.maps.specs.Sheet.{input, box}
use Rattle.maps.specs.Limits.{size_range, operands_most}
use Rattle.maps.proofs.Over.{and-true}
use Rattle.blif.specs.Words.{Word}
use Rattle.blif.specs.Subset.{Statement, model, inputs, outputs, names, row, latch, end, outside, init_of, last_of, names_line}
use Rattle.blif.specs.Names.{Definition, definition, kind_of, defined, names_of, reads_of, has, fresh}
use Rattle.blif.specs.Limits.{name_most, named, few_operands, some_nodes}
use Rattle.blif.proofs.Ordering.{all_append}
use Rattle.subset.proofs.PartsLaws.{init-take, init-length, inputs-names}
use Rattle.definitions.specs.Kept.{Lawful}

-- names of at most 31 bytes
abbrev short : List Word → Bool
short ws = all (λ (w : Word). leb (length w) name_most) ws

pub short-at : (ws : List Word) (i : ℕ) → all (λ (w : Word). leb (length w) name_most) ws ≡ true → i < length ws → length (get_or ws i []) ≤ name_most
short-at [] i h l = absurd (not-suc-le-zero l)
short-at (w ∷ ws) zero h l = leb-true (length w) name_most (and-true (leb (length w) name_most) (short ws) h).0
short-at (w ∷ ws) (suc i) h l = short-at ws i (and-true (leb (length w) name_most) (short ws) h).1 (omega arith)

-- the names that a line defines are names on it
defined-short : (s : Statement) → short (named s) ≡ true → short (names_of (defined s)) ≡ true
defined-short (model n) h = refl
defined-short (inputs ns) h = ap short (inputs-names ns) ∙ h
defined-short (outputs ns) h = refl
defined-short (names us o) h = (and-true (short us) (short (o ∷ [])) (sym (all_append (λ (w : Word). leb (length w) name_most) us (o ∷ [])) ∙ h)).1
defined-short row h = refl
defined-short (latch i o) h = (and-true (leb (length i) name_most) (short (o ∷ [])) h).1
defined-short end h = refl
defined-short outside h = refl

-- the parts of what is lawful
pub record LawfulParts (ds : List Definition) (s : Statement) : Type 0 where
  pub reads : all (has (names_of ds)) (reads_of (defined s)) ≡ true
  pub new : fresh (names_of ds) (names_of (defined s)) ≡ true
  pub short : all (λ (w : Word). leb (length w) name_most) (names_of (defined s)) ≡ true
  pub few : few_operands s ≡ true
  pub room : length ds + length (defined s) ≤ size_range.high

pub lawful-parts : (ds : List Definition) (s : Statement) → Lawful ds s → LawfulParts ds s
lawful-parts ds s h =
    let r = and-true (all (has (names_of ds)) (reads_of (defined s))) (fresh (names_of ds) (names_of (defined s))) h.resolved in
    let three = and-true (short (named s) && few_operands s && leb (length ds + length (defined s)) size_range.high) (some_nodes (length ds) s) h.limited in
    let two = and-true (short (named s) && few_operands s) (leb (length ds + length (defined s)) size_range.high) three.0 in
    let one = and-true (short (named s)) (few_operands s) two.0 in
    record {
      reads = r.0;
      new = r.1;
      short = defined-short s one.0;
      few = one.1;
      room = leb-true (length ds + length (defined s)) size_range.high two.1;
    }

-- a line that defines one node
pub record LawfulNode (ds : List Definition) (x : Definition) : Type 0 where
  pub reads : all (has (names_of ds)) x.reads ≡ true
  pub new : has (names_of ds) x.name ≡ false
  pub short : length x.name ≤ name_most
  pub room : length ds < size_range.high

pub lawful-one : (ds : List Definition) (s : Statement) (x : Definition) → defined s ≡ x ∷ [] → Lawful ds s → LawfulNode ds x
lawful-one ds s x e h =
    let p = lawful-parts ds s h in
    record {
      reads = ap (all (has (names_of ds))) (sym (append-nil x.reads) ∙ ap reads_of (sym e)) ∙ p.reads;
      new = not-true (has (names_of ds) x.name) (and-true (not (has (names_of ds) x.name)) true (ap (λ (xs : List Definition). fresh (names_of ds) (names_of xs)) (sym e) ∙ p.new)).0;
      short = short-at (x.name ∷ []) 0 (ap (λ (xs : List Definition). short (names_of xs)) (sym e) ∙ p.short) (omega arith);
      room = omega (arith, p.room, ap length e);
    }

-- the one node of a `.names`, and of a `.latch`
last-at : (w : Word) (ws : List Word) → last_of w ws ≡ get_or (w ∷ ws) (length ws) []
last-at w [] = refl
last-at w (x ∷ ws) = last-at x ws

pub names-defined : (ws : List Word) (n : ℕ) → length ws ≡ suc n → defined (names_line ws) ≡ definition (get_or ws n []) (kind_of (take n ws)) (take n ws) ∷ []
names-defined [] n l = absurd (omega arith)
names-defined (w ∷ ws) n l =
    let e : length ws ≡ n = omega (arith, l) in
    rw (sym e, sym (init-take w ws), sym (last-at w ws)) refl

pub latch-defined : (ws : List Word) → 2 ≤ length ws → defined (latch (get_or ws 0 []) (get_or ws 1 [])) ≡ definition (get_or ws 1 []) (box 1 0) (take 1 ws) ∷ []
latch-defined [] l = absurd (omega arith)
latch-defined (w ∷ ws) l = refl

-- how many it reads
pub names-few : (ws : List Word) (n : ℕ) → length ws ≡ suc n → few_operands (names_line ws) ≡ true → n ≤ operands_most
names-few [] n l f = absurd (omega arith)
names-few (w ∷ ws) n l f = omega (arith, l, leb-true (length (init_of w ws)) operands_most f, init-length w ws)

-- a line of inputs
pub all_words : (ws : List Word) (n : ℕ) → n ≡ length ws → take n ws ≡ ws
all_words ws n e = rw e (take-length ws)

pub inputs-new : (ds : List Definition) (ws : List Word) (n : ℕ) → n ≡ length ws → Lawful ds (inputs ws) → fresh (names_of ds) (take n ws) ≡ true
inputs-new ds ws n e h = ap (fresh (names_of ds)) (all_words ws n e ∙ sym (inputs-names ws)) ∙ (lawful-parts ds (inputs ws) h).new

pub inputs_short : (ds : List Definition) (ws : List Word) (n : ℕ) → n ≡ length ws → Lawful ds (inputs ws) → all (λ (w : Word). leb (length w) name_most) (take n ws) ≡ true
inputs_short ds ws n e h = ap short (all_words ws n e ∙ sym (inputs-names ws)) ∙ (lawful-parts ds (inputs ws) h).short

pub inputs-room : (ds : List Definition) (ws : List Word) → Lawful ds (inputs ws) → length ds + length ws ≤ size_range.high
inputs-room ds ws h = omega (arith, (lawful-parts ds (inputs ws) h).room, length-map ws (λ (w : Word). definition w input []))
