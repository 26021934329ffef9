-- Places: every refusal but 8 stands at 0, at a line of the text, or one past the last.
use Prim.Native.Nat.{ℕ, zero, suc, ◌+◌, ◌≤◌, ◌<◌}
use mathlib.Core.Path.{◌≡◌, refl, sym, subst}
use mathlib.Core.Bool.{Bool, true, false, ◌&&◌, not}
use mathlib.Core.List.{List, [], ◌∷◌, map, Memᴰ}
use native.Mathlib.Omega.{arith}
use lib.ListN.{length}
use Rattle.maps.specs.Lists.{All}
use Rattle.maps.proofs.Member.{All-map, All-at, All-join, keep_out}
use Rattle.blif.specs.Lines.{lines, Part, ends, joins, part, Joined, joined_to, joined_after, joined}
use Rattle.blif.specs.Words.{Word, words, Line, with_words, word_lines, lines_of}
use Rattle.blif.specs.Subset.{Stage, first, head, cover, latched, last, Statement, model, inputs, outputs, names, row, latch, end, outside, statement, stage_after}
use Rattle.blif.specs.Names.{OutputName, output_names, names_of, has}
use Rattle.blif.specs.Limits.{Caller, callable, short}
use Rattle.blif.specs.Model.{Model, empty, extend, fault, Found, found, faulty, ended, judged, model_from, model_of}
use Rattle.blif.specs.Import.{Imported, refused, undefined, with_outputs, of_found, import_sheet}

-- a number from n on, below n + k
record In (n k p : ℕ) : Type 0 where
  least : n ≤ p
  most : p < n + k

in-more : (n k p : ℕ) → In (suc n) k p → In n (suc k) p
in-more n k p h = record { least = omega (arith, h.least); most = omega (arith, h.most) }

in-here : (n k : ℕ) → In n (suc k) n
in-here n k = record { least = omega arith; most = omega arith }

-- joined lines have numbers of lines
joined_numbers : (n : ℕ) (ls : List (List ℕ)) → All (λ (l : Joined). In n (length ls) l.number) (joined n ls)
unfolding joined
joined_numbers n [] = tt
joined_numbers n (l ∷ ls) = go (part l) (joined (suc n) ls) (All-map (λ (j : Joined). in-more n (length ls) j.number) (joined (suc n) ls) (joined_numbers (suc n) ls))
  where
    onto : (bytes : List ℕ) (js : List Joined) → All (λ (j : Joined). In n (suc (length ls)) j.number) js → All (λ (j : Joined). In n (suc (length ls)) j.number) (joined_to n bytes js)
    onto bytes [] h = (in-here n (length ls), tt)
    onto bytes (j ∷ js) h = (in-here n (length ls), h.1)

    go : (p : Part) (js : List Joined) → All (λ (j : Joined). In n (suc (length ls)) j.number) js → All (λ (j : Joined). In n (suc (length ls)) j.number) (joined_after n p js)
    go (ends bytes) js h = (in-here n (length ls), h)
    go (joins bytes) js h = onto bytes js h

word-numbers : (n k : ℕ) (js : List Joined) → All (λ (j : Joined). In n k j.number) js → All (λ (l : Line). In n k l.number) (word_lines js)
unfolding word_lines
word-numbers n k [] h = tt
word-numbers n k (j ∷ js) h = go (words j.bytes) (word_lines js) (word-numbers n k js h.1)
  where
    go : (ws : List Word) (ls : List Line) → All (λ (l : Line). In n k l.number) ls → All (λ (l : Line). In n k l.number) (with_words j.number ws ls)
    go [] ls r = r
    go (w ∷ ws) ls r = (h.0, r)

line-numbers : (text : List ℕ) → All (λ (l : Line). In 1 (length (lines text)) l.number) (lines_of text)
unfolding lines_of
line-numbers text = word-numbers 1 (length (lines text)) (joined 1 (lines text)) (joined_numbers 1 (lines text))

-- the lines of names put out
output-numbers : (n k at : ℕ) (s : Statement) → In n k at → All (λ (o : OutputName). In n k o.line) (output_names at s)
output-numbers n k at (model m) h = tt
output-numbers n k at (inputs ns) h = tt
output-numbers n k at (outputs ns) h = go ns
  where
    go : (ns : List Word) → All (λ (o : OutputName). In n k o.line) (map (λ w. record { line = at; name = w }) ns)
    go [] = tt
    go (w ∷ ws) = (h, go ws)
output-numbers n k at (names us o) h = tt
output-numbers n k at row h = tt
output-numbers n k at (latch i o) h = tt
output-numbers n k at end h = tt
output-numbers n k at outside h = tt

-- how lines end: a fault at one of them or past them, or names put out on them
data Placed (m : ℕ) : Found → Type 0 where
  model_at : {M : Model} → All (λ (o : OutputName). In 1 m o.line) M.outputs → Placed m (found M)
  fault-at : {k p : ℕ} → 1 ≤ p → p ≤ m + 1 → Placed m (faulty k p)

follow-placed : (m : ℕ) (at : Stage) (M : Model) (ls : List Line) → All (λ (l : Line). In 1 m l.number) ls → All (λ (o : OutputName). In 1 m o.line) M.outputs → Placed m (model_from (m + 1) at M ls)
unfolding model_from
follow-placed m at M [] h g = go at
  where
    go : (at : Stage) → Placed m (ended (m + 1) at M)
    go first = fault-at {p = m + 1} (omega arith) (omega arith)
    go head = fault-at {p = m + 1} (omega arith) (omega arith)
    go (cover n) = fault-at {p = m + 1} (omega arith) (omega arith)
    go latched = fault-at {p = m + 1} (omega arith) (omega arith)
    go last = model_at g
follow-placed m at M (l ∷ ls) h g =
    let s = statement at l.words in
    judge (fault M s) (model_from (m + 1) (stage_after at s) (extend M l.number s) ls)
    (follow-placed m (stage_after at s) (extend M l.number s) ls h.1
    (All-join (λ (o : OutputName). In 1 m o.line) M.outputs (output_names l.number s) g (output-numbers 1 m l.number s h.0)))
  where
    judge : (k : ℕ) (rest : Found) → Placed m rest → Placed m (judged k l.number rest)
    judge zero rest r = r
    judge (suc k) rest r = fault-at {p = l.number} h.0.least (omega (arith, h.0.most))

-- where a refusal stands: at 0 for the caller's numbers or a longer text, and only then; else at a line, or one past the last
pub data Place (text : List ℕ) (c : Caller) (k p : ℕ) : Type 0 where
  caller's : (callable c && short text) ≡ false → k ≡ 11 → p ≡ 0 → Place text c k p
  text's : (callable c && short text) ≡ true → 1 ≤ p → p ≤ length (lines text) + 1 → Place text c k p

pub places : (text : List ℕ) (c : Caller) (k p : ℕ) → import_sheet text c ≡ refused k p → Place text c k p
unfolding import_sheet model_of
places text c k p e = start (callable c && short text) refl e
  where
    same : (j q : ℕ) → (callable c && short text) ≡ true → refused j q ≡ refused k p → 1 ≤ q → q ≤ length (lines text) + 1 → Place text c k p
    same j q b r l m = let z : q ≡ p = cc in text's b (omega arith) (omega arith)

    out : (M : Model) (os : List OutputName) → (callable c && short text) ≡ true → undefined M ≡ os → All (λ (o : OutputName). In 1 (length (lines text)) o.line) M.outputs → with_outputs c M os ≡ refused k p → Place text c k p
    out M [] b m h q = let z : ◌≡◌ {A = ℕ} 0 1 = cc in absurd (omega arith)
    out M (o ∷ os) b m h q =
        let i = keep_out (λ (o : OutputName). not (has (names_of M.definitions) o.name)) M.outputs (subst (Memᴰ o) (sym m) (Memᴰ.head refl)) in
        let r = All-at (λ (o : OutputName). In 1 (length (lines text)) o.line) M.outputs h i.0 in
        same 10 o.line b q r.least (omega (arith, r.most))

    go : (f : Found) → (callable c && short text) ≡ true → Placed (length (lines text)) f → of_found c f ≡ refused k p → Place text c k p
    go (found M) b (model_at h) q = out M (undefined M) b refl h q
    go (faulty j r) b (fault-at l m) q = same j r b q l m

    start : (b : Bool) → (callable c && short text) ≡ b → elim b as (λ b. Imported) [ true ↦ of_found c (model_of text) | false ↦ refused 11 0 ] ≡ refused k p → Place text c k p
    start true b q = go (model_of text) b (follow-placed (length (lines text)) first empty (lines_of text) (line-numbers text) tt) q
    start false b q =
        let y : k ≡ 11 = cc in
        let z : p ≡ 0 = cc in
        caller's b y z
