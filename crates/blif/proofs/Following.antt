-- The model that is found in the lines of a text: its definitions are the lines' in their order, well formed, ordered, each name once.
use Prim.Native.Nat.{ℕ, zero, suc, ◌+◌, ◌≤◌}
use mathlib.Core.Path.{◌≡◌, refl, sym, subst, ◌∙◌}
use mathlib.Core.Bool.{Bool, true, false, cond, ◌&&◌, not}
use mathlib.Core.List.{List, [], ◌∷◌, ◌++◌, map, append-nil, append_assoc, map-append}
use native.Mathlib.Omega.{arith}
use lib.Dec.{leb}
use lib.ListN.{length, length-append}
use borrow.Author.Tests.{leb-true}
use Rattle.maps.specs.Lists.{All, all}
use Rattle.maps.specs.Sheet.{input, box, latency_of, clock_to_q_of}
use Rattle.maps.specs.Limits.{ranges_of}
use Rattle.maps.specs.WellFormed.{Within, code_of}
use Rattle.maps.proofs.Over.{and-true}
use Rattle.maps.proofs.Member.{All-join}
use Rattle.blif.specs.Words.{Word, Line}
use Rattle.blif.specs.Subset.{Stage, first, head, cover, latched, last, Statement, model, inputs, outputs, names, row, latch, end, outside, statement, stage_after}
use Rattle.blif.specs.Names.{Definition, definition, kind_of, defined, names_of, reads_of, has, fresh, resolves, output_names}
use Rattle.blif.specs.Limits.{named, few_operands, some_nodes, within_limits}
use Rattle.blif.specs.Model.{Model, empty, extend, is_outside, fault, Found, found, ended, judged, model_from}
use Rattle.blif.specs.Relations.{Numbered, statements, definitions_in, output_names_in}
use Rattle.blif.proofs.Ordering.{Ordered, ordered-none, ordered-more, Once, once-none, once_more}

-- what a definition can be, whatever T is
pub record WellDefinition (x : Definition) : Type 0 where
  pub latency : (top : ℕ) → Within (ranges_of top (code_of x.kind)).latency (latency_of x.kind)
  pub clock_to_q : clock_to_q_of x.kind ≡ 0
  pub count : (top : ℕ) → Within (ranges_of top (code_of x.kind)).operands (length x.reads)

well-input : (n : Word) → WellDefinition (definition n input [])
well-input n = record { latency = λ top. record { least = omega arith; most = omega arith }; clock_to_q = refl; count = λ top. record { least = omega arith; most = omega arith } }

well-table : (o : Word) (us : List Word) → length us ≤ 6 → WellDefinition (definition o (kind_of us) us)
well-table o [] l = well-input o
well-table o (u ∷ us) l = record { latency = λ top. record { least = omega arith; most = omega arith }; clock_to_q = refl; count = λ top. record { least = omega arith; most = l } }

well-latch : (i o : Word) → WellDefinition (definition o (box 1 0) (i ∷ []))
well-latch i o = record { latency = λ top. record { least = omega arith; most = omega arith }; clock_to_q = refl; count = λ top. record { least = omega arith; most = omega arith } }

well-inputs : (ns : List Word) → All WellDefinition (map (λ n. definition n input []) ns)
well-inputs [] = tt
well-inputs (n ∷ ns) = (well-input n, well-inputs ns)

well-defined : (s : Statement) → few_operands s ≡ true → All WellDefinition (defined s)
well-defined (model n) e = tt
well-defined (inputs ns) e = well-inputs ns
well-defined (outputs ns) e = tt
well-defined (names us o) e = (well-table o us (leb-true (length us) 6 e), tt)
well-defined row e = tt
well-defined (latch i o) e = (well-latch i o, tt)
well-defined end e = tt
well-defined outside e = tt

-- after `.end` there is a node
abbrev pub Full : Stage → Model → Type 0
Full first M = Unit {0}
Full head M = Unit {0}
Full (cover n) M = Unit {0}
Full latched M = Unit {0}
Full last M = 1 ≤ length M.definitions

pub record Sound (at : Stage) (M : Model) : Type 0 where
  pub few : length M.definitions ≤ 256
  pub full : Full at M
  pub well : All WellDefinition M.definitions
  pub ordered : Ordered M.definitions
  pub once : Once (names_of M.definitions)

pub sound_empty : Sound first empty
sound_empty = record { few = omega arith; full = tt; well = tt; ordered = ordered-none; once = once-none }

-- a line without a fault
record Faultless (M : Model) (s : Statement) : Type 0 where
  reads : all (has (names_of M.definitions)) (reads_of (defined s)) ≡ true
  fresh : fresh (names_of M.definitions) (names_of (defined s)) ≡ true
  operands : few_operands s ≡ true
  count : length M.definitions + length (defined s) ≤ 256
  some : some_nodes (length M.definitions) s ≡ true

last-three : (a b c d : Bool) → (a && b && c && d) ≡ true → (b ≡ true) × (c ≡ true) × (d ≡ true)
last-three true true true true e = (refl, refl, refl)
last-three true true true false e = (refl, refl, e)
last-three true true false d e = let z : ◌≡◌ {A = ℕ} 0 1 = cc in absurd (omega arith)
last-three true false c d e = let z : ◌≡◌ {A = ℕ} 0 1 = cc in absurd (omega arith)
last-three false b c d e = let z : ◌≡◌ {A = ℕ} 0 1 = cc in absurd (omega arith)

faultless : (M : Model) (s : Statement) → fault M s ≡ 0 → Faultless M s
faultless M s e = go (is_outside s) (resolves (names_of M.definitions) (defined s)) refl (within_limits (length M.definitions) s) refl e
  where
    go : (o a : Bool) → resolves (names_of M.definitions) (defined s) ≡ a → (f : Bool) → within_limits (length M.definitions) s ≡ f → ◌≡◌ {A = ℕ} (cond o 9 (cond (not a) 10 (cond f 0 11))) 0 → Faultless M s
    go true a ea f ef q = absurd (omega (arith, q))
    go false false ea f ef q = absurd (omega (arith, q))
    go false true ea false ef q = absurd (omega (arith, q))
    go false true ea true ef q =
        let a = and-true (all (has (names_of M.definitions)) (reads_of (defined s))) (fresh (names_of M.definitions) (names_of (defined s))) ea in
        let f = last-three (all (λ w. leb (length w) 31) (named s)) (few_operands s) (leb (length M.definitions + length (defined s)) 256) (some_nodes (length M.definitions) s) ef in
        record {
          reads = a.0;
          fresh = a.1;
          operands = f.0;
          count = leb-true (length M.definitions + length (defined s)) 256 f.1;
          some = f.2;
        }

-- what a line adds keeps the model sound
full-next : (at : Stage) (M : Model) (n : ℕ) (s : Statement) → Full at M → some_nodes (length M.definitions) s ≡ true → Full (stage_after at s) (extend M n s)
full-next at M n (model m) h e = tt
full-next at M n (inputs ns) h e = tt
full-next at M n (outputs ns) h e = tt
full-next at M n (names us o) h e = tt
full-next first M n row h e = tt
full-next head M n row h e = tt
full-next (cover k) M n row h e = tt
full-next latched M n row h e = tt
full-next last M n row h e = rw (append-nil M.definitions) h
full-next at M n (latch i o) h e = tt
full-next at M n end h e = rw (append-nil M.definitions) (leb-true 1 (length M.definitions) e)
full-next first M n outside h e = tt
full-next head M n outside h e = tt
full-next (cover k) M n outside h e = tt
full-next latched M n outside h e = tt
full-next last M n outside h e = rw (append-nil M.definitions) h

sound-next : (at : Stage) (M : Model) (n : ℕ) (s : Statement) → Sound at M → fault M s ≡ 0 → Sound (stage_after at s) (extend M n s)
sound-next at M n s h e =
    let f = faultless M s e in
    record {
      few = rw (length-append M.definitions (defined s)) f.count;
      full = full-next at M n s h.full f.some;
      well = All-join WellDefinition M.definitions (defined s) h.well (well-defined s f.operands);
      ordered = ordered-more M.definitions (defined s) h.ordered f.reads;
      once = rw (map-append (λ (d : Definition). d.name) M.definitions (defined s)) (once_more (names_of M.definitions) (names_of (defined s)) h.once f.fresh);
    }

-- how a model is found
judged-found : (k p : ℕ) (rest : Found) (N : Model) → judged k p rest ≡ found N → (k ≡ 0) × (rest ≡ found N)
judged-found zero p rest N e = (refl, e)
judged-found (suc k) p rest N e = let z : ◌≡◌ {A = ℕ} 0 1 = cc in absurd (omega arith)

ended-found : (past : ℕ) (at : Stage) (M N : Model) → Sound at M → ended past at M ≡ found N → Sound last M × (M ≡ N)
ended-found past first M N h e = let z : ◌≡◌ {A = ℕ} 0 1 = cc in absurd (omega arith)
ended-found past head M N h e = let z : ◌≡◌ {A = ℕ} 0 1 = cc in absurd (omega arith)
ended-found past (cover n) M N h e = let z : ◌≡◌ {A = ℕ} 0 1 = cc in absurd (omega arith)
ended-found past latched M N h e = let z : ◌≡◌ {A = ℕ} 0 1 = cc in absurd (omega arith)
ended-found past last M N h e = (h, cc)

-- the model of what is said, after a model
abbrev pub extended : Model → List Numbered → Model
extended M ss = record { definitions = M.definitions ++ definitions_in ss; outputs = M.outputs ++ output_names_in ss }

-- a model that is found in lines is sound, and has what they say in their order
pub record Follows (at : Stage) (M : Model) (ls : List Line) (N : Model) : Type 0 where
  pub sound : Sound last N
  pub whole : N ≡ extended M (statements at ls)

pub follow-found : (past : ℕ) (at : Stage) (M : Model) (ls : List Line) (N : Model) → Sound at M → model_from past at M ls ≡ found N → Follows at M ls N
unfolding model_from statements
follow-found past at M [] N h e =
    let r = ended-found past at M N h e in
    let none : extended M [] ≡ M = λ i. record { definitions = append-nil M.definitions i; outputs = append-nil M.outputs i } in
    record { sound = subst (Sound last) r.1 r.0; whole = sym (none ∙ r.1) }
follow-found past at M (l ∷ ls) N h e =
    let s = statement at l.words in
    let j = judged-found (fault M s) l.number (model_from past (stage_after at s) (extend M l.number s) ls) N e in
    let r = follow-found past (stage_after at s) (extend M l.number s) ls N (sound-next at M l.number s h j.0) j.1 in
    let more : extended (extend M l.number s) (statements (stage_after at s) ls) ≡ extended M (statements at (l ∷ ls)) =
    λ i. record {
      definitions = append_assoc M.definitions (defined s) (definitions_in (statements (stage_after at s) ls)) i;
      outputs = append_assoc M.outputs (output_names l.number s) (output_names_in (statements (stage_after at s) ls)) i;
    } in
    record { sound = r.sound; whole = r.whole ∙ more }
