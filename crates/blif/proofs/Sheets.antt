-- The imported sheet is well formed, and is the text's.
use Prim.Native.Nat.{ℕ, zero, suc, ◌+◌, ◌≤◌, ◌<◌}
use mathlib.Core.Path.{◌≡◌, refl, sym, subst, ap, ◌∙◌}
use mathlib.Core.Bool.{Bool, true, false, cond, ◌&&◌, not}
use mathlib.Core.List.{List, [], ◌∷◌, map, Memᴰ}
use native.Mathlib.Omega.{arith}
use native.Mathlib.Nat.{not-suc-le-zero}
use lib.Dec.{leb}
use lib.ListN.{length, get_or, length-map}
use borrow.Author.Tests.{leb-true, le-leb}
use Rattle.maps.specs.Lists.{All, equal}
use Rattle.maps.specs.Sheet.{Sheet, Kind, input, logic, box, Node, no_node, size, is_logic, latency_of, clock_to_q_of}
use Rattle.maps.specs.Limits.{Range, leaves_range, top_range, horizon_range, ranges_of}
use Rattle.maps.specs.Form.{among, passes}
use Rattle.maps.specs.WellFormed.{Within, code_of, WellNode, WellFormed}
use Rattle.maps.proofs.Over.{and-true}
use Rattle.maps.proofs.Parse.{in-range}
use Rattle.maps.proofs.Member.{All-map, All-get, any_found, any_of, keep-in}
use Rattle.blif.specs.Lines.{lines}
use Rattle.blif.specs.Words.{Word, lines_of}
use Rattle.blif.specs.Subset.{first, last}
use Rattle.blif.specs.Names.{Definition, names_of, OutputName, has}
use Rattle.blif.specs.Limits.{Caller, delay, callable, short, text_most}
use Rattle.blif.specs.Model.{Model, empty, Found, found, faulty, model_of}
use Rattle.blif.specs.Grounds.{Callable}
use Rattle.blif.specs.Import.{id_of, is_output, node_of, sheet_of, undefined, Imported, imported, refused, with_outputs, of_found, import_sheet}
use Rattle.blif.specs.Relations.{statements, no_definition, StandsFor, Pairs, IsOutput, DefinedNode, SheetOfText}
use Rattle.blif.proofs.Rounding.{rounded-up, delay-some}
use Rattle.blif.proofs.Naming.{equal-true, equal_of, name-at, has-place, id-first}
use Rattle.blif.proofs.Ordering.{Earlier, Ordered}
use Rattle.blif.proofs.Following.{WellDefinition, Sound, sound_empty, extended, Follows, follow-found}

-- the node at a place is that of the definition at that place
node_at : (f : Definition → Node) (ds : List Definition) (i : ℕ) → i < length ds → get_or (map f ds) i no_node ≡ f (get_or ds i no_definition)
node_at f [] i l = absurd (not-suc-le-zero l)
node_at f (d ∷ ds) zero l = refl
node_at f (d ∷ ds) (suc i) l = node_at f ds i (omega arith)

-- the id of a name that stands before i
stands : (ds : List Definition) (i : ℕ) → i < length ds → (w : Word) → Earlier ds i w → StandsFor ds i w (id_of (names_of ds) w)
stands ds i l w h =
    let n : length (names_of ds) ≡ length ds = length-map ds (λ d. d.name) in
    let r = id-first (names_of ds) w h.id (omega (arith, h.before)) (name-at ds h.id ∙ h.named) in
    record { before = omega (arith, r.0, h.before); named = sym (name-at ds (id_of (names_of ds) w)) ∙ r.1 }

pairs-map : {A B : Type 0} (R : A → B → Type 0) (f : A → B) (xs : List A) → All (λ x. R x (f x)) xs → Pairs R xs (map f xs)
pairs-map R f [] h = tt
pairs-map R f (x ∷ xs) h = (h.0, pairs-map R f xs h.1)

pairs-right : {A B : Type 0} (R : A → B → Type 0) (P : B → Type 0) → ((x : A) (y : B) → R x y → P y) → (xs : List A) (ys : List B) → Pairs R xs ys → All P ys
pairs-right R P f [] [] h = tt
pairs-right R P f [] (y ∷ ys) h = absurd h
pairs-right R P f (x ∷ xs) [] h = absurd h
pairs-right R P f (x ∷ xs) (y ∷ ys) h = (f x y h.0, pairs-right R P f xs ys h.1)

operands-stand : (ds : List Definition) → Ordered ds → (i : ℕ) → i < length ds → Pairs (StandsFor ds i) (get_or ds i no_definition).reads (map (id_of (names_of ds)) (get_or ds i no_definition).reads)
operands-stand ds h i l = pairs-map (StandsFor ds i) (id_of (names_of ds)) (get_or ds i no_definition).reads (All-map (stands ds i l) (get_or ds i no_definition).reads (h.reads i l))

-- "outputs marked"
mark-sound : (os : List OutputName) (w : Word) → is_output os w ≡ true → IsOutput os w
mark-sound os w e = let r = any_found (λ (o : OutputName). equal w o.name) os e in record { output = r.0; standing = r.1; named = equal-true w r.0.name r.2 }

mark-complete : (os : List OutputName) (w : Word) → IsOutput os w → is_output os w ≡ true
mark-complete os w h = any_of (λ (o : OutputName). equal w o.name) h.standing (equal_of w h.output.name h.named)

-- the test of the caller's numbers
passes_of : (r : Range) (x : ℕ) → Within r x → passes (among r) x ≡ true
passes_of r x h = rw (le-leb r.low x h.least, le-leb x r.high h.most) refl

pub callable-true : (c : Caller) → callable c ≡ true → Callable c
callable-true c e =
    let k = passes (among leaves_range) c.leaves in
    let t = passes (among top_range) c.top in
    let h = passes (among horizon_range) c.horizon in
    let five = and-true (k && t && h && leb 1 c.table && leb 1 c.level) (leb (delay c) c.top) e in
    let four = and-true (k && t && h && leb 1 c.table) (leb 1 c.level) five.0 in
    let three = and-true (k && t && h) (leb 1 c.table) four.0 in
    let two = and-true (k && t) h three.0 in
    let one = and-true k t two.0 in
    record {
      leaves = in-range leaves_range c.leaves one.0;
      top = in-range top_range c.top one.1;
      horizon = in-range horizon_range c.horizon two.1;
      table = leb-true 1 c.table three.1;
      level = leb-true 1 c.level four.1;
      delay = leb-true (delay c) c.top five.1;
    }

pub callable_of : (c : Caller) → Callable c → callable c ≡ true
callable_of c h =
    rw (
      passes_of leaves_range c.leaves h.leaves,
      passes_of top_range c.top h.top,
      passes_of horizon_range c.horizon h.horizon,
      le-leb 1 c.table h.table,
      le-leb 1 c.level h.level,
      le-leb (delay c) c.top h.delay,
    ) refl

-- how a sheet is imported: the caller's numbers hold, the text is short enough, its model is found and all its outputs are defined
pub record Import (text : List ℕ) (c : Caller) (S : Sheet) : Type 0 where
  pub callable : Callable c
  pub short : length text ≤ text_most
  pub model : Model
  pub modelled : model_of text ≡ found model
  pub answered : undefined model ≡ []
  pub sheet : sheet_of c model ≡ S

pub imported-from : (text : List ℕ) (c : Caller) (S : Sheet) → import_sheet text c ≡ imported S → Import text c S
unfolding import_sheet
imported-from text c S e = start (callable c && short text) refl e
  where
    never : (A : Type 0) (k p : ℕ) → refused k p ≡ imported S → A
    never A k p q = let z : ◌≡◌ {A = ℕ} 0 1 = cc in absurd (omega arith)

    out : (M : Model) (os : List OutputName) → undefined M ≡ os → model_of text ≡ found M → (callable c && short text) ≡ true → with_outputs c M os ≡ imported S → Import text c S
    out M [] m f b q =
        let a = and-true (callable c) (short text) b in
        record { callable = callable-true c a.0; short = leb-true (length text) text_most a.1; model = M; modelled = f; answered = m; sheet = cc }
    out M (o ∷ os) m f b q = never (Import text c S) 10 o.line q

    go : (f : Found) → model_of text ≡ f → (callable c && short text) ≡ true → of_found c f ≡ imported S → Import text c S
    go (found M) f b q = out M (undefined M) refl f b q
    go (faulty k p) f b q = never (Import text c S) k p q

    start : (b : Bool) → (callable c && short text) ≡ b → elim b as (λ b. Imported) [ true ↦ of_found c (model_of text) | false ↦ refused 11 0 ] ≡ imported S → Import text c S
    start true b q = go (model_of text) refl b q
    start false b q = never (Import text c S) 11 0 q

-- the model of a text has what the text says
pub model-follows : (text : List ℕ) (M : Model) → model_of text ≡ found M → Follows first empty (lines_of text) M
unfolding model_of
model-follows text M e = follow-found (length (lines text) + 1) first empty (lines_of text) M sound_empty e

well-delay : (k : Kind) (top d : ℕ) → 1 ≤ d → d ≤ top → Within (ranges_of top (code_of k)).delay (cond (is_logic k) d 0)
well-delay input top d l m = record { least = omega arith; most = omega arith }
well-delay logic top d l m = record { least = l; most = m }
well-delay (box lat q) top d l m = record { least = omega arith; most = omega arith }

well-clock : (k : Kind) (top : ℕ) → clock_to_q_of k ≡ 0 → Within ((ranges_of top (code_of k)).clock_to_q (latency_of k)) (clock_to_q_of k)
well-clock input top e = record { least = omega arith; most = omega arith }
well-clock logic top e = record { least = omega arith; most = omega arith }
well-clock (box zero q) top e = record { least = omega arith; most = omega arith }
well-clock (box (suc lat) q) top e = record { least = omega arith; most = omega arith }

-- the nodes of a sound model
well-node : (c : Caller) → Callable c → (M : Model) → Sound last M → (v : ℕ) → v < length M.definitions → WellNode c.top v (node_of (delay c) M (get_or M.definitions v no_definition))
well-node c h M s v l =
    let x = get_or M.definitions v no_definition in
    let w : WellDefinition x = All-get WellDefinition no_definition M.definitions s.well v l in
    record {
      delay = well-delay x.kind c.top (delay c) (delay-some c.table c.level h.table h.level) h.delay;
      latency = w.latency c.top;
      clock_to_q = well-clock x.kind c.top w.clock_to_q;
      count = rw (length-map x.reads (id_of (names_of M.definitions))) (w.count c.top);
      operands = pairs-right (StandsFor M.definitions v) (λ u. u < v) (λ n u r. r.before) x.reads (map (id_of (names_of M.definitions)) x.reads) (operands-stand M.definitions s.ordered v l);
    }

nodes-count : (c : Caller) (M : Model) → length (sheet_of c M).nodes ≡ length M.definitions
nodes-count c M = length-map M.definitions (node_of (delay c) M)

full-last : (M : Model) → Sound last M → 1 ≤ length M.definitions
full-last M s = s.full

-- the sheet of a model is well formed
well-sheet : (c : Caller) → Callable c → (M : Model) → Sound last M → WellFormed (sheet_of c M)
well-sheet c h M s = record {
  leaves = h.leaves;
  top = h.top;
  horizon = h.horizon;
  size = rw (nodes-count c M) (record { least = full-last M s; most = s.few });
  count = record { least = omega arith; most = omega arith };
  nodes = λ v l.
      let m : v < length M.definitions = rw (nodes-count c M) at l in
      rw (node_at (node_of (delay c) M) M.definitions v m) (well-node c h M s v m);
  differences = tt;
  period = record { least = omega arith; most = omega arith };
  window_count = record { least = omega arith; most = omega arith };
  windows = tt;
  rising = tt;
}

pub imported-well : (text : List ℕ) (c : Caller) (S : Sheet) → import_sheet text c ≡ imported S → WellFormed S
imported-well text c S e =
    let i = imported-from text c S e in
    subst WellFormed i.sheet (well-sheet c i.callable i.model (model-follows text i.model i.modelled).sound)

-- a name put out that is not missing is defined
output-defined : (M : Model) → undefined M ≡ [] → (o : OutputName) → Memᴰ o M.outputs → has (names_of M.definitions) o.name ≡ true
output-defined M e o m = go (has (names_of M.definitions) o.name) refl
  where
    go : (b : Bool) → has (names_of M.definitions) o.name ≡ b → b ≡ true
    go true q = refl
    go false q =
        let k : Memᴰ o (undefined M) = keep-in (λ (o : OutputName). not (has (names_of M.definitions) o.name)) m (ap not q) in
        absurd (none (subst (Memᴰ o) e k))
      where
        none : Memᴰ o [] → ⊥
        none n = mathlib.Core.List.Memᴰ.not-nil n

-- node i of the sheet of a sound model
defined-node : (d : ℕ) (M : Model) → Sound last M → (i : ℕ) → i < length M.definitions → DefinedNode M.definitions M.outputs d i (node_of d M (get_or M.definitions i no_definition))
defined-node d M s i l = record {
  kind = refl;
  delay = refl;
  clock_to_q = (All-get WellDefinition no_definition M.definitions s.well i l).clock_to_q;
  operands = operands-stand M.definitions s.ordered i l;
  marked = mark-sound M.outputs (get_or M.definitions i no_definition).name;
  unmarked = mark-complete M.outputs (get_or M.definitions i no_definition).name;
}

-- the model of what a text says
abbrev said_model : (text : List ℕ) → Model
said_model text = extended empty (statements first (lines_of text))

sheet-of-text : (text : List ℕ) (c : Caller) → Callable c → Sound last (said_model text) → undefined (said_model text) ≡ [] → SheetOfText text c (sheet_of c (said_model text))
sheet-of-text text c h s m =
    let M = said_model text in
    record {
      leaves = refl;
      top = refl;
      horizon = refl;
      rounded = rounded-up c.table c.level h.level;
      size = nodes-count c M;
      nodes = λ i l.
          let k : i < length M.definitions = rw (nodes-count c M) at l in
          rw (node_at (node_of (delay c) M) M.definitions i k) (defined-node (delay c) M s i k);
      differences = refl;
      period = refl;
      windows = refl;
      answered = λ o k.
          let p = has-place (names_of M.definitions) o.name (output-defined M m o k) in
          let n : length (names_of M.definitions) ≡ length M.definitions = length-map M.definitions (λ d. d.name) in
          (p.0, omega (arith, p.1, n, nodes-count c M), sym (name-at M.definitions p.0) ∙ p.2);
      once = λ i j li lj q.
          let n : length (names_of M.definitions) ≡ length M.definitions = length-map M.definitions (λ d. d.name) in
          s.once.once i j (omega (arith, li, n, nodes-count c M)) (omega (arith, lj, n, nodes-count c M)) (name-at M.definitions i ∙ q ∙ sym (name-at M.definitions j));
    }

-- "a sheet whose nodes are the model's, outputs marked, without differences"
pub imported-is : (text : List ℕ) (c : Caller) (S : Sheet) → import_sheet text c ≡ imported S → SheetOfText text c S
imported-is text c S e =
    let i = imported-from text c S e in
    let f = model-follows text i.model i.modelled in
    let s : Sound last (said_model text) = subst (Sound last) f.whole f.sound in
    let m : undefined (said_model text) ≡ [] = subst (λ M. undefined M ≡ []) f.whole i.answered in
    let q : sheet_of c (said_model text) ≡ S = subst (λ M. sheet_of c M ≡ S) f.whole i.sheet in
    subst (SheetOfText text c) q (sheet-of-text text c i.callable s m)
