-- Document 02, U3: what the imported sheet is, said apart from how it is found.
use Rattle.std.specs.Prelude.{ℕ, ◌*◌, ◌≤◌, ◌<◌, ◌≡◌, true, cond, length, get_or}
use mathlib.Core.List.{List, [], ◌∷◌, map, Memᴰ}
use Rattle.maps.specs.Lists.{concat}
use Rattle.maps.specs.Sheet.{Sheet, input, Node, node, is_logic, clock_to_q_of}
use Rattle.blif.specs.Words.{Word, Line, lines_of}
use Rattle.blif.specs.Subset.{Stage, first, Statement, statement, stage_after}
use Rattle.blif.specs.Names.{Definition, definition, defined, OutputName, output_names}
use Rattle.blif.specs.Limits.{Caller, delay}

-- what the lines of a text say, one after the other, each with its number
pub record Numbered : Type 0 where
  pub number : ℕ
  pub statement : Statement

unfoldable pub statements : Stage → List Line → List Numbered
statements at [] = []
statements at (l ∷ ls) = record { number = l.number; statement = statement at l.words } ∷ statements (stage_after at (statement at l.words)) ls

abbrev pub definitions_in : List Numbered → List Definition
definitions_in ss = concat (map (λ (s : Numbered). defined s.statement) ss)

abbrev pub output_names_in : List Numbered → List OutputName
output_names_in ss = concat (map (λ (s : Numbered). output_names s.number s.statement) ss)

-- the definitions of a text in their order, and the names that its `.outputs` lines ask for
abbrev pub definitions_of : (text : List ℕ) → List Definition
definitions_of text = definitions_in (statements first (lines_of text))

abbrev pub output_names_of : (text : List ℕ) → List OutputName
output_names_of text = output_names_in (statements first (lines_of text))

-- "d is the quotient rounded up": the least whole number of levels that a table fits in
pub record RoundedUp (table level d : ℕ) : Type 0 where
  pub enough : table ≤ d * level
  pub least : (e : ℕ) → table ≤ e * level → d ≤ e

-- what stands at an id that no definition has
abbrev pub no_definition : Definition
no_definition = definition [] input []

-- an operand u of node i that stands for the name w: w is defined as node u, before i
pub record StandsFor (ds : List Definition) (i : ℕ) (w : Word) (u : ℕ) : Type 0 where
  pub before : u < i
  pub named : (get_or ds u no_definition).name ≡ w

-- the relation holds between the elements of two lists, one by one
abbrev pub Pairs : {A B : Type 0} → (A → B → Type 0) → List A → List B → Type 0
Pairs R [] [] = Unit {0}
Pairs R [] (y ∷ ys) = ⊥
Pairs R (x ∷ xs) [] = ⊥
Pairs R (x ∷ xs) (y ∷ ys) = R x y × Pairs R xs ys

-- some `.outputs` line names w
pub record IsOutput (os : List OutputName) (w : Word) : Type 0 where
  pub output : OutputName
  pub standing : Memᴰ output os
  pub named : w ≡ output.name

-- node i is the i-th definition of the text: of its kind, reading exactly what it reads, put out exactly if an `.outputs` line names it; document 02,
-- U5, of q: "The importer writes 0."
pub record DefinedNode (ds : List Definition) (os : List OutputName) (d i : ℕ) (v : Node) : Type 0 where
  pub kind : v.kind ≡ (get_or ds i no_definition).kind
  pub delay : v.delay ≡ cond (is_logic v.kind) d 0
  pub clock_to_q : clock_to_q_of v.kind ≡ 0
  pub operands : Pairs (StandsFor ds i) (get_or ds i no_definition).reads v.operands
  pub marked : v.output ≡ true → IsOutput os (get_or ds i no_definition).name
  pub unmarked : IsOutput os (get_or ds i no_definition).name → v.output ≡ true

-- "a sheet whose nodes are the model's, outputs marked, without differences"
pub record SheetOfText (text : List ℕ) (c : Caller) (S : Sheet) : Type 0 where
  pub leaves : S.leaves ≡ c.leaves
  pub top : S.top ≡ c.top
  pub horizon : S.horizon ≡ c.horizon
  pub rounded : RoundedUp c.table c.level (delay c)
  pub size : length S.nodes ≡ length (definitions_of text)
  pub nodes : (i : ℕ) → i < length S.nodes → DefinedNode (definitions_of text) (output_names_of text) (delay c) i (node S i)
  pub differences : S.differences ≡ []
  pub period : S.period ≡ 1
  pub windows : S.windows ≡ []
  -- every name put out is defined
  pub answered : (o : OutputName) → Memᴰ o (output_names_of text) → (i : ℕ) × (i < length S.nodes) × ((get_or (definitions_of text) i no_definition).name ≡ o.name)
  -- a name is defined once
  pub once : (i j : ℕ) → i < length S.nodes → j < length S.nodes → (get_or (definitions_of text) i no_definition).name ≡ (get_or (definitions_of text) j no_definition).name → i ≡ j
