-- The rows of a model's nodes, as the sheet writer takes them: kind, output mark, d, lat, where the operands end, and q.
use Rattle.std.specs.Prelude.{ℕ, ◌+◌, Bool, cond, List, [], ◌∷◌, ◌++◌, map, length}
use Rattle.maps.specs.Sheet.{Kind, latency_of, clock_to_q_of, is_logic}
use Rattle.maps.specs.WellFormed.{code_of}
use Rattle.records.specs.declared.NodeRow.{NodeRow}
use Rattle.blif.specs.Words.{Word}
use Rattle.blif.specs.Names.{Definition, reads_of}
use Rattle.blif.specs.Import.{id_of}

-- the row of a node of this kind that is not marked, where a table takes d levels
abbrev pub row_meant : (d : ℕ) → Kind → (end : ℕ) → NodeRow
row_meant d k end =
    record { kind = code_of k; output = 0; delay = cond (is_logic k) d 0; latency = latency_of k; end = end; clock = clock_to_q_of k }

-- the row of a definition, marked by its name
abbrev pub row_of : (d : ℕ) → (marked : Word → Bool) → (end : ℕ) → Definition → List ℕ
row_of d m end x = code_of x.kind ∷ cond (m x.name) 1 0 ∷ cond (is_logic x.kind) d 0 ∷ latency_of x.kind ∷ end ∷ clock_to_q_of x.kind ∷ []

-- the rows of definitions, where the operands of those before end at e
abbrev pub rows_from : (d : ℕ) → (marked : Word → Bool) → (e : ℕ) → List Definition → List ℕ
rows_from d m e [] = []
rows_from d m e (x ∷ xs) = row_of d m (e + length x.reads) x ++ rows_from d m (e + length x.reads) xs

-- the ids of all names that definitions read, one after the other
abbrev pub ids_of : (names : List Word) → List Definition → List ℕ
ids_of ns xs = map (id_of ns) (reads_of xs)
