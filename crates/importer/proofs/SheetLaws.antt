-- The rows of a model stand for the records of its sheet, and each outcome of an import follows from the model that is found.
use Prim.Native.Nat.{ℕ, zero, suc, ◌+◌, ◌-◌, ◌≤◌, ◌<◌}
use mathlib.Core.Path.{◌≡◌, refl, sym, ap, ◌∙◌}
use mathlib.Core.Bool.{Bool, true, false, cond, ◌&&◌}
use mathlib.Core.List.{List, [], ◌∷◌, ◌++◌, map, append-nil, map-append, map-map}
use native.Mathlib.Omega.{arith}
use native.Mathlib.Nat.{not-suc-le-zero}
use lib.ListN.{length, get_or, take, drop, length-append, length-map, get_or-map}
use lib.Seq.{take-suc, split_at, take_at, drop_at, ext_get_or}
use Rattle.maps.specs.Lists.{below}
use Rattle.maps.specs.Sheet.{is_logic, latency_of, clock_to_q_of}
use Rattle.maps.specs.WellFormed.{code_of}
use Rattle.maps.specs.Records.{NodeRecord, node_record, records_of}
use Rattle.maps.specs.Write.{spelling, writing}
use Rattle.maps.specs.Outcome.{refusal}
use Rattle.maps.proofs.Over.{length_over, get_d_over}
use Rattle.maps.proofs.RecordLaws.{well-passes}
use Rattle.maps.proofs.Written.{passes-writing}
use Rattle.records.specs.Rows.{node_row, end_of, operands_in, node_in, rows_in, node_place, records_in}
use Rattle.records.specs.declared.NodeRow.{NodeRow}
use Rattle.blif.specs.Words.{Word}
use Rattle.blif.specs.Names.{Definition, names_of, reads_of, OutputName}
use Rattle.blif.specs.Limits.{Caller, delay, callable, short}
use Rattle.blif.specs.Model.{Model, Found, found, faulty, model_of}
use Rattle.blif.specs.Import.{id_of, is_output, node_of, sheet_of, undefined, Imported, imported, refused, with_outputs, of_found, import_sheet, handed, importing}
use Rattle.blif.specs.Relations.{no_definition}
use Rattle.blif.proofs.Sheets.{imported-well}
use Rattle.definitions.specs.Rows.{rows_from, ids_of}
use Rattle.definitions.proofs.RowLaws.{reads-append, rows-length}

-- a list made over the places of another
map-over : {A B : Type 0} (f : ℕ → B) (g : A → B) (d : A) (xs : List A) → ((i : ℕ) → i < length xs → f i ≡ g (get_or xs i d)) → map f (below (length xs)) ≡ map g xs
map-over f g d xs h =
    ext_get_or (g d) (map f (below (length xs))) (map g xs) (length_over f (g d) (length xs) ∙ sym (length-map xs g)) (λ i l.
    let k : i < length xs = omega (arith, l, length_over f (g d) (length xs)) in
    get_d_over f (g d) (length xs) i k ∙ h i k ∙ sym (get_or-map g xs i d))

-- the reads of the definitions before a place
abbrev reads_before : List Definition → ℕ → List Word
reads_before ds i = reads_of (take i ds)

reads-count : (ds : List Definition) (i : ℕ) → i < length ds → length (reads_before ds (suc i)) ≡ length (reads_before ds i) + length (get_or ds i no_definition).reads
reads-count ds i l =
    let own = (get_or ds i no_definition).reads in
    let next : reads_before ds (suc i) ≡ reads_before ds i ++ own =
    ap reads_of (take-suc ds i no_definition l)
    ∙ reads-append (take i ds) (get_or ds i no_definition ∷ [])
    ∙ ap (λ ws. reads_before ds i ++ ws) (append-nil own) in
    ap (length {A = Word}) next ∙ length-append (reads_before ds i) own

-- all reads, split at those of the definition at a place
reads_at : (ds : List Definition) (i : ℕ) → i < length ds → reads_of ds ≡ reads_before ds i ++ ((get_or ds i no_definition).reads ++ reads_of (drop (suc i) ds))
reads_at ds i l = ap reads_of (split_at ds i no_definition l) ∙ reads-append (take i ds) (get_or ds i no_definition ∷ drop (suc i) ds)

module _ (d : ℕ) (m : Word → Bool) where
  -- the row of a definition whose operands end at e
  abbrev row_of : (e : ℕ) → Definition → NodeRow
  row_of e x =
      record {
        kind = code_of x.kind;
        output = cond (m x.name) 1 0;
        delay = cond (is_logic x.kind) d 0;
        latency = latency_of x.kind;
        end = e;
        clock = clock_to_q_of x.kind;
      }

  row-later : (e : ℕ) (x : Definition) (xs : List Definition) (i : ℕ) → node_row (rows_from d m e (x ∷ xs)) (suc i) ≡ node_row (rows_from d m (e + length x.reads) xs) i
  row-later e x xs i = λ j. record {
    kind = at (node_place (suc i)) (node_place i) (omega arith) j;
    output = at (node_place (suc i) + 1) (node_place i + 1) (omega arith) j;
    delay = at (node_place (suc i) + 2) (node_place i + 2) (omega arith) j;
    latency = at (node_place (suc i) + 3) (node_place i + 3) (omega arith) j;
    end = at (node_place (suc i) + 4) (node_place i + 4) (omega arith) j;
    clock = at (node_place (suc i) + 5) (node_place i + 5) (omega arith) j;
  }
    where
      at : (p q : ℕ) → p ≡ suc (suc (suc (suc (suc (suc q))))) → get_or (rows_from d m e (x ∷ xs)) p 0 ≡ get_or (rows_from d m (e + length x.reads) xs) q 0
      at p q h = ap (λ (n : ℕ). get_or (rows_from d m e (x ∷ xs)) n 0) h

  row_at : (e : ℕ) (ds : List Definition) (i : ℕ) → i < length ds → node_row (rows_from d m e ds) i ≡ row_of (e + length (reads_before ds (suc i))) (get_or ds i no_definition)
  row_at e [] i l = absurd (not-suc-le-zero l)
  row_at e (x ∷ xs) zero l = ap (λ (ws : List Word). row_of (e + length ws) x) (sym (append-nil x.reads))
  row_at e (x ∷ xs) (suc i) l =
      let n : e + length x.reads + length (reads_before xs (suc i)) ≡ e + length (x.reads ++ reads_before xs (suc i)) = omega (arith, length-append x.reads (reads_before xs (suc i))) in
      row-later e x xs i ∙ row_at (e + length x.reads) xs i (omega arith) ∙ ap (λ (k : ℕ). row_of k (get_or xs i no_definition)) n

  module _ (ds : List Definition) (f : Word → ℕ) where
    abbrev rows : List ℕ
    rows = rows_from d m 0 ds

    abbrev operands : List ℕ
    operands = map f (reads_of ds)

    -- the operands of the nodes before a place end where their reads do
    end-at : (i : ℕ) → i ≤ length ds → end_of rows operands i ≡ length (reads_before ds i)
    end-at zero l = refl
    end-at (suc i) l =
        let x = get_or ds i no_definition in
        let e : (node_row rows i).end ≡ 0 + length (reads_before ds (suc i)) = ap (λ (r : NodeRow). r.end) (row_at 0 ds i (omega arith)) in
        let t : length (reads_of ds) ≡ length (reads_before ds i) + length (x.reads ++ reads_of (drop (suc i) ds)) = ap (length {A = Word}) (reads_at ds i (omega arith)) ∙ length-append (reads_before ds i) _ in
        omega (arith, e, reads-count ds i (omega arith), t, length-append x.reads (reads_of (drop (suc i) ds)), length-map (reads_of ds) f)

    operands-at : (i : ℕ) → i < length ds → operands_in rows operands i ≡ map f (get_or ds i no_definition).reads
    operands-at i l =
        let x = get_or ds i no_definition in
        let before = map f (reads_before ds i) in
        let own = map f x.reads in
        let after = map f (reads_of (drop (suc i) ds)) in
        let n : end_of rows operands (suc i) - end_of rows operands i ≡ length x.reads = omega (arith, end-at i (omega arith), end-at (suc i) (omega arith), reads-count ds i l) in
        let s : operands ≡ before ++ (own ++ after) =
        ap (map f) (reads_at ds i l) ∙ map-append f (reads_before ds i) _ ∙ ap (λ (us : List ℕ). before ++ us) (map-append f x.reads (reads_of (drop (suc i) ds))) in
        let r : drop (end_of rows operands i) operands ≡ own ++ after =
        ap (drop (end_of rows operands i)) s ∙ drop_at before (own ++ after) (end_of rows operands i) (length-map (reads_before ds i) f ∙ sym (end-at i (omega arith))) in
        rw (n, r) (take_at own after (length x.reads) (length-map x.reads f))

    -- the record of the definition at a place
    abbrev record_of : Definition → NodeRecord
    record_of x = record {
      kind = code_of x.kind;
      mark = cond (m x.name) 1 0;
      delay = cond (is_logic x.kind) d 0;
      latency = latency_of x.kind;
      clock_to_q = clock_to_q_of x.kind;
      operands = map f x.reads;
    }

    node_at : (i : ℕ) → i < length ds → node_in rows operands i ≡ record_of (get_or ds i no_definition)
    node_at i l =
        let r = row_at 0 ds i l in
        λ j. record {
          kind = (r j).kind;
          mark = (r j).output;
          delay = (r j).delay;
          latency = (r j).latency;
          clock_to_q = (r j).clock;
          operands = operands-at i l j;
        }

    -- the rows stand for the records of the definitions, one by one
    nodes-are : map (node_in rows operands) (below (rows_in node_place rows)) ≡ map record_of ds
    nodes-are =
        let n : rows_in node_place rows ≡ length ds = omega (arith, rows-length d m 0 ds) in
        ap (λ (k : ℕ). map (node_in rows operands) (below k)) n ∙ map-over (node_in rows operands) record_of no_definition ds node_at

-- The rows of a model and the ids that it reads are, as the sheet writer takes them, the records of its sheet: each row ends where the reads up to
-- its definition do, so its operands are the ids of that definition's reads.
pub records-of : (c : Caller) (ds : List Definition) (os : List OutputName)
    → records_in c.leaves c.top c.horizon (rows_from (delay c) (is_output os) 0 ds) (ids_of (names_of ds) ds) [] 1 [] ≡ records_of (sheet_of c (record { definitions = ds; outputs = os }))
records-of c ds os =
    let p = nodes-are (delay c) (is_output os) ds (id_of (names_of ds)) ∙ sym (map-map node_record (node_of (delay c) (record { definitions = ds; outputs = os })) ds) in
    λ i. record { leaves = c.leaves; top = c.top; horizon = c.horizon; nodes = p i; differences = []; period = 1; windows = [] }

module _ (text : List ℕ) (c : Caller) where
  -- the caller's numbers and the text's length are looked at first
  started : {b : Bool} → (callable c && short text) ≡ b → import_sheet text c ≡ elim b as (λ b. Imported) [ true ↦ of_found c (model_of text) | false ↦ refused 11 0 ]
  unfolding import_sheet
  started e = ap (λ (b : Bool). elim b as (λ b. Imported) [ true ↦ of_found c (model_of text) | false ↦ refused 11 0 ]) e

  pub import-first : (callable c && short text) ≡ false → (room : ℕ) → importing text c room ≡ refusal 11 0
  unfolding importing
  import-first e room = ap (handed room) (started e)

  -- and then the model decides
  import-model : {f : Found} → model_of text ≡ f → callable c ≡ true → short text ≡ true → import_sheet text c ≡ of_found c f
  import-model e a b = let t : (callable c && short text) ≡ true = rw (a, b) refl in started t ∙ ap (of_found c) e

  pub import-faulty : (k p : ℕ) → model_of text ≡ faulty k p → callable c ≡ true → short text ≡ true → (room : ℕ) → importing text c room ≡ refusal k p
  unfolding importing
  import-faulty k p e a b room = ap (handed room) (import-model e a b)

  module _ (M : Model) where
    pub import-undefined : (o : OutputName) (os : List OutputName) → model_of text ≡ found M → undefined M ≡ o ∷ os → callable c ≡ true → short text ≡ true
        → (room : ℕ) → importing text c room ≡ refusal 10 o.line
    unfolding importing
    import-undefined o os e u a b room = ap (handed room) (import-model e a b ∙ ap (with_outputs c M) u)

    -- the imported sheet is well formed, so all its numbers pass
    pub import-writes : model_of text ≡ found M → undefined M ≡ [] → callable c ≡ true → short text ≡ true
        → (room : ℕ) → importing text c room ≡ writing (records_of (sheet_of c M)) room
    unfolding importing spelling
    import-writes e u a b room =
        let s : import_sheet text c ≡ imported (sheet_of c M) = import-model e a b ∙ ap (with_outputs c M) u in
        ap (handed room) s ∙ sym (passes-writing (records_of (sheet_of c M)) room (well-passes (sheet_of c M) (imported-well text c (sheet_of c M) s)))
