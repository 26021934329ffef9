-- One name marked in the rows, and which lines name outputs.
use Prim.Native.Nat.{ℕ, zero, suc, ◌+◌, ◌<◌}
use mathlib.Core.Path.{◌≡◌, refl, sym, subst, ap, ◌∙◌}
use mathlib.Core.Bool.{Bool, true, false, cond, ◌&&◌, ◌||◌, not, or-false}
use mathlib.Core.List.{List, [], ◌∷◌, ◌++◌, map, append-nil, append_assoc}
use native.Mathlib.Omega.{arith}
use lib.Dec.{eqb}
use lib.ListN.{length, get_or, set}
use Rattle.maps.specs.Lists.{All, equal, concat}
use Rattle.maps.specs.Sheet.{is_logic, latency_of, clock_to_q_of}
use Rattle.maps.specs.WellFormed.{code_of}
use Rattle.maps.proofs.Over.{same_test}
use Rattle.maps.proofs.Member.{All-map, All-ids, everywhere, or_right}
use Rattle.records.specs.Rows.{mark_place}
use Rattle.blif.specs.Lines.{lines}
use Rattle.blif.specs.Words.{Word, Line, bytes_of, is, lines_of}
use Rattle.blif.specs.Subset.{Stage, first, head, cover, latched, last, Statement, inputs, outputs, row, latch, outside, model_line, names_line, latch_line, end_line, initial, bit, literals, row_line, body_line, statement, stage_after}
use Rattle.blif.specs.Names.{Definition, defined, names_of, OutputName, output_names, has, resolves}
use Rattle.blif.specs.Limits.{within_limits}
use Rattle.blif.specs.Model.{Model, empty, extend, is_outside, fault, Found, found, ended, judged, model_from, model_of}
use Rattle.blif.specs.Import.{id_of}
use Rattle.blif.proofs.Naming.{equal-true, equal_of}
use Rattle.blif.proofs.Ordering.{Once}
use Rattle.definitions.specs.Rows.{rows_from}
use Rattle.outputs.specs.ByWord.{outputs_named, outputs_of_words, outputs_of_line}

equal-comm : (a b : List ℕ) → equal a b ≡ equal b a
equal-comm a b = same_test (equal a b) (equal b a) (λ e. equal_of b a (sym (equal-true a b e))) (λ e. equal_of a b (sym (equal-true b a e)))

-- the first of the names is none of the others
once-head : (n : Word) (ns : List Word) → Once (n ∷ ns) → All (λ v. equal v n ≡ false) ns
once-head n ns h = All-ids (λ v. equal v n ≡ false) [] ns (λ j l. go j l (equal (get_or ns j []) n) refl)
  where
    go : (j : ℕ) → j < length ns → (b : Bool) → equal (get_or ns j []) n ≡ b → b ≡ false
    go j l true e = let z : ◌≡◌ {A = ℕ} 0 (suc j) = h.once 0 (suc j) (omega arith) (omega arith) (sym (equal-true (get_or ns j []) n e)) in absurd (omega (arith, z))
    go j l false e = refl

once-tail : (n : Word) (ns : List Word) → Once (n ∷ ns) → Once ns
once-tail n ns h = record { once = λ i j li lj q. let z : suc i ≡ suc j = h.once (suc i) (suc j) (omega arith) (omega arith) q in omega arith }

module _ (d : ℕ) where
  -- the rows go by the marks of the names that are defined
  pub rows_alike : (m k : Word → Bool) (e : ℕ) (xs : List Definition) → All (λ w. m w ≡ k w) (names_of xs) → rows_from d m e xs ≡ rows_from d k e xs
  rows_alike m k e [] h = refl
  rows_alike m k e (x ∷ xs) h = rw (h.0, rows_alike m k (e + length x.reads) xs h.1) refl

  pub rows_same : (m k : Word → Bool) (e : ℕ) (xs : List Definition) → ((w : Word) → m w ≡ k w) → rows_from d m e xs ≡ rows_from d k e xs
  rows_same m k e xs h = rows_alike m k e xs (everywhere h (names_of xs))

  -- a row with its mark, and the rows after it
  abbrev with_row : (e : ℕ) → Definition → (mark : Bool) → (rest : List ℕ) → List ℕ
  with_row e x b rest = code_of x.kind ∷ cond b 1 0 ∷ cond (is_logic x.kind) d 0 ∷ latency_of x.kind ∷ e ∷ clock_to_q_of x.kind ∷ rest

  module _ (m : Word → Bool) (w : Word) where
    -- A name that is defined once is marked in its own row, and in no other one.
    pub mark-row : (e : ℕ) (xs : List Definition) → Once (names_of xs) → has (names_of xs) w ≡ true
        → set (rows_from d m e xs) (mark_place (id_of (names_of xs) w)) 1 ≡ rows_from d (λ v. m v || equal v w) e xs
    mark-row e [] o h = let z : ◌≡◌ {A = ℕ} 0 1 = cc in absurd (omega arith)
    mark-row e (x ∷ xs) o h = go (equal w x.name) refl h (mark-row next xs (once-tail x.name (names_of xs) o))
      where
        next : ℕ
        next = e + length x.reads

        id : ℕ
        id = id_of (names_of xs) w

        -- the others are not marked
        other : equal w x.name ≡ true → (v : Word) → equal v x.name ≡ false → m v ≡ (m v || equal v w)
        other q v f = sym (ap (λ (b : Bool). m v || b) (ap (equal v) (equal-true w x.name q) ∙ f) ∙ or-false (m v))

        go : (b : Bool) → equal w x.name ≡ b → (b || has (names_of xs) w) ≡ true
            → (has (names_of xs) w ≡ true → set (rows_from d m (e + length x.reads) xs) (mark_place (id_of (names_of xs) w)) 1 ≡ rows_from d (λ v. m v || equal v w) (e + length x.reads) xs)
            → set (rows_from d m e (x ∷ xs)) (mark_place (cond b 0 (suc (id_of (names_of xs) w)))) 1 ≡ rows_from d (λ v. m v || equal v w) e (x ∷ xs)
        go true q h rec =
            ap (with_row next x true) (rows_alike m (λ v. m v || equal v w) next xs (All-map (other q) (names_of xs) (once-head x.name (names_of xs) o)))
            ∙ ap (λ (b : Bool). with_row next x b (rows_from d (λ v. m v || equal v w) next xs)) (sym (or_right (m x.name) (equal x.name w) (equal-comm x.name w ∙ q)))
        go false q h rec =
            let p : mark_place (suc id) ≡ suc (suc (suc (suc (suc (suc (mark_place id)))))) = omega arith in
            ap (λ (i : ℕ). set (rows_from d m e (x ∷ xs)) i 1) p
            ∙ ap (with_row next x (m x.name)) (rec h)
            ∙ ap (λ (b : Bool). with_row next x b (rows_from d (λ v. m v || equal v w) next xs)) (sym (ap (λ (b : Bool). m x.name || b) (equal-comm x.name w ∙ q) ∙ or-false (m x.name)))

clash : {A : Type 0} (b : Bool) → b ≡ true → b ≡ false → A
clash b t f = let z : ◌≡◌ {A = ℕ} 0 1 = cc in absurd (omega arith)

-- Which outputs a line names, at any stage: only `.outputs` names some, and it stands in the head or outside the subset.
module _ (n : ℕ) where
  model-none : (ws : List Word) → output_names n (model_line ws) ≡ []
  model-none [] = refl
  model-none (w ∷ []) = refl
  model-none (w ∷ x ∷ ws) = refl

  names-none : (ws : List Word) → output_names n (names_line ws) ≡ []
  names-none [] = refl
  names-none (w ∷ ws) = refl

  latch-none : (ws : List Word) → output_names n (latch_line ws) ≡ []
  latch-none [] = refl
  latch-none (w ∷ []) = refl
  latch-none (w ∷ x ∷ []) = refl
  latch-none (w ∷ x ∷ v ∷ []) = go (initial v)
    where
      go : (b : Bool) → output_names n (cond b (latch w x) outside) ≡ []
      go true = refl
      go false = refl
  latch-none (w ∷ x ∷ v ∷ y ∷ ws) = refl

  end_none : (ws : List Word) → output_names n (end_line ws) ≡ []
  end_none [] = refl
  end_none (w ∷ ws) = refl

  row-or : (b : Bool) → output_names n (cond b row outside) ≡ []
  row-or true = refl
  row-or false = refl

  row-none : (k : ℕ) (ws : List Word) → output_names n (row_line k ws) ≡ []
  row-none zero [] = refl
  row-none zero (w ∷ []) = row-or (bit w)
  row-none zero (w ∷ x ∷ ws) = refl
  row-none (suc k) [] = refl
  row-none (suc k) (w ∷ []) = refl
  row-none (suc k) (w ∷ x ∷ []) = row-or (literals (suc k) w && bit x)
  row-none (suc k) (w ∷ x ∷ y ∷ ws) = refl

  body-none : (w : Word) (ws : List Word) (other : Statement) → output_names n other ≡ [] → output_names n (body_line w ws other) ≡ []
  body-none w ws other h = go (is ".names" w) (is ".latch" w) (is ".end" w)
    where
      go : (a b c : Bool) → output_names n (cond a (names_line ws) (cond b (latch_line ws) (cond c (end_line ws) other))) ≡ []
      go true b c = names-none ws
      go false true c = latch-none ws
      go false false true = end_none ws
      go false false false = h

  -- a line that begins with another word names none
  other_word : (at : Stage) (w : Word) (ws : List Word) → is ".outputs" w ≡ false → output_names n (statement at (w ∷ ws)) ≡ []
  unfolding statement
  other_word first w ws e = go (is ".model" w)
    where
      go : (b : Bool) → output_names n (cond b (model_line ws) outside) ≡ []
      go true = model-none ws
      go false = refl
  other_word head w ws e = go (is ".inputs" w) (is ".outputs" w) e
    where
      go : (a b : Bool) → b ≡ false → output_names n (cond a (inputs ws) (cond b (outputs ws) (body_line w ws outside))) ≡ []
      go true b e = refl
      go false true e = let z : ◌≡◌ {A = ℕ} 0 1 = cc in absurd (omega arith)
      go false false e = body-none w ws outside refl
  other_word (cover k) w ws e = body-none w ws (row_line k (w ∷ ws)) (row-none k (w ∷ ws))
  other_word latched w ws e = body-none w ws outside refl
  other_word last w ws e = refl

  -- `.outputs` is no row
  row-outside : (k : ℕ) (ws : List Word) → is_outside (row_line k (bytes_of ".outputs" ∷ ws)) ≡ true
  row-outside zero [] = refl
  row-outside zero (x ∷ ws) = refl
  row-outside (suc k) [] = refl
  row-outside (suc k) (x ∷ []) = go (eqb 8 (suc k))
    where
      go : (b : Bool) → is_outside (cond ((b && false) && bit x) row outside) ≡ true
      go true = refl
      go false = refl
  row-outside (suc k) (x ∷ y ∷ ws) = refl

  -- a line that begins with `.outputs` names the words after it, or stands outside the subset
  own-word : (at : Stage) (ws : List Word) → is_outside (statement at (bytes_of ".outputs" ∷ ws)) ≡ false
      → output_names n (statement at (bytes_of ".outputs" ∷ ws)) ≡ outputs_named n ws
  unfolding statement
  own-word first ws e = clash true refl e
  own-word head ws e = refl
  own-word (cover k) ws e = clash (is_outside (row_line k (bytes_of ".outputs" ∷ ws))) (row-outside k ws) e
  own-word latched ws e = clash true refl e
  own-word last ws e = clash true refl e

  pub line-outputs : (at : Stage) (ws : List Word) → is_outside (statement at ws) ≡ false → output_names n (statement at ws) ≡ outputs_of_words n ws
  unfolding statement
  line-outputs at [] e = refl
  line-outputs at (w ∷ ws) e = go (is ".outputs" w) refl
    where
      go : (b : Bool) → is ".outputs" w ≡ b → output_names n (statement at (w ∷ ws)) ≡ outputs_named n (cond b ws [])
      go true q =
          let p = equal-true w (bytes_of ".outputs") q in
          ap (λ (v : Word). output_names n (statement at (v ∷ ws))) p ∙ own-word at ws (subst (λ (v : Word). is_outside (statement at (v ∷ ws)) ≡ false) p e)
      go false q = other_word at w ws q

-- a line without a fault is in the subset
inside : (M : Model) (s : Statement) → fault M s ≡ 0 → is_outside s ≡ false
inside M s e = go (is_outside s) (cond (not (resolves (names_of M.definitions) (defined s))) 10 (cond (within_limits (length M.definitions) s) 0 11)) e
  where
    go : (b : Bool) (k : ℕ) → cond b 9 k ≡ 0 → b ≡ false
    go true k q = absurd (omega (arith, q))
    go false k q = refl

-- where the lines end in a model, they end in the one so far, and a line in front has no fault
ended-found : (past : ℕ) (at : Stage) (M N : Model) → ended past at M ≡ found N → M ≡ N
ended-found past first M N e = let z : ◌≡◌ {A = ℕ} 0 1 = cc in absurd (omega arith)
ended-found past head M N e = let z : ◌≡◌ {A = ℕ} 0 1 = cc in absurd (omega arith)
ended-found past (cover k) M N e = let z : ◌≡◌ {A = ℕ} 0 1 = cc in absurd (omega arith)
ended-found past latched M N e = let z : ◌≡◌ {A = ℕ} 0 1 = cc in absurd (omega arith)
ended-found past last M N e = cc

judged-found : (k place : ℕ) (f : Found) (N : Model) → judged k place f ≡ found N → (k ≡ 0) × (f ≡ found N)
judged-found zero place f N e = (refl, e)
judged-found (suc k) place f N e = let z : ◌≡◌ {A = ℕ} 0 1 = cc in absurd (omega arith)

-- In lines that end in a model the outputs are named by exactly those whose first word is `.outputs`.
pub outputs-by-word : (past : ℕ) (at : Stage) (M : Model) (ls : List Line) (N : Model) → model_from past at M ls ≡ found N → N.outputs ≡ M.outputs ++ concat (map outputs_of_line ls)
unfolding model_from
outputs-by-word past at M [] N e = sym (append-nil M.outputs ∙ ap (λ (N : Model). N.outputs) (ended-found past at M N e))
outputs-by-word past at M (l ∷ ls) N e =
    let s = statement at l.words in
    let r = judged-found (fault M s) l.number (model_from past (stage_after at s) (extend M l.number s) ls) N e in
    outputs-by-word past (stage_after at s) (extend M l.number s) ls N r.1
    ∙ append_assoc M.outputs (output_names l.number s) (concat (map outputs_of_line ls))
    ∙ ap (λ (os : List OutputName). M.outputs ++ (os ++ concat (map outputs_of_line ls))) (line-outputs l.number at l.words (inside M s r.0))

-- so in a text
pub outputs-of-text : (text : List ℕ) (M : Model) → model_of text ≡ found M → M.outputs ≡ concat (map outputs_of_line (lines_of text))
unfolding model_of
outputs-of-text text M e = outputs-by-word (length (lines text) + 1) first empty (lines_of text) M e
