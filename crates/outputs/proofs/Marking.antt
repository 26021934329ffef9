-- Outputs marked word by word and line by line.
use Prim.Native.Nat.{ℕ, ◌+◌, ◌≤◌, ◌<◌}
use mathlib.Core.Path.{◌≡◌, refl, sym, subst, ap, ◌∙◌}
use mathlib.Core.Bool.{Bool, true, false, cond, ◌&&◌, ◌||◌, not, or-false, or_assoc}
use mathlib.Core.List.{List, [], ◌∷◌, ◌++◌, map}
use native.Mathlib.Omega.{arith}
use Rattle.std.specs.Prelude.{Result, Ok, Err}
use Rattle.types.specs.declared.Refusal.{Refusal}
use Rattle.types.specs.declared.Refusal.TheVariants.{Name}
use lib.ListN.{length, take, drop, set, length-map}
use lib.Seq.{take-set-lt}
use borrow.Author.Tests.{lt-ltb, le-ltb}
use Rattle.maps.specs.Lists.{all, equal, concat}
use Rattle.maps.proofs.Member.{keep_append}
use Rattle.records.specs.Rows.{node_place, mark_place}
use Rattle.blif.specs.Lines.{lines, joined}
use Rattle.blif.specs.Words.{Word, Line, is, words, with_words, word_lines}
use Rattle.blif.specs.Scan.{until, from, ends_line, ends_word, ends_blanks, at_line_end, past_line, newlines, name_at, words_at}
use Rattle.blif.specs.Names.{Definition, names_of, OutputName, has}
use Rattle.blif.specs.Model.{Model, found, model_of}
use Rattle.blif.specs.Import.{id_of, is_output}
use Rattle.blif.proofs.Ordering.{Once}
use Rattle.blif.proofs.Positions.{lines_at, lines_end, lines_start}
use Rattle.blif.proofs.Walking.{words-none, words-some}
use Rattle.blif.proofs.Wording.{next_word}
use Rattle.names.proofs.Ids.{has-id}
use Rattle.definitions.specs.Rows.{rows_from}
use Rattle.definitions.proofs.RowLaws.{id_below}
use Rattle.outputs.specs.ByWord.{output_words, outputs_named, outputs_of_words, outputs_of_line, undefined_of}
use Rattle.outputs.specs.Marks.{Adds, WordsMarked, OutputsMarked}
use Rattle.outputs.proofs.MarkLaws.{rows_same, mark-row, outputs-of-text}

-- the names that a line puts out, where `first` is after the blanks at its beginning: by its first word
module _ (s : List ℕ) (at first : ℕ) (e : drop first s ≡ from ends_blanks (drop at s)) where
  pub line-empty : at_line_end (drop first s) ≡ true → output_words (words_at s at) ≡ []
  line-empty h = ap output_words (words-none s at first e h)

  pub line_other : at_line_end (drop first s) ≡ false → is ".outputs" (name_at s first) ≡ false → output_words (words_at s at) ≡ []
  unfolding until words
  line_other h f =
      let ws = words (until ends_line (from ends_word (drop first s))) in
      let turn : words_at s at ≡ name_at s first ∷ ws =
      next_word (drop at s) ∙ ap (λ (u : List ℕ). cond (at_line_end u) [] (until ends_word u ∷ words (until ends_line (from ends_word u)))) (sym e) ∙ rw h refl in
      ap output_words turn ∙ ap (λ (b : Bool). cond b ws []) f

  pub line-own : (rest : ℕ) → at_line_end (drop first s) ≡ false → is ".outputs" (name_at s first) ≡ true → drop rest s ≡ from ends_word (drop first s) → output_words (words_at s at) ≡ words_at s rest
  line-own rest h f g = ap output_words (words-some s at first rest e h g) ∙ ap (λ (b : Bool). cond b (words_at s rest) []) f

module _ (ns : List Word) where
  -- Marks added: none, that of one name, some after others. They are those of either test, since `rows_from` goes by the test alone.
  adds_none : (nodes : List ℕ) → Adds ns (λ w. false) nodes nodes
  adds_none nodes = record { rows = λ d m xs e r. r ∙ rows_same d m (λ w. m w || false) 0 xs (λ w. sym (or-false (m w))) }

  adds_one : (w : Word) (nodes : List ℕ) → Once ns → has ns w ≡ true → Adds ns (λ v. equal v w) nodes (set nodes (mark_place (id_of ns w)) 1)
  adds_one w nodes o h =
      record {
        rows = λ d m xs e r.
            let p = mark_place (id_of ns w) in
            let l : p < node_place (length xs) = omega (arith, id_below ns w h, ap length e, length-map xs (λ (d : Definition). d.name)) in
            let i : p ≡ mark_place (id_of (names_of xs) w) = omega (arith, ap (λ (k : List Word). id_of k w) e) in
            take-set-lt (node_place (length xs)) nodes p 1 l
            ∙ ap (λ (rows : List ℕ). set rows p 1) r
            ∙ ap (λ (k : ℕ). set (rows_from d m 0 xs) k 1) i
            ∙ mark-row d m w 0 xs (subst Once (sym e) o) (ap (λ (k : List Word). has k w) e ∙ h);
      }

  adds-join : (a b : Word → Bool) {before mid after : List ℕ} → Adds ns a before mid → Adds ns b mid after → Adds ns (λ w. a w || b w) before after
  adds-join a b p q =
      record {
        rows = λ d m xs e r.
            q.rows d (λ w. m w || a w) xs e (p.rows d m xs e r)
            ∙ rows_same d (λ w. (m w || a w) || b w) (λ w. m w || (a w || b w)) 0 xs (λ w. or_assoc (m w) (a w) (b w));
      }

  adds_same : (a b : Word → Bool) {before after : List ℕ} → ((w : Word) → a w ≡ b w) → Adds ns a before after → Adds ns b before after
  adds_same a b h p =
      record {
        rows = λ d m xs e r.
            p.rows d m xs e r ∙ rows_same d (λ w. m w || a w) (λ w. m w || b w) 0 xs (λ w. ap (λ (x : Bool). m w || x) (h w));
      }

  -- a name is there exactly if its id is below their count
  id-has : (w : Word) → id_of ns w < length ns → has ns w ≡ true
  id-has w l = has-id ns w ∙ lt-ltb (id_of ns w) (length ns) l

  id-missing : (w : Word) → length ns ≤ id_of ns w → has ns w ≡ false
  id-missing w l = has-id ns w ∙ le-ltb (id_of ns w) (length ns) l

  -- words one by one: none, one that is marked, one that is no name
  pub words-end : (ws : List Word) (nodes : List ℕ) → ws ≡ [] → WordsMarked ns ws nodes nodes true
  words-end ws nodes e = subst (λ (ws : List Word). WordsMarked ns ws nodes nodes true) (sym e) (refl, adds_none nodes)

  pub word-marked : (w : Word) (vs ws : List Word) (before mid after : List ℕ) (r : Bool) (id : ℕ) → vs ≡ w ∷ ws → Once ns → id ≡ id_of ns w → id < length ns
      → mid ≡ set before (mark_place id) 1 → WordsMarked ns ws mid after r → WordsMarked ns vs before after r
  word-marked w vs ws before mid after r id e o i l q p =
      subst (λ (vs : List Word). WordsMarked ns vs before after r) (sym e) (go r (subst (λ (mid : List ℕ). WordsMarked ns ws mid after r) (q ∙ ap (λ (k : ℕ). set before (mark_place k) 1) i) p))
    where
      h : has ns w ≡ true
      h = id-has w (omega arith)

      go : (r : Bool) → WordsMarked ns ws (set before (mark_place (id_of ns w)) 1) after r → WordsMarked ns (w ∷ ws) before after r
      go true p = (rw (h, p.0) refl, adds-join (λ v. equal v w) (has ws) (adds_one w before o h) p.1)
      go false p = rw (h, p) refl

  pub word-missing : (w : Word) (vs ws : List Word) (before after : List ℕ) (id : ℕ) → vs ≡ w ∷ ws → id ≡ id_of ns w → length ns ≤ id → WordsMarked ns vs before after false
  word-missing w vs ws before after id e i l = rw (e, id-missing w (omega arith)) refl

  -- the outputs of a list are defined and are marked, or the first that is not defined stands on the line that the refusal names
  abbrev pub ListMarked : List OutputName → (before after : List ℕ) → Result (Unit {0}) Refusal → Type 0
  ListMarked os before after (Ok _) = (undefined_of ns os ≡ []) × Adds ns (is_output os) before after
  ListMarked os before after (Err w) = (o : OutputName) × (ps : List OutputName) × (undefined_of ns os ≡ o ∷ ps) × (w ≡ Name o.line)

  undefined-append : (os ps : List OutputName) → undefined_of ns (os ++ ps) ≡ undefined_of ns os ++ undefined_of ns ps
  undefined-append os ps = keep_append (λ (o : OutputName). not (has ns o.name)) os ps

  module _ (n : ℕ) where
    undefined-none : (ws : List Word) → all (has ns) ws ≡ true → undefined_of ns (outputs_named n ws) ≡ []
    undefined-none [] h = refl
    undefined-none (w ∷ ws) h = go (has ns w) (undefined-none ws) h
      where
        go : (b : Bool) → (all (has ns) ws ≡ true → undefined_of ns (outputs_named n ws) ≡ []) → (b && all (has ns) ws) ≡ true
            → ◌≡◌ {A = List OutputName} (cond (not b) (record { line = n; name = w } ∷ undefined_of ns (outputs_named n ws)) (undefined_of ns (outputs_named n ws))) []
        go true rec h = rec h
        go false rec h = let z : ◌≡◌ {A = ℕ} 0 1 = cc in absurd (omega arith)

    undefined-first : (ws : List Word) → all (has ns) ws ≡ false
        → (o : OutputName) × (ps : List OutputName) × (undefined_of ns (outputs_named n ws) ≡ o ∷ ps) × (o.line ≡ n)
    undefined-first [] h = let z : ◌≡◌ {A = ℕ} 0 1 = cc in absurd (omega arith)
    undefined-first (w ∷ ws) h = go (has ns w) (undefined-first ws) h
      where
        go : (b : Bool) → (all (has ns) ws ≡ false → (o : OutputName) × (ps : List OutputName) × (undefined_of ns (outputs_named n ws) ≡ o ∷ ps) × (o.line ≡ n))
            → (b && all (has ns) ws) ≡ false
            → (o : OutputName) × (ps : List OutputName)
            × (◌≡◌ {A = List OutputName} (cond (not b) (record { line = n; name = w } ∷ undefined_of ns (outputs_named n ws)) (undefined_of ns (outputs_named n ws))) (o ∷ ps))
            × (o.line ≡ n)
        go true rec h = rec h
        go false rec h = (record { line = n; name = w }, undefined_of ns (outputs_named n ws), refl, refl)

    outputs-append : (ws : List Word) (os : List OutputName) (w : Word) → (has ws w || is_output os w) ≡ is_output (outputs_named n ws ++ os) w
    outputs-append [] os w = refl
    outputs-append (v ∷ ws) os w = or_assoc (equal w v) (has ws w) (is_output os w) ∙ ap (λ (b : Bool). equal w v || b) (outputs-append ws os w)

    -- the outputs of a line, and those after it
    line_marked : (ws : List Word) (os : List OutputName) (before mid after : List ℕ) (r : Result (Unit {0}) Refusal)
        → WordsMarked ns ws before mid true → ListMarked os mid after r → ListMarked (outputs_named n ws ++ os) before after r
    line_marked ws os before mid after (Ok _) p q = (
      undefined-append (outputs_named n ws) os ∙ rw (undefined-none ws p.0, q.0) refl,
      adds_same (λ w. has ws w || is_output os w) (is_output (outputs_named n ws ++ os)) (outputs-append ws os) (adds-join (has ws) (is_output os) p.1 q.1),
    )
    line_marked ws os before mid after (Err w) p q = (
      q.0,
      q.1,
      undefined-append (outputs_named n ws) os ∙ rw (undefined-none ws p.0, q.2) refl,
      q.3,
    )

    line-stops : (ws : List Word) (os : List OutputName) (before mid after : List ℕ)
        → WordsMarked ns ws before mid false → ListMarked (outputs_named n ws ++ os) before after (Err (Name n))
    line-stops ws os before mid after p =
        let f = undefined-first ws p in
        (f.0, f.1 ++ undefined_of ns os, undefined-append (outputs_named n ws) os ∙ ap (λ (ps : List OutputName). ps ++ undefined_of ns os) f.2, ap Name (sym f.3))

-- the outputs of the lines from a position on, where a line begins
abbrev pub outputs_from : (text : List ℕ) → (at : ℕ) → List OutputName
outputs_from s at = concat (map outputs_of_line (word_lines (joined (1 + newlines (take at s)) (lines (drop at s)))))

outputs-at : (s : List ℕ) (at next : ℕ) → at < length s → drop next s ≡ past_line (drop at s)
    → outputs_from s at ≡ outputs_of_words (1 + newlines (take at s)) (words_at s at) ++ outputs_from s next
unfolding until words
outputs-at s at next l e = ap (λ (ls : List Line). concat (map outputs_of_line ls)) (lines_at s at next l e) ∙ go (words_at s at)
  where
    n : ℕ
    n = 1 + newlines (take at s)

    rest : List Line
    rest = word_lines (joined (1 + newlines (take next s)) (lines (drop next s)))

    go : (ws : List Word) → concat (map outputs_of_line (with_words n ws rest)) ≡ outputs_of_words n ws ++ concat (map outputs_of_line rest)
    go [] = refl
    go (w ∷ ws) = refl

-- lines one by one: none, one whose outputs are marked, one with an output that is not defined
module _ (s : List ℕ) (ns : List Word) where
  pub outputs-end : (at : ℕ) (nodes : List ℕ) → length s ≤ at → ListMarked ns (outputs_from s at) nodes nodes (Ok tt)
  outputs-end at nodes l =
      subst (λ (os : List OutputName). ListMarked ns os nodes nodes (Ok tt))
      (sym (ap (λ (ls : List Line). concat (map outputs_of_line ls)) (lines_end s at (1 + newlines (take at s)) l))) (refl, adds_none ns nodes)

  module _ (at next : ℕ) (l : at < length s) (e : drop next s ≡ past_line (drop at s)) (before mid after : List ℕ) (b : Bool)
      (h : WordsMarked ns (output_words (words_at s at)) before mid b) where
    pub outputs-marked : (r : Result (Unit {0}) Refusal) → b ≡ true → ListMarked ns (outputs_from s next) mid after r → ListMarked ns (outputs_from s at) before after r
    outputs-marked r t p =
        subst (λ (os : List OutputName). ListMarked ns os before after r) (sym (outputs-at s at next l e))
        (line_marked ns (1 + newlines (take at s)) (output_words (words_at s at)) (outputs_from s next) before mid after r
        (subst (WordsMarked ns (output_words (words_at s at)) before mid) t h) p)

    pub outputs-stop : (n : ℕ) → b ≡ false → n ≡ 1 + newlines (take at s) → ListMarked ns (outputs_from s at) before after (Err (Name n))
    outputs-stop n f i =
        subst (λ (k : ℕ). ListMarked ns (outputs_from s at) before after (Err (Name k))) (sym i)
        (subst (λ (os : List OutputName). ListMarked ns os before after (Err (Name (1 + newlines (take at s))))) (sym (outputs-at s at next l e))
        (line-stops ns (1 + newlines (take at s)) (output_words (words_at s at)) (outputs_from s next) before mid after
        (subst (WordsMarked ns (output_words (words_at s at)) before mid) f h)))

-- The outputs of the model are those of the lines from the text's beginning on, and before marking no row is marked.
pub model-marked : (s : List ℕ) (ns : List Word) (count : ℕ) (before after : List ℕ) (r : Result (Unit {0}) Refusal) → length ns ≡ count → ListMarked ns (outputs_from s 0) before after r
    → (d : ℕ) (M : Model) → model_of s ≡ found M → ns ≡ names_of M.definitions
    → take (node_place count) before ≡ rows_from d (λ w. false) 0 M.definitions → OutputsMarked d M after r
model-marked s ns count before after r c h d M e i b =
    go r
    (subst (λ (k : List Word). ListMarked k M.outputs before after r) i
    (subst (λ (os : List OutputName). ListMarked ns os before after r) (sym (outputs-of-text s M e ∙ ap (λ (ls : List Line). concat (map outputs_of_line ls)) (lines_start s))) h))
  where
    size : count ≡ length M.definitions
    size = sym c ∙ ap length i ∙ length-map M.definitions (λ (d : Definition). d.name)

    go : (r : Result (Unit {0}) Refusal) → ListMarked (names_of M.definitions) M.outputs before after r → OutputsMarked d M after r
    go (Ok _) p = (p.0, p.1.rows d (λ w. false) M.definitions refl (ap (λ (k : ℕ). take (node_place k) before) (sym size) ∙ b))
    go (Err w) p = p
