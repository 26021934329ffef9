-- A line that was read, and the lines one after the other.
use Prim.Native.Nat.{ℕ, ◌+◌, ◌≤◌, ◌<◌}
use mathlib.Core.Path.{◌≡◌, refl, sym, ap, ◌∙◌}
use mathlib.Core.Bool.{Bool, true, false, cond, not}
use mathlib.Core.List.{List, [], ◌∷◌, ◌++◌}
use native.Mathlib.Omega.{arith}
use Rattle.std.specs.Prelude.{Ok, Err}
use lib.ListN.{length, take, drop}
use Rattle.types.specs.Code.{number_of, place_of}
use Rattle.types.specs.declared.Refusal.{Refusal}
use Rattle.blif.specs.Lines.{lines, joined}
use Rattle.blif.specs.Words.{Word, Line, with_words, word_lines}
use Rattle.blif.specs.Scan.{newlines, words_at, past_line}
use Rattle.blif.specs.Subset as Subset
use Rattle.blif.specs.Subset.{Statement, statement, stage_after, first}
use Rattle.blif.specs.Names.{defined, names_of, resolves}
use Rattle.blif.specs.Limits.{within_limits}
use Rattle.blif.specs.Model.{Model, faulty, empty, extend, is_outside, fault, judged, ended, model_from, model_of}
use Rattle.blif.proofs.Positions.{lines_at, lines_end, lines_start}
use Rattle.blif.proofs.Walking.{words-rest}
use Rattle.subset.specs.declared.Stage.{Stage}
use Rattle.subset.specs.Meant.{stage_meant}
use Rattle.names.specs.Table.{names_in}
use Rattle.names.specs.declared.Names.{Names}
use Rattle.grounds.specs.Ground.{ground_number, fault_after}
use Rattle.grounds.specs.declared.Ground.{Ground}
use Rattle.grounds.specs.declared.Ground.TheVariants as Is
use Rattle.definitions.specs.Kept.{Kept, KeptIn, Lawful}
use Rattle.definitions.specs.declared.Circuit.{Circuit}
use Rattle.definitions.proofs.Keeping.{kept-size}
use Rattle.model.specs.Turns.{line_then, Turned, LinesRead, LastStage, ModelRead}

module _ (text : List ℕ) (d at : ℕ) (stage : Stage) (M : Model) where
  -- a line without a word leaves all as it is
  pub turn-empty : (c : Circuit) → words_at text at ≡ [] → KeptIn d M.definitions c → Turned text d at stage M c (Ok stage)
  turn-empty c e k = (
    M,
    k,
    λ past ls. ap (λ (ws : List Word). model_from past (stage_meant stage) M (with_words (1 + newlines (take at text)) ws ls)) e,
  )

  module _ (w : Word) (ws : List Word) (e : words_at text at ≡ w ∷ ws) where
    judge : (past : ℕ) (ls : List Line) → line_then text d at stage M past ls
        ≡ judged (fault M (statement (stage_meant stage) (w ∷ ws))) (1 + newlines (take at text))
        (model_from past (stage_after (stage_meant stage) (statement (stage_meant stage) (w ∷ ws))) (extend M (1 + newlines (take at text)) (statement (stage_meant stage) (w ∷ ws))) ls)
    unfolding model_from
    judge past ls = ap (λ (ws : List Word). model_from past (stage_meant stage) M (with_words (1 + newlines (take at text)) ws ls)) e

    -- a line without fault
    pub turn-next : (c : Circuit) (next : Stage) → fault M (statement (stage_meant stage) (w ∷ ws)) ≡ 0
        → stage_meant next ≡ stage_after (stage_meant stage) (statement (stage_meant stage) (w ∷ ws))
        → KeptIn d (M.definitions ++ defined (statement (stage_meant stage) (w ∷ ws))) c
        → Turned text d at stage M c (Ok next)
    turn-next c next f g k =
        (extend M (1 + newlines (take at text)) (statement (stage_meant stage) (w ∷ ws)), k, λ past ls. judge past ls ∙ rw (f, g) refl)

    -- and one with a fault
    pub turn-refused : (why : Refusal) (g : Ground) → number_of why ≡ ground_number (Err g) → place_of why ≡ 1 + newlines (take at text)
        → fault M (statement (stage_meant stage) (w ∷ ws)) ≡ ground_number (Err g) → (past : ℕ) (ls : List Line) → line_then text d at stage M past ls ≡ faulty (number_of why) (place_of why)
    turn-refused why Is.Subset n p f past ls = judge past ls ∙ rw (f, n, p) refl
    turn-refused why Is.Name n p f past ls = judge past ls ∙ rw (f, n, p) refl
    turn-refused why Is.Limit n p f past ls = judge past ls ∙ rw (f, n, p) refl

module _ {names : Names} {nodes operands : List ℕ} {d n u : ℕ} (M : Model) (k : Kept d M.definitions names nodes operands n u) where
  same-fault : (s : Statement) → fault_after (names_in names n) n s ≡ fault M s
  same-fault s =
      ap (λ (ns : List Word). fault_after ns n s) k.named ∙ ap (λ (m : ℕ). fault_after (names_of M.definitions) m s) (sym (kept-size k))

  -- the ground that is found by the names and nodes that are kept is the line's
  pub found-fault : (g : ℕ) (s t : Statement) → g ≡ fault_after (names_in names n) n s → s ≡ t → fault M t ≡ g
  found-fault g s t e r = ap (fault M) (sym r) ∙ sym (same-fault s) ∙ sym e

  -- a line without a ground is lawful
  pub good-lawful : (s : Statement) → 0 ≡ fault_after (names_in names n) n s → Lawful M.definitions s
  good-lawful s e = go (is_outside s) (resolves (names_of M.definitions) (defined s)) (within_limits (length M.definitions) s) refl refl (found-fault 0 s s e refl)
    where
      go : (a b c : Bool) → resolves (names_of M.definitions) (defined s) ≡ b → within_limits (length M.definitions) s ≡ c → ◌≡◌ {A = ℕ} (cond a 9 (cond (not b) 10 (cond c 0 11))) 0 → Lawful M.definitions s
      go true b c p q f = absurd (omega (arith, f))
      go false false c p q f = absurd (omega (arith, f))
      go false true false p q f = absurd (omega (arith, f))
      go false true true p q f = record { resolved = p; limited = q }

-- the lines with words from a position on
abbrev pub lines_from : (text : List ℕ) → (at : ℕ) → List Line
lines_from text at = word_lines (joined (1 + newlines (take at text)) (lines (drop at text)))

-- how far reading has come: what is kept, and the lines from here on, decide the model
pub record Reached (text : List ℕ) (d at : ℕ) (c : Circuit) (stage : Stage) : Type 0 where
  pub model : Model
  pub kept : KeptIn d model.definitions c
  pub rest : model_of text ≡ model_from (length (lines text) + 1) (stage_meant stage) model (lines_from text at)

pub reach-first : (text : List ℕ) (d : ℕ) (c : Circuit) (stage : Stage) → stage_meant stage ≡ first → KeptIn d [] c → Reached text d 0 c stage
unfolding model_of
reach-first text d c stage f k =
    record {
      model = empty;
      kept = k;
      rest = rw f (ap (model_from (length (lines text) + 1) first empty) (lines_start text));
    }

module _ (text : List ℕ) (d at next : ℕ) (l : at < length text) (e : drop next text ≡ past_line (drop at text)) (c : Circuit) (stage : Stage) (r : Reached text d at c stage) where
  step : model_of text ≡ line_then text d at stage r.model (length (lines text) + 1) (lines_from text next)
  step =
      r.rest ∙ ap (model_from (length (lines text) + 1) (stage_meant stage) r.model) (lines_at text at next l e)
      ∙ ap (λ (ws : List Word). model_from (length (lines text) + 1) (stage_meant stage) r.model (with_words (1 + newlines (take at text)) ws (lines_from text next))) (sym (words-rest text at))

  pub reach-next : (after : Circuit) (u : Stage) → Turned text d at stage r.model after (Ok u) → Reached text d next after u
  reach-next after u n = record { model = n.0; kept = n.1; rest = step ∙ n.2 (length (lines text) + 1) (lines_from text next) }

  pub reach-fault : (after : Circuit) (w : Refusal) → Turned text d at stage r.model after (Err w) → LinesRead text d after (Err w)
  reach-fault after w h = step ∙ h (length (lines text) + 1) (lines_from text next)

pub reach-last : (text : List ℕ) (d at : ℕ) (c : Circuit) (stage : Stage) → length text ≤ at → Reached text d at c stage → LinesRead text d c (Ok stage)
unfolding model_from
reach-last text d at c stage l r =
    (r.model, r.kept, r.rest ∙ ap (model_from (length (lines text) + 1) (stage_meant stage) r.model) (lines_end text at (1 + newlines (take at text)) l))

-- how the lines end: `.end` was there, or it is missing
module _ (text : List ℕ) (d : ℕ) (c : Circuit) (stage : Stage) (n : LinesRead text d c (Ok stage)) where
  pub ends_read : LastStage (stage_meant stage) true → ModelRead text d c (Ok tt)
  ends_read l = (n.0, n.1, n.2 ∙ ap (λ (g : Subset.Stage). ended (length (lines text) + 1) g n.0) l)

  pub ends-missing : LastStage (stage_meant stage) false → model_of text ≡ faulty 9 (length (lines text) + 1)
  ends-missing l = n.2 ∙ go n.0 (stage_meant stage) l
    where
      go : (N : Model) (g : Subset.Stage) → (g ≡ Subset.last → ⊥) → ended (length (lines text) + 1) g N ≡ faulty 9 (length (lines text) + 1)
      go N Subset.first l = refl
      go N Subset.head l = refl
      go N (Subset.cover n) l = refl
      go N Subset.latched l = refl
      go N Subset.last l = absurd (l refl)
