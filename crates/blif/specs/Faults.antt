-- Document 02, U3: which line decides, said apart from how it is found. `proofs/FirstFaults.antt`: the lines end so and in no other way.
use Rattle.std.specs.Prelude.{ℕ, ◌≡◌}
use mathlib.Core.List.{List, [], ◌∷◌, ◌++◌, Memᴰ}
use Rattle.maps.specs.Lists.{All}
use Rattle.blif.specs.Words.{Line}
use Rattle.blif.specs.Subset.{Stage, last, Statement, stage_after}
use Rattle.blif.specs.Names.{Definition, names_of, OutputName}
use Rattle.blif.specs.Model.{Model, extend, Found, found, faulty}
use Rattle.blif.specs.Grounds.{GroundOf, Right}

-- the lines are without fault, and lead from one stage and model to another
pub data Faultless : Stage → Model → List Line → Stage → Model → Type 0 where
  done : {at : Stage} {M : Model} → Faultless at M [] at M
  line : {at to : Stage} {M N : Model} {l : Line} {ls : List Line} (s : Statement)
      → Right at M l.words s
      → Faultless (stage_after at s) (extend M l.number s) ls to N
      → Faultless at M (l ∷ ls) to N

-- "the first faulty line decides": the lines before it are without fault, and it is refused on this ground; "Place: the line"
pub record FirstFault (at : Stage) (M : Model) (ls : List Line) (k p : ℕ) : Type 0 where
  pub before : List Line
  pub here : Line
  pub after : List Line
  pub split : ls ≡ before ++ (here ∷ after)
  pub stage : Stage
  pub model : Model
  pub fine : Faultless at M before stage model
  pub ground_is : GroundOf stage model here.words k
  pub place : here.number ≡ p

-- how lines end, from a stage and a model on
pub data Ending (past : ℕ) (at : Stage) (M : Model) (ls : List Line) : Found → Type 0 where
  -- no line is faulty, and `.end` was there
  with-model : {N : Model} → Faultless at M ls last N → Ending past at M ls (found N)
  with-fault : {k p : ℕ} → FirstFault at M ls k p → Ending past at M ls (faulty k p)
  -- "A missing `.end` is 9, one line past the last"
  without_end : {k p : ℕ} {stage : Stage} {N : Model} → Faultless at M ls stage N → (stage ≡ last → ⊥) → k ≡ 9 → p ≡ past → Ending past at M ls (faulty k p)

-- a name put out is one that is defined
abbrev pub Answered : List Definition → OutputName → Type 0
Answered ds o = Memᴰ o.name (names_of ds)

-- "put out without definition", the first such in the text: the names put out before it are defined, and it is not
pub record FirstUndefined (ds : List Definition) (os : List OutputName) (o : OutputName) : Type 0 where
  pub before : List OutputName
  pub after : List OutputName
  pub split : os ≡ before ++ (o ∷ after)
  pub answered : All (Answered ds) before
  pub undefined : Answered ds o → ⊥
