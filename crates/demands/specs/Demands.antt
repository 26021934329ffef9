-- The customer's three demands, of one planning call: the sheet's bytes, the buffer as it was lent and as it is after the call, and the number
-- and place that are answered. That every call ends is part of every proof.
use Rattle.std.specs.Prelude.{ℕ, ◌≤◌, ◌<◌, ◌≡◌, true, List, [], ◌⊎◌, length, take, drop}
use Rattle.maps.specs.Lists.{mem}
use Rattle.maps.specs.Label.{Label}
use Rattle.maps.specs.Sheet.{Sheet, size}
use Rattle.maps.specs.Cut.{FittingCut, logic_node}
use Rattle.maps.specs.Legal.{Legal, NoneLegal, Never, Longer, Least, plan_latency}
use Rattle.maps.specs.Least.{at}
use Rattle.maps.specs.Cover.{Chosen, Used, used}
use Rattle.maps.specs.Plan.{leaves_of, plan}
use Rattle.maps.specs.Reading.{ReadsAs, Refuses}

-- document 02, U8: a sheet "with entries" has one window or more, whatever it closes
abbrev pub NoEntries : Sheet → Type 0
NoEntries S = S.windows ≡ []

abbrev pub Entries : Sheet → Type 0
Entries S = NoEntries S → ⊥

-- each logic node has a fitting cut
abbrev pub AllCut : Sheet → Type 0
AllCut S = (v : ℕ) → v < size S → logic_node S v ≡ true → (c : List ℕ) × FittingCut S v c

-- "a logic node has no fitting cut; place: the lowest such id"
pub record LowestCutless (S : Sheet) (v : ℕ) : Type 0 where
  pub node : v < size S
  pub is_logic : logic_node S v ≡ true
  pub none : (c : List ℕ) → FittingCut S v c → ⊥
  pub lowest : (u : ℕ) → u < v → logic_node S u ≡ true → (c : List ℕ) × FittingCut S u c

-- one label for each node, and they are "the least legal ones"
pub record LeastLabels (S : Sheet) (L : List Label) : Type 0 where
  pub sized : length L ≡ size S
  pub is_least : Least S S.horizon (at L)

-- "the number and place of the papers": what holds of the sheet, and of a buffer of `room` bytes, where they are answered
pub data Ground (bytes : List ℕ) (room : ℕ) : (number place : ℕ) → Type 0 where
  -- "Every malformed sheet": 1 to 5
  unread : (k p : ℕ) → Refuses bytes k p → Ground bytes room k p
  -- "every logic node without a fitting cut"
  uncut : (S : Sheet) (v : ℕ) → ReadsAs bytes S → LowestCutless S v → Ground bytes room 6 v
  -- "every sheet without legal labels": under any horizon, or within its own where "some larger horizon .. would satisfy" it; "For a sheet with
  -- entries 7 covers both kinds of late sheet and 12 is not given"
  never : (S : Sheet) → ReadsAs bytes S → AllCut S → NoEntries S → Never S → Ground bytes room 12 0
  too_late : (S : Sheet) → ReadsAs bytes S → AllCut S → NoEntries S → Longer S → Ground bytes room 7 0
  windowed : (S : Sheet) → ReadsAs bytes S → AllCut S → Entries S → NoneLegal S S.horizon → Ground bytes room 7 0
  -- "every short buffer"
  too_short : (S : Sheet) (L : List Label) → ReadsAs bytes S → AllCut S → LeastLabels S L → room < length (plan S L)
      → Ground bytes room 8 (length (plan S L))
  -- "Every other sheet is planned"
  planned : (S : Sheet) (L : List Label) → ReadsAs bytes S → AllCut S → LeastLabels S L → length (plan S L) ≤ room
      → Ground bytes room 0 (length (plan S L))

-- the marks and leaves of the plan of labels L: a node is marked exactly if it is used, a used logic node has its chosen cut, and any other
-- node no leaf
pub record Covers (S : Sheet) (L : List Label) : Type 0 where
  pub marked : (v : ℕ) → Used S (at L) v → mem v (used S L) ≡ true
  pub marked_only : (v : ℕ) → mem v (used S L) ≡ true → Used S (at L) v
  pub chosen : (v : ℕ) → Used S (at L) v → logic_node S v ≡ true → Chosen S (at L) v (leaves_of S L (used S L) v)
  pub leafless : (v : ℕ) → (Used S (at L) v → logic_node S v ≡ true → ⊥) → leaves_of S L (used S L) v ≡ []

module _ (bytes buffer : List ℕ) (number place : ℕ) (after : List ℕ) where
  -- "1. Every malformed sheet, every logic node without a fitting cut, every sheet without legal labels and every short buffer is refused with
  -- the number and place of the papers, and no lent byte changes. Every other sheet is planned; every call ends."
  -- What is answered holds, whatever holds is answered, bytes that read as no sheet get a number from 1 to 5, and any number but 0 leaves the buffer as it
  -- was.
  pub record Demand1 : Type 0 where
    pub holds : Ground bytes (length buffer) number place
    pub said : (k p : ℕ) → Ground bytes (length buffer) k p → (number ≡ k) × (place ≡ p)
    pub malformed : ((S : Sheet) → ReadsAs bytes S → ⊥) → (1 ≤ number) × (number ≤ 5)
    pub untouched : (number ≡ 0 → ⊥) → after ≡ buffer

  -- the first `place` bytes of the buffer are the plan of labels that are legal within H, with their latency, the used nodes and the chosen cuts;
  -- the other bytes are as they were
  pub record Planned : Type 0 where
    pub held : Sheet
    pub reads : ReadsAs bytes held
    pub labels : List Label
    pub sized : length labels ≡ size held
    pub legal : Legal held (at labels) held.horizon
    pub covers : Covers held labels
    pub counted : place ≡ length (plan held labels)
    pub fits : place ≤ length buffer
    pub written : take place after ≡ plan held labels
    pub kept : drop place after ≡ drop place buffer

  -- "2. Labels, latency, used nodes and cuts of every plan obey the MAPS conditions of document 01, and its bytes are exactly the ones laid down
  -- there."
  abbrev pub Demand2 : Type 0
  Demand2 = number ≡ 0 → Planned

  -- "the labels written are legal and at every node no later than in any other legal labelling of any horizon, the latency likewise; and each used
  -- table has a cut of at most K leaves that carries its label, with as few leaves as any such cut": where the number is 0, of the bytes written;
  -- where it is 8, of the plan whose length is the place
  pub record LeastPlan (S : Sheet) : Type 0 where
    pub labels : List Label
    pub least : LeastLabels S labels
    -- among outputs: "the least latency of demand 3 is meant in this sense" (document 02, U7)
    pub latency : (M : ℕ → Label) (G : ℕ) → Legal S M G → plan_latency S (at labels) ≤ plan_latency S M
    pub covers : Covers S labels
    pub answered : (number ≡ 0) ⊎ (number ≡ 8)
    pub counted : place ≡ length (plan S labels)
    pub written : number ≡ 0 → take place after ≡ plan S labels

  -- "To be refused for time means either one": 7 or 12
  abbrev pub ForTime : Type 0
  ForTime = (number ≡ 7) ⊎ (number ≡ 12)

  -- "refused for time exactly when no legal labelling lies within its horizon. Otherwise .."; by document 02, U6, without entries 12 exactly when none
  -- lies within any horizon, and 7 exactly when none lies within its own and one within a larger; by U8, with entries 7 alone
  pub record InTime (S : Sheet) : Type 0 where
    pub late : NoneLegal S S.horizon → ForTime
    pub late_only : ForTime → NoneLegal S S.horizon
    pub never : NoEntries S → Never S → number ≡ 12
    pub never_only : number ≡ 12 → NoEntries S × Never S
    pub longer : NoEntries S → Longer S → number ≡ 7
    pub longer_only : NoEntries S → number ≡ 7 → Longer S
    pub windowed : Entries S → ForTime → number ≡ 7
    pub otherwise : (ForTime → ⊥) → LeastPlan S

  -- "3. A sheet that reads and whose logic nodes all have a fitting cut (all such cuts counting, however many) is refused for time exactly when no
  -- legal labelling lies within its horizon. Otherwise .."
  abbrev pub Demand3 : Type 0
  Demand3 = (S : Sheet) → ReadsAs bytes S → AllCut S → InTime S
