-- What the functions of the cover answer.
use Rattle.std.specs.Prelude.{ℕ, ◌≤◌, ◌<◌, ◌≡◌, Bool, true, false, ◌||◌, List, eqb, length, get_or, take}
use Rattle.maps.specs.Lists.{All, mem}
use Rattle.maps.specs.Label.{Label}
use Rattle.maps.specs.Limits.{leaves_range}
use Rattle.maps.specs.Sheet.{Sheet, size, is_box}
use Rattle.maps.specs.Cut.{logic_node}
use Rattle.maps.specs.Legal.{CarryingCut}
use Rattle.maps.specs.Least.{at}
use Rattle.maps.specs.Cover.{used_below, used, chosen_cut}
use Rattle.maps.specs.Plan.{leaves_of}
use Rattle.rows.specs.Table.{kind_at, mark_in}
use Rattle.rows.specs.declared.Header as R
use Rattle.bound.specs.Lookup.{labels_in, Beside, count_of}
use Rattle.bound.specs.Going.{Given}
use Rattle.cover.specs.Cover.{row_of}

-- v is an output, a box, or marked
abbrev pub used_in : (graph : List ℕ) (marks : List Bool) → ℕ → Bool
used_in graph marks v = eqb (mark_in graph v) 1 || (is_box (kind_at graph v) || get_or marks v false)

-- the nodes of a row are marked, besides those that were
pub record MarkedAll (row : List ℕ) (marks more : List Bool) : Type 0 where
  pub wide : length more ≡ 256
  pub each : (u : ℕ) → u < 256 → get_or more u false ≡ (mem u row || get_or marks u false)

-- r of the numbers of cut are kept: ids, at most k of them, and all that were found where these are
pub record SoundCount (cut : List ℕ) (found k r : ℕ) : Type 0 where
  pub few : r ≤ k
  pub ids : (j : ℕ) → j < r → get_or cut j 0 < 256
  pub all : found ≤ k → ((j : ℕ) → j < found → get_or cut j 0 < 256) → r ≡ found

-- the row of v is one that can be written, and every other row is as it was
pub record Written (v : ℕ) (cuts more : List ℕ) : Type 0 where
  pub wide : length more ≡ 2048
  pub few : count_of more v ≤ leaves_range.high
  pub ids : All (λ u. u < 256) (row_of more v)
  pub beside : Beside v cuts more

-- the tables are those of S, and each logic node has a cut that carries its label
pub record Laid (S : Sheet) (graph steps levels : List ℕ) (limits : R.Header) : Type 0 where
  pub differences : List ℕ
  pub given : Given S graph differences limits
  pub carried : (v : ℕ) → v < size S → logic_node S v ≡ true → CarryingCut S (at (labels_in (size S) steps levels)) v

-- the first r numbers of cut are the chosen cut of v
pub record Picked (S : Sheet) (L : List Label) (v k r : ℕ) (cut : List ℕ) : Type 0 where
  pub few : r ≤ k
  pub chosen : take r cut ≡ chosen_cut S L v

-- the cover from node v on: marked is what its nodes make used, and their rows stand
pub record CoverFrom (S : Sheet) (L : List Label) (v : ℕ) (marks : List Bool) (cuts : List ℕ) : Type 0 where
  pub needed : List ℕ
  pub rest : used_below S L v needed ≡ used S L
  pub marked : (u : ℕ) → u < 256 → get_or marks u false ≡ mem u needed
  pub rows : (w : ℕ) → v ≤ w → w < size S → row_of cuts w ≡ leaves_of S L needed w
  pub blank : (w : ℕ) → w < v → count_of cuts w ≡ 0
