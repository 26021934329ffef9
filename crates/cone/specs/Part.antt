-- What the walk's table `part` holds.
use Rattle.std.specs.Prelude.{ℕ, ◌+◌, ◌≤◌, ◌<◌, ◌≡◌, Bool, true, false, cond, List, eqb, length, get_or}
use Rattle.maps.specs.Lists.{mem, keep, below}
use Rattle.maps.specs.Sheet.{Sheet, node, size}
use Rattle.rows.specs.Table.{Tabled, Falling}
use Rattle.cone.specs.declared.Part.{Part}
use Rattle.cone.specs.declared.Part.TheVariants.{Unmet, Member, Leaf}
use Rattle.cone.specs.Walk.{marked, Question}
use Rattle.cone.specs.Looks.{look, look_all, looks, leaves_met, Stops}

-- what the walk of v has met of u after the operands t
abbrev pub part_of : (marked : ℕ → Bool) → (v : ℕ) → (t : List ℕ) → ℕ → Part
part_of marked v t u = cond (eqb u v) Member (cond (mem u t) (cond (marked u) Member Leaf) Unmet)

abbrev pub is_leaf : Part → Bool
is_leaf Unmet = false
is_leaf Member = false
is_leaf Leaf = true

-- what a visit of u rests on
pub record Lent (g : List ℕ) (part : List Part) (u : ℕ) : Type 0 where
  pub falling : Falling g
  pub node : u < 256
  pub wide : length part ≡ 256

-- the walk of v has looked at the operands t: `part` says so, and `spare` more leaves make the cut too wide for k
pub record Walking (S : Sheet) (g : List ℕ) (marked : ℕ → Bool) (v k : ℕ) (t : List ℕ) (part : List Part) (spare : ℕ) : Type 0 where
  pub tabled : Tabled S g
  pub within : v < size S
  pub table : (u : ℕ) → u < 256 → get_or part u Unmet ≡ part_of marked v t u
  pub spared : spare + leaves_met S marked t ≡ k + 1

-- the walk was to look at the operands `whole`, and has ended after the operands t
pub record Ended (S : Sheet) (g : List ℕ) (marked : ℕ → Bool) (v k : ℕ) (whole t : List ℕ) (part : List Part) (spare : ℕ) : Type 0 where
  pub stops : Stops S marked k whole t
  pub walking : Walking S g marked v k t part spare

-- from p to p', with r leaves spare then: what holds in every walk that has come to p, of whatever sheet and v it is.
-- E says how many operands were looked at before, and E' how many are after
module _ (g : List ℕ) (marks : List Bool) (p p' : List Part) (E E' : ℕ → Type 0) (spare r : ℕ) where
  -- u is looked at, and what follows from it; u is counted already
  abbrev pub VisitEnds : (u : ℕ) → Type 0
  VisitEnds u =
      (S : Sheet) (v k n : ℕ) (t : List ℕ) → u < n → n ≤ v → Walking S g (marked marks) v k t p spare → E (length t + 1)
      → (o : List ℕ) × Ended S g (marked marks) v k (look S (marked marks) n t u) o p' r × E' (length o)

  -- the operands of u are
  abbrev pub OperandsEnd : (u : ℕ) → Type 0
  OperandsEnd u =
      (S : Sheet) (v k n : ℕ) (t : List ℕ) → u ≤ n → n ≤ v → Walking S g (marked marks) v k t p spare → E (length t)
      → (o : List ℕ) × Ended S g (marked marks) v k (look_all S (marked marks) n t (node S u).operands) o p' r × E' (length o)

-- the walk of v that k + 1 leaves end has led to p, with r leaves spare; E says how many operands it has looked at
abbrev pub WalkEnds : (g : List ℕ) → (marks : List Bool) → (v spare : ℕ) → (p : List Part) → (E : ℕ → Type 0) → (r : ℕ) → Type 0
WalkEnds g marks v spare p E r =
    (S : Sheet) (k : ℕ) → Question S g marks v → spare ≡ k + 1 → (o : List ℕ) × Ended S g (marked marks) v k (looks S (marked marks) v) o p r × E (length o)

-- the leaves below v, ascending
unfoldable pub leaves_below : (part : List Part) → (v : ℕ) → List ℕ
leaves_below p v = keep (λ u. is_leaf (get_or p u Unmet)) (below v)
