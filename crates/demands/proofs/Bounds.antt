-- Every number is one of 0 to 8 or 12, and no plan is longer than `plan_most`.
use Prim.Native.Nat.{ℕ, ◌*◌, ◌≤◌, ◌<◌}
use mathlib.Core.Path.{◌≡◌, refl}
use mathlib.Core.Bool.{Bool, true, false, cond, ◌&&◌}
use mathlib.Core.List.{List, [], ◌∷◌, map, Memᴰ}
use mathlib.Core.Logic.{◌⊎◌, inl, inr}
use native.Mathlib.Omega.{arith}
use native.Mathlib.Nat.{suc-mul, mul-le-mul_right}
use lib.ListN.{length, length-append, length-map}
use Rattle.maps.specs.Lists.{All, mem, below, concat}
use Rattle.maps.specs.Label.{Label}
use Rattle.maps.specs.Sheet.{Sheet, size}
use Rattle.maps.specs.Cut.{logic_node}
use Rattle.maps.specs.Legal.{Legal, plan_latency}
use Rattle.maps.specs.Least.{at}
use Rattle.maps.specs.Cover.{chosen_cut, carrying_cuts, used}
use Rattle.maps.specs.Limits.{leaves_range, top_range, horizon_range, size_range, mark_range, id_range}
use Rattle.maps.specs.Number.{Bytes, encoded, bytes_for}
use Rattle.maps.specs.Sizes.{id_bytes_most, row_bytes_most, plan_most}
use Rattle.maps.specs.Plan.{leaves_of, row, plan}
use Rattle.maps.specs.WellFormed.{WellFormed}
use Rattle.maps.proofs.Member.{All-of, All-map, below_out}
use Rattle.maps.proofs.Over.{length_over}
use Rattle.maps.proofs.Chosen.{best-in, carrying-sound}
use Rattle.maps.specs.Outcome.{accepted, refusal, outcome, outcome_number}
use Rattle.maps.proofs.Planned.{ordered, latency-in-time}
use Rattle.maps.proofs.UsedNodes.{chosen-below}
use Rattle.maps.proofs.WrittenSize.{plan-most, within-bytes}
use Rattle.maps.proofs.Refusing.{refuses-number}
use Rattle.demands.specs.Bounds.{Bounded}
use Rattle.demands.specs.Demands.{Ground, unread, uncut, never, too_late, windowed, too_short, planned}
use Rattle.demands.proofs.Demands.{ground-of}

-- lists of at most b elements each, one after the other
concat-length : {A B : Type 0} (f : A → List B) (b : ℕ) (xs : List A) → All (λ x. length (f x) ≤ b) xs → length (concat (map f xs)) ≤ length (map f xs) * b
concat-length f b [] h = omega arith
concat-length f b (x ∷ xs) h = omega (arith, suc-mul (length (map f xs)) b, length-append (f x) (concat (map f xs)), h.0, concat-length f b xs h.1)

-- the chosen cut fits, and where there is none its list is empty
chosen-few : (S : Sheet) (L : List Label) (v : ℕ) → logic_node S v ≡ true → length (chosen_cut S L v) ≤ S.leaves
chosen-few S L v i = go (best-in (carrying_cuts S L v))
  where
    go : (carrying_cuts S L v ≡ []) ⊎ Memᴰ (chosen_cut S L v) (carrying_cuts S L v) → length (chosen_cut S L v) ≤ S.leaves
    go (inl e) = rw e (omega arith)
    go (inr m) = (carrying-sound S L v i (chosen_cut S L v) m).0.fits

-- as many leaves as K, each an id
leaves-few : (S : Sheet) (L : List Label) (us : List ℕ) (v : ℕ) → length (leaves_of S L us v) ≤ S.leaves
leaves-few S L us v = go (mem v us) (logic_node S v) refl
  where
    go : (a b : Bool) → logic_node S v ≡ b → length (cond (a && b) (chosen_cut S L v) []) ≤ S.leaves
    go true true i = chosen-few S L v i
    go true false i = omega arith
    go false b i = omega arith

leaves-below : (S : Sheet) → WellFormed S → (L : List Label) (us : List ℕ) (v : ℕ) → All (λ u. u < v) (leaves_of S L us v)
leaves-below S well L us v = go (mem v us) (logic_node S v) refl
  where
    go : (a b : Bool) → logic_node S v ≡ b → All (λ u. u < v) (cond (a && b) (chosen_cut S L v) [])
    go true true i = All-of _ (chosen_cut S L v) (λ u m. chosen-below S (ordered S well) L v u i m)
    go true false i = tt
    go false b i = tt

module _ (S : Sheet) (well : WellFormed S) (L : List Label) (ok : Legal S (at L) S.horizon) where
  -- the row of a node: step, level, mark, leaf count, leaves
  row-length : (us : List ℕ) (v : ℕ) → v < size S → length (row S L us v) ≤ row_bytes_most
  row-length us v l =
      let ls = leaves_of S L us v in
      let few : length ls ≤ leaves_range.high = omega (arith, leaves-few S L us v, well.leaves.most) in
      let low : All (λ u. u ≤ (id_range size_range.high).high) ls = All-map (λ u h. omega (arith, well.size.most)) ls (leaves-below S well L us v) in
      let leaves = rw (length-map ls encoded) at (concat-length encoded id_bytes_most ls (All-map (λ u h. within-bytes h) ls low)) in
      let most = mul-le-mul_right id_bytes_most few in
      let count = within-bytes few in
      let level = within-bytes {n = (at L v).level} {most = top_range.high} (omega (arith, (ok.nodes v l).high, well.top.most)) in
      let mark = mark-length (mem v us) in
      let step = within-bytes {n = (at L v).step} {most = horizon_range.high} (omega (arith, (ok.nodes v l).ends, well.horizon.most)) in
      simp length-append (omega arith)
    where
      mark-length : (b : Bool) → bytes_for (cond b 1 0) ≤ bytes_for mark_range.high
      mark-length true = within-bytes (omega arith)
      mark-length false = within-bytes (omega arith)

  pub plan-length : length (plan S L) ≤ plan_most
  unfolding plan
  plan-length =
      let rows = concat-length (row S L (used S L)) row_bytes_most (below (size S)) (All-of _ (below (size S)) (λ v m. row-length (used S L) v (below_out (size S) v m))) in
      let latency = within-bytes {n = plan_latency S (at L)} {most = horizon_range.high} (omega (arith, latency-in-time S (at L) S.horizon ok, well.horizon.most)) in
      let n = length_over (row S L (used S L)) [] (size S) in
      let most = mul-le-mul_right row_bytes_most well.size.most in
      simp length-append (omega arith)

module _ (bytes : List ℕ) (room : ℕ) where
  number-among : {k p : ℕ} → Ground bytes room k p → (k ≤ 8) ⊎ (k ≡ 12)
  number-among (unread k p f) = inl (omega (arith, (refuses-number f).1))
  number-among (uncut S v f h) = inl (omega arith)
  number-among (never S f a o h) = inr refl
  number-among (too_late S f a o h) = inl (omega arith)
  number-among (windowed S f a o h) = inl (omega arith)
  number-among (too_short S L f a h l) = inl (omega arith)
  number-among (planned S L f a h l) = inl (omega arith)

  place-most : {k p : ℕ} → Ground bytes room k p → (k ≡ 0) ⊎ (k ≡ 8) → p ≤ plan_most
  place-most (unread k p f) (inl e) = absurd (omega (arith, (refuses-number f).0))
  place-most (unread k p f) (inr e) = absurd (omega (arith, (refuses-number f).1))
  place-most (uncut S v f h) (inl e) = absurd (omega arith)
  place-most (uncut S v f h) (inr e) = absurd (omega arith)
  place-most (never S f a o h) e = omega arith
  place-most (too_late S f a o h) e = omega arith
  place-most (windowed S f a o h) e = omega arith
  place-most (too_short S L f a h l) e = plan-length S f.well L h.is_least.legal
  place-most (planned S L f a h l) e = plan-length S f.well L h.is_least.legal

  room-less : {k p : ℕ} → Ground bytes room k p → k ≡ 8 → room < p
  room-less (unread k p f) e = absurd (omega (arith, (refuses-number f).1))
  room-less (uncut S v f h) e = absurd (omega arith)
  room-less (never S f a o h) e = absurd (omega arith)
  room-less (too_late S f a o h) e = absurd (omega arith)
  room-less (windowed S f a o h) e = absurd (omega arith)
  room-less (too_short S L f a h l) e = l
  room-less (planned S L f a h l) e = absurd (omega arith)

  pub bounded : {k p : ℕ} → Ground bytes room k p → Bounded room k p
  bounded g =
      record {
        numbers = number-among g;
        written = λ e. omega (arith, plan-most, place-most g (inl e));
        wanted = λ e. omega (arith, plan-most, place-most g (inr e));
        enough = λ l e. omega (arith, plan-most, room-less g e, place-most g (inr e));
      }

  -- the same of the defined outcome
  module _ (b : Bytes bytes) where
    pub outcome-number : (outcome_number (outcome bytes room) ≤ 8) ⊎ (outcome_number (outcome bytes room) ≡ 12)
    outcome-number = number-among (ground-of bytes room b)

    pub written-most : (p : List ℕ) → outcome bytes room ≡ accepted p → length p ≤ plan_most
    written-most p e = place-most (rw e at (ground-of bytes room b)) (inl refl)

    pub wanted-most : (k : ℕ) → outcome bytes room ≡ refusal 8 k → k ≤ plan_most
    wanted-most k e = place-most (rw e at (ground-of bytes room b)) (inr refl)

    pub enough : plan_most ≤ room → (k : ℕ) → outcome bytes room ≡ refusal 8 k → ⊥
    enough l k e = let g = rw e at (ground-of bytes room b) in omega (arith, room-less g refl, place-most g (inr refl))
