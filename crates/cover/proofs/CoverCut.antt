-- The chosen cut of a logic node: what the search answers, and the row that is written.
use Prim.Native.Nat.{ℕ, ◌+◌, ◌≤◌, ◌<◌}
use mathlib.Core.Path.{◌≡◌, refl, sym, subst, ap, ◌∙◌}
use mathlib.Core.Bool.{Bool, true}
use mathlib.Core.List.{List, Memᴰ}
use native.Mathlib.Omega.{arith}
use lib.ListN.{length, take, length-take}
use lib.Seq.{length-take-le, get_or-take}
use Rattle.std.specs.Prelude.{Option, Some, None, IfSome, unwrap_or}
use Rattle.maps.specs.Limits.{leaves_range}
use Rattle.maps.specs.Lists.{All}
use Rattle.maps.specs.Label.{Label, earliest, plus, ready, ◌≼◌}
use Rattle.maps.specs.Sheet.{Sheet, size, node, latency, clock_to_q}
use Rattle.maps.specs.Cut.{FittingCut, logic_node, cut}
use Rattle.maps.specs.Legal.{arrives, Carries}
use Rattle.maps.specs.Least.{at}
use Rattle.maps.specs.Cover.{Chosen, chosen_cut}
use Rattle.maps.proofs.Over.{get_d_over}
use Rattle.maps.proofs.Order.{leq-true, ≼-leq}
use Rattle.maps.proofs.Member.{All-map, All-at, All-of, All-get}
use Rattle.maps.proofs.Planned.{ordered}
use Rattle.maps.proofs.Chosen.{chosen_is, chosen-same}
use Rattle.maps.proofs.UsedNodes.{leaf-below}
use Rattle.rows.specs.Table.{delay_in}
use Rattle.rows.specs.declared.Header as R
use Rattle.cut.specs.Question.{AllowedCut, Fewest, Best}
use Rattle.relax.proofs.Forced.{leaf-read}
use Rattle.bound.specs.Lookup.{label_in, labels_in, arrival_in, count_of, leaf_of}
use Rattle.level.specs.Carry.{Placed}
use Rattle.level.specs.Cuts.{Stored}
use Rattle.level.proofs.LevelCodes.{in_time, arrives_in}
use Rattle.cover.specs.Cover.{row_of}
use Rattle.cover.specs.Covering.{SoundCount, Written, Laid, Picked}
use Rattle.cover.proofs.CoverMarks.{over-is, over-all}

module _ {S : Sheet} {graph steps levels : List ℕ} {limits : R.Header} (laid : Laid S graph steps levels limits) (v : ℕ) (l : v < size S) (i : logic_node S v ≡ true) where
  abbrev L : List Label
  L = labels_in (size S) steps levels

  -- u arrives at v by its label
  abbrev pub may : ℕ → Bool
  may = in_time graph steps levels v limits.top (label_in steps levels v)

  pub placed : Placed S graph v limits
  placed =
      record {
        well = laid.given.well;
        tabled = laid.given.tabled;
        node = l;
        logic = i;
        leaves = laid.given.leaves;
        tops = laid.given.top;
      }

  label_at : (u : ℕ) → u < size S → at L u ≡ label_in steps levels u
  label_at u m = get_d_over (label_in steps levels) earliest (size S) u m

  arrival-at : (u : ℕ) → u < size S → arrival_in graph steps levels limits.top (delay_in graph v) u ≡ arrives S (at L) v u
  arrival-at u m =
      arrives_in placed steps levels u (omega (arith, laid.given.well.size.most))
      ∙ ap (λ (a : Label). plus S.top (ready (latency S u) (clock_to_q S u) a) (node S v).delay) (sym (label_at u m))

  may-carries : (u : ℕ) → u < size S → may u ≡ true → arrives S (at L) v u ≼ at L v
  may-carries u m e =
      subst (λ (b : Label). arrives S (at L) v u ≼ b) (sym (label_at v l))
      (subst (λ (a : Label). a ≼ label_in steps levels v) (arrival-at u m) (leq-true e))

  carries-may : (u : ℕ) → u < size S → arrives S (at L) v u ≼ at L v → may u ≡ true
  carries-may u m h =
      ≼-leq (subst (λ (a : Label). a ≼ label_in steps levels v) (sym (arrival-at u m))
      (subst (λ (b : Label). arrives S (at L) v u ≼ b) (label_at v l) h))

  allowed : (o : List ℕ) → FittingCut S v o → Carries S (at L) v o → AllowedCut S may v o
  allowed o f k =
      record {
        cone = f.cone;
        is_cone = f.is_cone;
        is_cut = f.is_cut;
        allowed = All-of _ o (λ u m.
            carries-may u (leaf-read S f.cone u (subst (Memᴰ u) f.is_cut m)).0 (All-at (λ u. arrives S (at L) v u ≼ at L v) o k m));
      }

  chosen : (c : List ℕ) → Best S may v c → length c ≤ S.leaves → Chosen S (at L) v c
  chosen c b le =
      let a = b.is_allowed in
      record {
        fitting = record { cone = a.cone; is_cone = a.is_cone; is_cut = a.is_cut; fits = le };
        carries = All-of _ c (λ u m.
            may-carries u (leaf-read S a.cone u (subst (Memᴰ u) a.is_cut m)).0 (All-at (λ u. may u ≡ true) c a.allowed m));
        fewest = λ o f k. b.fewest o (allowed o f k);
        first = λ o f k. b.first o (allowed o f k);
      }

  -- what the search answers is the chosen cut
  pub picked : (found : Option ℕ) (numbers : List ℕ) → IfSome found (λ r. Best S may v (take r numbers)) × Fewest S may v limits.leaves (unwrap_or found (limits.leaves + 1))
      → Picked S L v limits.leaves (unwrap_or found (limits.leaves + 1)) numbers
  picked None numbers h =
      let k = laid.carried v l i in
      let c = cut S k.cone in
      let least = h.1.least c (allowed c (record { cone = k.cone; is_cone = k.is_cone; is_cut = refl; fits = k.fits }) k.carries) in
      absurd (omega (arith, least, k.fits, laid.given.leaves))
  picked (Some r) numbers h =
      let k = laid.carried v l i in
      let c = cut S k.cone in
      let least = h.1.least c (allowed c (record { cone = k.cone; is_cone = k.is_cone; is_cut = refl; fits = k.fits }) k.carries) in
      let few : r ≤ limits.leaves = omega (arith, least, k.fits, laid.given.leaves) in
      record {
        few = few;
        chosen =
            sym (chosen-same S (ordered S laid.given.well) L v (take r numbers) i
            (chosen (take r numbers) h.0 (omega (arith, length-take r numbers, laid.given.leaves))));
      }

  -- its leaves are below the node
  pub chosen-low : All (λ u. u < v) (chosen_cut S L v)
  chosen-low =
      let ord = ordered S laid.given.well in
      let f = (chosen_is S ord L v i (laid.carried v l i)).fitting in
      All-of _ (chosen_cut S L v) (λ u m. leaf-below S ord v f.cone f.is_cone u (subst (Memᴰ u) f.is_cut m))

  pub chosen-ids : (found : ℕ) (numbers : List ℕ) → Picked S L v limits.leaves found numbers → All (λ u. u < 256) (take found numbers)
  chosen-ids found numbers p =
      subst (All (λ u. u < 256)) (sym p.chosen)
      (All-map (λ u (h : u < v). omega (arith, laid.given.well.size.most)) (chosen_cut S L v) chosen-low)

  -- the row that holds what was found is the chosen cut
  pub row-chosen : (found : Option ℕ) (numbers more : List ℕ) → Picked S L v limits.leaves (unwrap_or found (limits.leaves + 1)) numbers
      → IfSome found (λ n. All (λ u. u < 256) (take n numbers) → row_of more v ≡ take n numbers) → row_of more v ≡ chosen_cut S L v
  row-chosen None numbers more p h = absurd (omega (arith, p.few))
  row-chosen (Some n) numbers more p h = h (chosen-ids n numbers p) ∙ p.chosen

-- the kept numbers stand in the row of v
pub stored_row : {numbers cuts more : List ℕ} {v r : ℕ} → r ≤ leaves_range.high → length numbers ≡ 8 → Stored numbers cuts more v r → row_of more v ≡ take r numbers
stored_row {numbers} {cuts} {more} {v} {r} few wide s =
    let c = s.counted in
    let n = length-take-le r numbers (omega arith) in
    over-is (leaf_of more v) (count_of more v) (take r numbers) (c ∙ sym n)
    (λ j m. let k : j < r = omega arith in s.leaves j k ∙ sym (get_or-take r numbers j 0 k))

-- ids that were found are all kept
pub row-found : {numbers cuts more : List ℕ} {v r : ℕ} (found : Option ℕ) → IfSome found (λ n. n ≤ leaves_range.high) → length numbers ≡ 8
    → SoundCount numbers (unwrap_or found (leaves_range.high + 1)) leaves_range.high r → Stored numbers cuts more v r
    → IfSome found (λ n. All (λ u. u < 256) (take n numbers) → row_of more v ≡ take n numbers)
row-found None le wide sound s = tt
row-found {numbers} (Some n) le wide sound s = λ ids.
    let w = length-take-le n numbers (omega arith) in
    stored_row (omega (arith, sound.few)) wide s
    ∙ ap (λ (k : ℕ). take k numbers)
    (sound.all le (λ j l. subst (λ (u : ℕ). u < 256) (get_or-take n numbers j 0 l) (All-get (λ u. u < 256) 0 (take n numbers) ids j (omega arith))))

pub stored-written : {numbers cuts more : List ℕ} {v found k r : ℕ} → k ≤ leaves_range.high → length more ≡ 2048 → SoundCount numbers found k r → Stored numbers cuts more v r
    → Written v cuts more
stored-written {numbers} {more = more} {v = v} few new sound s =
    let c = s.counted in
    let f = sound.few in
    record {
      wide = new;
      few = omega arith;
      ids = over-all (leaf_of more v) (λ u. u < 256) (count_of more v) (λ j m. let k = s.leaves j (omega arith) in subst (λ (u : ℕ). u < 256) (sym k) (sound.ids j (omega arith)));
      beside = s.beside;
    }
