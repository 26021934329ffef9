-- The marks of a search that failed are a closed set with as many leaves as the flow has units, and hence with the fewest.
-- A failed search has entered every operand of each node inside. An operand that must be inside is then inside, one that may not be a leaf was
-- never entered (there the search would have succeeded), and any other may be a leaf: so the nodes inside are closed (`settled-closed`).
-- The search has also gone back along the flow: a node that is entered, and one inside that carries a unit, names a node inside (`entered`,
-- `stay`). So no unit comes in from outside, and each leaf carries a unit from inside. As no unit comes in, there are exactly f nodes outside that
-- carry one from inside (`crossing`), and they are the leaves (`crossings`). By weak duality no closed set for v has fewer.
use mathlib.Core.Path.{◌≡◌, sym, ap, ◌∙◌, subst}
use mathlib.Core.Logic.{◌⊎◌, inl, inr, ⊎_elim}
use mathlib.Core.List.{List}
use mathlib.Core.Bool.{Bool, true, false, not, ◌&&◌}
use Prim.Native.Nat.{ℕ, ◌+◌, ◌≤◌, ◌<◌}
use native.Mathlib.Decide.{ℕ_discrete}
use native.Mathlib.Omega.{arith}
use lib.ListN.{length, get_or}
use lib.Dec.{eqb}
use Rattle.maps.proofs.Over.{same_test}
use Rattle.rows.specs.Table.{count_in, operand_in, Falling}
use Rattle.rows.specs.Cells.{cell}
use Rattle.flow.specs.Search.{Leafy, Closed, Touch, Link, Flow, bit, gate, count, Seen, Entered, OutDone, Blocked, Valued, Settled, Leaf, member, leaf_mark, rising}
use Rattle.flow.proofs.Bools.{bool, differ, out-yes, out-no}
use Rattle.flow.proofs.Marks.{member-yes, member-no}
use Rattle.flow.proofs.Laws.{inner?, done-grows}
use Rattle.flow.proofs.Sums.{sum, sum-ext, length-rising, rising-bit}
use Rattle.flow.proofs.Duality.{crossing, one-source}
use Rattle.flow.specs.declared.Code.{Code}
use Rattle.flow.specs.declared.Code.TheVariants.{Inner}

-- the first search
pub settle-first : {graph : List ℕ} {code : List Code} {s s' : List Bool} {above above' : List ℕ} {v f : ℕ} → ((i : ℕ) → i < 512 → get_or s i false ≡ false) → Blocked graph code s s' above above' → Valued graph code above v f → Seen s' v → Settled graph code s' above' v f
settle-first {graph} {code} {s} {s'} {above} {above'} {v} {f} clear b value root = subst (λ (l : List ℕ). Settled graph code s' l v f) (sym b.same)
    (record { value = value; root = root; done = λ u lt n. b.done.out u lt (clear u (omega arith)) n; inn = λ u lt n. b.done.inn u lt (clear (u + 256) (omega arith)) n })

-- a failed search from another node adds its marks
pub settle-more : {graph : List ℕ} {code : List Code} {s s' : List Bool} {above above' : List ℕ} {v f : ℕ} → Settled graph code s above v f → Blocked graph code s s' above above' → Settled graph code s' above v f
settle-more {graph} {code} {s} {s'} {above} {above'} {v} {f} t b = record {
  value = t.value;
  root = b.grow v t.root;
  done = λ u lt n. out u lt n (bool (get_or s u false));
  inn = λ u lt n. inn u lt n (bool (get_or s (u + 256) false));
}
  where
    out : (u : ℕ) → u < 256 → Seen s' u → Seen s u ⊎ (get_or s u false ≡ false) → OutDone graph code s' above u
    out u lt n (inr z) = b.done.out u lt z n
    out u lt n (inl g) = done-grows graph code s s' above u b.grow (t.done u lt g)

    inn : (u : ℕ) → u < 256 → Seen s' (u + 256) → Seen s (u + 256) ⊎ (get_or s (u + 256) false ≡ false) → Seen s' (cell above u)
    inn u lt n (inr z) = b.done.inn u lt z n
    inn u lt n (inl g) = b.grow (cell above u) (t.inn u lt g)

module _ {graph : List ℕ} {code : List Code} {s : List Bool} {above : List ℕ} {v f : ℕ} (falling : Falling graph) (low-v : v < 256) (t : Settled graph code s above v f) where
  fl : Flow graph code above
  fl = t.value.flow

  taken : (m : ℕ) → member s m ≡ true → OutDone graph code s above m
  taken m h = let q = member-no s m h in t.done m q.0 q.1

  operand_low : (m j : ℕ) → m < 256 → j < count_in graph m → operand_in graph m j < 256
  operand_low m j lt l = let q = falling.falls m j lt l in omega arith

  pub settled-closed : Closed graph code (member s)
  unfolding Closed Entered
  settled-closed m h = ((member-no s m h).0, (taken m h).inside, λ j lt. go j lt (inner? (get_or code (operand_in graph m j) Inner)))
    where
      go : (j : ℕ) → j < count_in graph m → Dec (get_or code (operand_in graph m j) Inner ≡ Inner) → (member s (operand_in graph m j) ≡ true) ⊎ Leafy code (operand_in graph m j)
      go j lt (yes z) = inl (member-yes s (operand_in graph m j) (operand_low m j (member-no s m h).0 lt) (((taken m h).operands j lt).0 z))
      go j lt (no g) = inr (g, ((taken m h).operands j lt).2)

  pub settled_root : member s v ≡ true
  settled_root = member-yes s v low-v t.root

  pub entered : (x : ℕ) → x < 256 → Seen s (x + 256) → member s (cell above x) ≡ true
  entered x lt n = member-yes s (cell above x) (fl.low x lt) (t.inn x lt n)

  pub stay : (x : ℕ) → x < 256 → member s x ≡ true → member s (cell above x) ≡ true
  stay x lt h = go (ℕ_discrete (cell above x) x)
    where
      go : Dec (cell above x ≡ x) → member s (cell above x) ≡ true
      go (yes e) = ap (member s) e ∙ h
      go (no ne) = entered x lt ((taken x h).back ne)

  -- the flow crosses at a leaf
  pub cross-leaf : (x : ℕ) → x < 256 → member s x ≡ false → member s (cell above x) ≡ true → Leaf graph (member s) x
  unfolding Leaf Link
  cross-leaf x lt n h = (n, ⊎_elim (λ e. absurd (differ (member s x) e n)) (λ e. e) (fl.link x lt (member s) settled-closed h))

  -- the leaves are the nodes that were entered and not taken inside
  pub leaf-mark : (x : ℕ) → x < 256 → Leaf graph (member s) x → leaf_mark s x ≡ true
  unfolding Leaf Touch Entered
  leaf-mark x lt h =
      let e : Entered code s x = subst (λ (y : ℕ). Entered code s y) h.1.4 ((taken h.1.0 h.1.2).operands h.1.1 h.1.3) in
      out-yes (member s x) (get_or s (x + 256) false) h.0 (e.1 (λ z. differ (member s x) (member-yes s x lt (e.0 z)) h.0))

  pub mark-cross : (x : ℕ) → x < 256 → leaf_mark s x ≡ true → (not (member s x) && member s (cell above x)) ≡ true
  mark-cross x lt h =
      let o = out-no (member s x) (get_or s (x + 256) false) h in
      out-yes (member s x) (member s (cell above x)) o.0 (entered x lt o.1)

  cross-mark : (x : ℕ) → x < 256 → (not (member s x) && member s (cell above x)) ≡ true → leaf_mark s x ≡ true
  cross-mark x lt h = let o = out-no (member s x) (member s (cell above x)) h in leaf-mark x lt (cross-leaf x lt o.0 o.1)

  crossings : sum (λ x. bit (leaf_mark s x)) 256 ≡ f
  crossings =
      sum-ext (λ x. bit (leaf_mark s x)) (λ x. bit (not (member s x) && member s (cell above x))) 256 (λ x lt. ap bit (same_test (leaf_mark s x) (not (member s x) && member s (cell above x)) (mark-cross x lt) (cross-mark x lt)))
      ∙ crossing graph code above (λ u. gate (eqb v u) f) fl t.value.once (member s) settled-closed stay
      ∙ one-source (member s) v f low-v settled_root

  pub marks-size : length (rising (leaf_mark s) 256) ≡ f
  marks-size = length-rising (leaf_mark s) 256 ∙ crossings

  pub marks-have : (x : ℕ) → x < 256 → Leaf graph (member s) x → 1 ≤ count x (rising (leaf_mark s) 256)
  marks-have x lt h = let u = rising-bit (leaf_mark s) 256 x lt in let e = ap bit (leaf-mark x lt h) in omega arith
