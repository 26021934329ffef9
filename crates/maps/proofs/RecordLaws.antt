-- Records whose numbers pass are those of their sheet, and a well-formed sheet is that of its records, whose numbers pass.
use Prim.Native.Nat.{ℕ, zero, suc, ◌+◌, ◌*◌, ◌≤◌, ◌<◌}
use mathlib.Core.Path.{◌≡◌, refl, subst, ap}
use mathlib.Core.Bool.{Bool, true, false, cond}
use mathlib.Core.List.{List, [], ◌∷◌, ◌++◌, map}
use mathlib.Core.Logic.{◌⊎◌, inl, inr, ◌↔◌}
use native.Mathlib.Omega.{arith}
use native.Mathlib.Nat.{add-zero, zero-add}
use lib.Dec.{eqb}
use lib.IntN.{ℤ, pos, negsuc}
use lib.ListN.{length, get_or, length-map}
use borrow.Author.Tests.{le-leb, lt-ltb}
use Rattle.maps.specs.Lists.{All, concat}
use Rattle.maps.specs.Sheet.{Sheet, Kind, input, logic, box, Node, Difference, no_node, Window, box_in, latency_of, clock_to_q_of}
use Rattle.maps.specs.Limits.{Range, kind_range, mark_range, id_range, weight_most, weight_range, ranges_of, box_range, from_range, to_range}
use Rattle.maps.specs.Form.{among, boxed, under, passes}
use Rattle.maps.specs.Read.{kind_of, next_id}
use Rattle.maps.specs.WellFormed.{Within, code_of, WellNode, WellDifference, WellEntry, Rising, WellFormed}
use Rattle.maps.specs.Records.{NodeRecord, DifferenceRecord, Records, node_meant, plus_of, minus_of, difference_meant, sheet_meant, node_record, weight_of, difference_record, records_of}
use Rattle.maps.specs.Write.{entry, header_numbers, node_numbers, code_of_weight, difference_numbers, window_numbers, chain_numbers, cycle_numbers, boxes_of, each_numbers, numbers, Passes}
use Rattle.maps.proofs.Member.{All-join, All-split}
use Rattle.maps.proofs.Parse.{coded, latency-back, clock-back, in-range}
use Rattle.maps.proofs.Shown.{mark-back}

-- Records, sheet, records: a kind in its range has its code back, a mark is 0 or 1, and only a box has a latency and a clock-to-Q level.
node-again : (top own : ℕ) (v : NodeRecord) → All Passes (node_numbers top own v) → node_record (node_meant v) ≡ v
node-again top own v p =
    let k = coded v.kind v.latency v.clock_to_q (in-range kind_range v.kind p.0).most in
    let m = mark-back v.mark (in-range mark_range v.mark p.1.0).most in
    let l = latency-back top v.kind v.latency v.clock_to_q (in-range (ranges_of top v.kind).latency v.latency p.1.1.1.0) in
    let q = clock-back top v.kind v.latency v.clock_to_q (in-range ((ranges_of top v.kind).clock_to_q v.latency) v.clock_to_q p.1.1.1.1.0) in
    rw (k, m, l, q)

nodes-again : (top own : ℕ) (vs : List NodeRecord) → All Passes (each_numbers (node_numbers top) own vs) → map node_record (map node_meant vs) ≡ vs
nodes-again top own [] p = refl
nodes-again top own (v ∷ vs) p =
    let t = All-split Passes (node_numbers top own v) _ p in
    rw (node-again top own v t.0, nodes-again top (own + 1) vs t.1)

difference-again : (d : DifferenceRecord) → difference_record (difference_meant d) ≡ d
difference-again d = ap (λ w. record { from = d.from; to = d.to; weight = w }) (go d.weight)
  where
    go : (w : ℤ) → weight_of (plus_of w) (minus_of w) ≡ w
    go (pos k) = refl
    go (negsuc k) = refl

differences-again : (ds : List DifferenceRecord) → map difference_record (map difference_meant ds) ≡ ds
differences-again [] = refl
differences-again (d ∷ ds) = rw (difference-again d, differences-again ds)

pub records-again : (R : Records) → All Passes (numbers R) → records_of (sheet_meant R) ≡ R
unfolding numbers
records-again R p =
    let vs = each_numbers (node_numbers R.top) 0 R.nodes in
    let ds = concat (map (difference_numbers (length R.nodes)) R.differences) in
    let ws = cycle_numbers (length R.nodes) (boxes_of R) R.period R.windows in
    let v = All-split Passes vs (ds ++ ws) (All-split Passes (header_numbers R) (vs ++ (ds ++ ws)) p).1 in
    rw (nodes-again R.top 0 R.nodes v.0, differences-again R.differences)

-- Sheet, records, sheet: of plus and minus one is 0.
kind-again : (k : Kind) → kind_of (code_of k) (latency_of k) (clock_to_q_of k) ≡ k
kind-again input = refl
kind-again logic = refl
kind-again (box lat q) = refl

pub mark-again : (b : Bool) → eqb (cond b 1 0) 1 ≡ b
mark-again true = refl
mark-again false = refl

pub node-meant : (v : Node) → node_meant (node_record v) ≡ v
node-meant v = rw (kind-again v.kind, mark-again v.output)

nodes-meant : (vs : List Node) → map node_meant (map node_record vs) ≡ vs
nodes-meant [] = refl
nodes-meant (v ∷ vs) = rw (node-meant v, nodes-meant vs)

difference-meant : (n : ℕ) (d : Difference) → WellDifference n d → difference_meant (difference_record d) ≡ d
difference-meant n d w = go d.plus d.minus w.signed
  where
    go : (p m : ℕ) → (p ≡ 0) ⊎ (m ≡ 0)
        → ◌≡◌ {A = Difference} (record { from = d.from; to = d.to; plus = plus_of (weight_of p m); minus = minus_of (weight_of p m) })
        (record { from = d.from; to = d.to; plus = p; minus = m })
    go p zero s = refl
    go p (suc k) (inl e) = rw e
    go p (suc k) (inr e) = absurd (omega arith)

pub differences-meant : (n : ℕ) (ds : List Difference) → All (WellDifference n) ds → map difference_meant (map difference_record ds) ≡ ds
differences-meant n [] w = refl
differences-meant n (d ∷ ds) w = rw (difference-meant n d w.0, differences-meant n ds w.1)

pub sheet-again : (S : Sheet) → WellFormed S → sheet_meant (records_of S) ≡ S
sheet-again S w = rw (nodes-meant S.nodes, differences-meant (length S.nodes) S.differences w.differences)

-- The numbers of a well-formed sheet's records pass: what the rules ask is what it is to be well formed.
range-passes : (r : Range) (x : ℕ) → Within r x → passes (among r) x ≡ true
range-passes r x h = rw (le-leb r.low x h.least, le-leb x r.high h.most)

kind-passes : (k : Kind) → passes (among kind_range) (code_of k) ≡ true
kind-passes input = refl
kind-passes logic = refl
kind-passes (box lat q) = refl

mark-passes : (b : Bool) → passes (among mark_range) (cond b 1 0) ≡ true
mark-passes true = refl
mark-passes false = refl

operands-pass : (own : ℕ) (us : List ℕ) → All (λ u. u < own) us → All Passes (map (entry (under own)) us)
operands-pass own [] h = tt
operands-pass own (u ∷ us) h = (lt-ltb u own h.0, operands-pass own us h.1)

node-passes : (top own : ℕ) (v : Node) → WellNode top own v → All Passes (node_numbers top own (node_record v))
node-passes top own v w = (
  kind-passes v.kind,
  (
    mark-passes v.output,
    (
      range-passes _ _ w.delay,
      (
        range-passes _ _ w.latency,
        (
          range-passes _ _ w.clock_to_q,
          (
            range-passes _ _ w.count,
            operands-pass own v.operands w.operands,
          ),
        ),
      ),
    ),
  ),
)

nodes-pass : (top own : ℕ) (vs : List Node) → ((v : ℕ) → v < length vs → WellNode top (own + v) (get_or vs v no_node))
    → All Passes (each_numbers (node_numbers top) own (map node_record vs))
nodes-pass top own [] w = tt
nodes-pass top own (v ∷ vs) w =
    All-join Passes (node_numbers top own (node_record v)) _ (node-passes top own v (rw (add-zero own) at (w 0 (omega arith))))
    (nodes-pass top (own + 1) vs (λ i l. subst (λ j. WellNode top j (get_or vs i no_node)) (omega arith) (w (suc i) (omega arith))))

-- the code of a weight in its range
weight-passes : (p m : ℕ) → p ≤ weight_most → m ≤ weight_most → passes (among weight_range) (code_of_weight (weight_of p m)) ≡ true
weight-passes p zero lp lm = range-passes weight_range (2 * p) (record { least = omega arith; most = omega arith })
weight-passes p (suc k) lp lm = range-passes weight_range (2 * k + 1) (record { least = omega arith; most = omega arith })

differences-pass : (n : ℕ) (ds : List Difference) → All (WellDifference n) ds → All Passes (concat (map (difference_numbers n) (map difference_record ds)))
differences-pass n [] w = tt
differences-pass n (d ∷ ds) w = (
  range-passes (id_range n) d.from (record { least = omega arith; most = omega (arith, w.0.from) }),
  (
    range-passes (id_range n) d.to (record { least = omega arith; most = omega (arith, w.0.to) }),
    (weight-passes d.plus d.minus w.0.plus w.0.minus, differences-pass n ds w.1),
  ),
)

-- an entry of a box, and the entries
box-passes : (r : Range) (is_box : ℕ → Bool) (x : ℕ) → Within r x → is_box x ≡ true → passes (boxed r is_box) x ≡ true
box-passes r is_box x h b = rw (range-passes r x h, b)

windows-pass : (n : ℕ) (is_box : ℕ → Bool) (p low : ℕ) (ws : List Window) → All (WellEntry n is_box p) ws → Rising low ws
    → All Passes (chain_numbers next_id (window_numbers n is_box p) low ws)
windows-pass n is_box p low [] w r = tt
windows-pass n is_box p low (x ∷ ws) w r = (
  box-passes (box_range n low) is_box x.id (record { least = r.0; most = omega (arith, w.0.inside) }) w.0.boxed,
  (
    range-passes (from_range p) x.from (record { least = omega arith; most = omega (arith, w.0.well.some, w.0.well.within) }),
    (
      range-passes (to_range p x.from) x.to (record { least = omega (arith, w.0.well.some); most = w.0.well.within }),
      windows-pass n is_box p (next_id x) ws w.1 r.1,
    ),
  ),
)

pub well-passes : (S : Sheet) → WellFormed S → All Passes (numbers (records_of S))
unfolding numbers
well-passes S w =
    rw (length-map S.nodes node_record, length-map S.differences difference_record, nodes-meant S.nodes) (
      range-passes _ _ w.leaves,
      (
        range-passes _ _ w.top,
        (
          range-passes _ _ w.horizon,
          (
            range-passes _ _ w.size,
            (
              range-passes _ _ w.count,
              All-join Passes (each_numbers (node_numbers S.top) 0 (map node_record S.nodes)) _
                  (nodes-pass S.top 0 S.nodes (λ v l. rw (zero-add v) (w.nodes v l)))
                  (All-join Passes (concat (map (difference_numbers (length S.nodes)) (map difference_record S.differences))) _
                  (differences-pass (length S.nodes) S.differences w.differences) (
                    range-passes _ _ w.period,
                    (range-passes _ _ w.window_count, windows-pass (length S.nodes) (box_in S.nodes) S.period 0 S.windows w.windows w.rising),
                  )),
            ),
          ),
        ),
      ),
    )

-- w is judged as w: its code lies in its range exactly if w lies in −weight_most to weight_most
pub weight-judged : (w : ℤ) → (passes (among weight_range) (code_of_weight w) ≡ true) ↔ ((plus_of w ≤ weight_most) × (minus_of w ≤ weight_most))
weight-judged (pos k) = (
  λ p. let h = (in-range weight_range (2 * k) p).most in (omega arith, omega arith),
  λ h. weight-passes k 0 h.0 h.1,
)
weight-judged (negsuc k) = (
  λ p. let h = (in-range weight_range (2 * k + 1) p).most in (omega arith, omega arith),
  λ h. weight-passes 0 (suc k) h.0 h.1,
)
