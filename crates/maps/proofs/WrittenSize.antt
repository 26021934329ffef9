-- What is written: bytes, and how many at most.
use Prim.Native.Nat.{ℕ, zero, suc, ◌+◌, ◌-◌, ◌*◌, ◌≤◌, ◌<◌}
use mathlib.Core.Path.{◌≡◌, refl, ap, ◌∙◌}
use mathlib.Core.Bool.{Bool, true}
use mathlib.Core.List.{List, [], ◌∷◌, ◌++◌, map, map-append}
use native.Mathlib.Omega.{arith}
use native.Mathlib.Nat.{suc-mul, mul-le-mul_right}
use lib.ListN.{length, length-append}
use borrow.Author.Tests.{ltb-true}
use Rattle.maps.specs.Lists.{All, concat}
use Rattle.maps.specs.Number.{width, values, encoded, encoded_up_to, bytes_for}
use Rattle.maps.specs.Limits.{top_range, size_range, count_range, operands_most, latency_most, ranges_of, period_range, windows_range}
use Rattle.maps.specs.Sheet.{Window}
use Rattle.maps.specs.Form.{Rule, among, boxed, under, passes, done}
use Rattle.maps.specs.Read.{next_id, sheet_form}
use Rattle.maps.specs.Outcome.{accepted}
use Rattle.maps.specs.Records.{NodeRecord, DifferenceRecord, Records, sheet_meant}
use Rattle.maps.specs.Write.{Entry, entry, head_entries, header_numbers, head_numbers, node_numbers, difference_numbers, window_numbers, chain_numbers, cycle_numbers, boxes_of, each_numbers, numbers, values_of, spelled, Passes, writing}
use Rattle.maps.specs.Sizes.{id_bytes_most, rule_bytes, bytes_most, head_bytes_most, node_bytes_most, difference_bytes_most, window_bytes_most, cycle_bytes_most, plan_most, sheet_most}
use Rattle.maps.proofs.Member.{All-join, All-split}
use Rattle.maps.proofs.Spelling.{written-bytes, written_grows}
use Rattle.maps.proofs.Parse.{in-range, in-boxed, few}
use Rattle.maps.proofs.Along.{along-sheet, along-end}
use Rattle.maps.proofs.Spellable.{leads-small}
use Rattle.maps.proofs.Numbers.{spelled-append}
use Rattle.maps.proofs.Written.{writing-passes}

small_bytes : (ns : List ℕ) → All (λ n. n < values) ns → All (λ b. b < 256) (spelled ns)
small_bytes [] h = tt
small_bytes (n ∷ ns) h = All-join (λ b. b < 256) (encoded n) (spelled ns) (written-bytes (width - 1) n h.0) (small_bytes ns h.1)

-- what is written is bytes: its numbers lead through the form, so each has a spelling
pub written-are-bytes : (R : Records) (room : ℕ) (bytes : List ℕ) → writing R room ≡ accepted bytes → All (λ b. b < 256) bytes
written-are-bytes R room bytes e =
    let w = writing-passes R room e in
    let l = along-end sheet_form (numbers R) (sheet_meant R) (along-sheet R) w.0 in
    rw w.1 (small_bytes (values_of (numbers R)) (leads-small (values_of (numbers R)) (done (sheet_meant R)) l))

-- the longest plan and sheet, in numerals
pub plan-most : plan_most ≡ 4611
unfolding encoded_up_to
plan-most = refl

pub sheet-most : sheet_most ≡ 13068
unfolding encoded_up_to
sheet-most = refl

-- a number takes no more bytes than one that it does not exceed
pub within-bytes : {n most : ℕ} → n ≤ most → bytes_for n ≤ bytes_for most
within-bytes = written_grows (width - 1)

pub id-bytes : {x : ℕ} → x < size_range.high → bytes_for x ≤ id_bytes_most
id-bytes l = within-bytes (omega arith)

-- d, lat, q and the count of operands of a node of any kind
ranges-low : (top kind lat : ℕ) → top ≤ top_range.high
    → ((ranges_of top kind).delay.high ≤ top_range.high) × ((ranges_of top kind).latency.high ≤ latency_most)
    × (((ranges_of top kind).clock_to_q lat).high ≤ top_range.high) × ((ranges_of top kind).operands.high ≤ operands_most)
ranges-low top zero lat l = omega arith
ranges-low top (suc zero) lat l = omega arith
ranges-low top (suc (suc k)) zero l = omega arith
ranges-low top (suc (suc k)) (suc lat) l = omega arith

pub ranges-bytes : (top kind lat : ℕ) → top ≤ top_range.high
    → (bytes_for (ranges_of top kind).delay.high ≤ bytes_for top_range.high)
    × (bytes_for (ranges_of top kind).latency.high ≤ bytes_for latency_most)
    × (bytes_for ((ranges_of top kind).clock_to_q lat).high ≤ bytes_for top_range.high)
    × (bytes_for (ranges_of top kind).operands.high ≤ bytes_for operands_most)
ranges-bytes top kind lat l =
    let h = ranges-low top kind lat l in
    (within-bytes h.0, within-bytes h.1, within-bytes h.2, within-bytes h.3)

-- what the rules of a node's numbers allow: its head, and ids of which the count passes
pub head-most : (top kind mark d lat q count : ℕ) → top ≤ top_range.high → bytes_most (head_entries top kind mark d lat q count) ≤ head_bytes_most
head-most top kind mark d lat q count l = omega (arith, ranges-bytes top kind lat l)

pub head-ids-most : (top kind mark d lat q count : ℕ) → top ≤ top_range.high → passes (among (ranges_of top kind).operands) count ≡ true
    → bytes_most (head_entries top kind mark d lat q count) + count * id_bytes_most ≤ node_bytes_most
head-ids-most top kind mark d lat q count l p =
    let c = few top kind (in-range (ranges_of top kind).operands count p).most in
    omega (arith, head-most top kind mark d lat q count l, mul-le-mul_right id_bytes_most c)

-- one part after another, and ids
pub most-append : (es ds : List Entry) → bytes_most (es ++ ds) ≡ bytes_most es + bytes_most ds
most-append [] ds = omega arith
most-append (e ∷ es) ds = omega (arith, most-append es ds)

pub ids-most : (own : ℕ) (us : List ℕ) → bytes_most (map (entry (under own)) us) ≡ length us * id_bytes_most
ids-most own [] = omega arith
ids-most own (u ∷ us) = omega (arith, suc-mul (length us) id_bytes_most, ids-most own us)

-- numbers that pass take no more than their rules allow, where an operand's node is one of the sheet's
abbrev Placed : Rule → Type 0
Placed (among r) = Unit {0}
Placed (boxed r is_box) = Unit {0}
Placed (under own) = own ≤ size_range.high

rule-bytes : (r : Rule) (x : ℕ) → passes r x ≡ true → Placed r → bytes_for x ≤ rule_bytes r
rule-bytes (among r) x p q = within-bytes (in-range r x p).most
rule-bytes (boxed r is_box) x p q = within-bytes (in-boxed r is_box x p).0.most
rule-bytes (under own) x p q = id-bytes (omega (arith, ltb-true x own p))

abbrev bytes_of : List Entry → List ℕ
bytes_of es = spelled (values_of es)

passes-bytes : (es : List Entry) → All Passes es → All (λ e. Placed e.rule) es → length (bytes_of es) ≤ bytes_most es
passes-bytes [] p q = omega arith
passes-bytes (e ∷ es) p q =
    omega (arith, length-append (encoded e.value) (bytes_of es), rule-bytes e.rule e.value p.0 q.0, passes-bytes es p.1 q.1)

ids-placed : (own : ℕ) (us : List ℕ) → own ≤ size_range.high → All (λ e. Placed e.rule) (map (entry (under own)) us)
ids-placed own [] l = tt
ids-placed own (u ∷ us) l = (l, ids-placed own us l)

bytes-append : (xs ys : List Entry) → length (bytes_of (xs ++ ys)) ≡ length (bytes_of xs) + length (bytes_of ys)
bytes-append xs ys =
    ap (λ ns. length (spelled ns)) (map-append (λ (e : Entry). e.value) xs ys)
    ∙ ap length (spelled-append (values_of xs) (values_of ys))
    ∙ length-append (bytes_of xs) (bytes_of ys)

node-bytes : (top own : ℕ) (v : NodeRecord) → top ≤ top_range.high → own < size_range.high → All Passes (node_numbers top own v)
    → length (bytes_of (node_numbers top own v)) ≤ node_bytes_most
node-bytes top own v l o p =
    let us = map (entry (under own)) v.operands in
    omega (
      arith,
      passes-bytes (node_numbers top own v) p (All-join _ (head_numbers top v) us (tt, (tt, (tt, (tt, (tt, (tt, tt)))))) (ids-placed own v.operands (omega arith))),
      most-append (head_numbers top v) us,
      ids-most own v.operands,
      head-ids-most top v.kind v.mark v.delay v.latency v.clock_to_q (length v.operands) l p.1.1.1.1.1.0,
    )

nodes-bytes : (top own : ℕ) (vs : List NodeRecord) → top ≤ top_range.high → own + length vs ≤ size_range.high → All Passes (each_numbers (node_numbers top) own vs)
    → length (bytes_of (each_numbers (node_numbers top) own vs)) ≤ length vs * node_bytes_most
nodes-bytes top own [] l o p = omega arith
nodes-bytes top own (v ∷ vs) l o p =
    let rest = each_numbers (node_numbers top) (own + 1) vs in
    let t = All-split Passes (node_numbers top own v) rest p in
    omega (
      arith,
      suc-mul (length vs) node_bytes_most,
      bytes-append (node_numbers top own v) rest,
      node-bytes top own v l (omega arith) t.0,
      nodes-bytes top (own + 1) vs l (omega arith) t.1,
    )

differences-bytes : (n : ℕ) (ds : List DifferenceRecord) → 0 < n → n ≤ size_range.high → All Passes (concat (map (difference_numbers n) ds))
    → length (bytes_of (concat (map (difference_numbers n) ds))) ≤ length ds * difference_bytes_most
differences-bytes n [] s l p = omega arith
differences-bytes n (d ∷ ds) s l p =
    let rest = concat (map (difference_numbers n) ds) in
    let t = All-split Passes (difference_numbers n d) rest p in
    omega (
      arith,
      suc-mul (length ds) difference_bytes_most,
      bytes-append (difference_numbers n d) rest,
      passes-bytes (difference_numbers n d) t.0 (tt, (tt, (tt, tt))),
      id-bytes {x = n - 1} (omega arith),
      differences-bytes n ds s l t.1,
    )

windows-bytes : (n : ℕ) (is_box : ℕ → Bool) (p low : ℕ) (ws : List Window) → 0 < n → n ≤ size_range.high → p ≤ period_range.high
    → All Passes (chain_numbers next_id (window_numbers n is_box p) low ws)
    → length (bytes_of (chain_numbers next_id (window_numbers n is_box p) low ws)) ≤ length ws * window_bytes_most
windows-bytes n is_box p low [] s l lp q = omega arith
windows-bytes n is_box p low (w ∷ ws) s l lp q =
    let rest = chain_numbers next_id (window_numbers n is_box p) (next_id w) ws in
    let t = All-split Passes (window_numbers n is_box p low w) rest q in
    omega (
      arith,
      suc-mul (length ws) window_bytes_most,
      bytes-append (window_numbers n is_box p low w) rest,
      passes-bytes (window_numbers n is_box p low w) t.0 (tt, (tt, (tt, tt))),
      id-bytes {x = n - 1} (omega arith),
      within-bytes {n = p - 1} {most = period_range.high} (omega arith),
      within-bytes {n = p} {most = period_range.high} lp,
      windows-bytes n is_box p (next_id w) ws s l lp t.1,
    )

cycle-bytes : (n : ℕ) (is_box : ℕ → Bool) (p : ℕ) (ws : List Window) → 0 < n → n ≤ size_range.high → All Passes (cycle_numbers n is_box p ws)
    → length (bytes_of (cycle_numbers n is_box p ws)) ≤ cycle_bytes_most
cycle-bytes n is_box p ws s l q =
    let head = entry (among period_range) p ∷ entry (among (windows_range n)) (length ws) ∷ [] in
    let rest = chain_numbers next_id (window_numbers n is_box p) 0 ws in
    let m = (in-range (windows_range n) (length ws) q.1.0).most in
    let k : length ws ≤ size_range.high = omega arith in
    omega (
      arith,
      bytes-append head rest,
      passes-bytes head (q.0, (q.1.0, tt)) (tt, (tt, tt)),
      within-bytes {n = n} {most = size_range.high} l,
      windows-bytes n is_box p 0 ws s l (in-range period_range p q.0).most q.1.1,
      mul-le-mul_right window_bytes_most k,
    )

-- so much room is enough: each part takes at most its bytes, and there are at most so many parts
pub numbers-most : (R : Records) → All Passes (numbers R) → length (spelled (values_of (numbers R))) ≤ sheet_most
unfolding numbers
numbers-most R p =
    let vs = each_numbers (node_numbers R.top) 0 R.nodes in
    let ds = concat (map (difference_numbers (length R.nodes)) R.differences) in
    let ws = cycle_numbers (length R.nodes) (boxes_of R) R.period R.windows in
    let h = All-split Passes (header_numbers R) (vs ++ (ds ++ ws)) p in
    let v = All-split Passes vs (ds ++ ws) h.1 in
    let d = All-split Passes ds ws v.1 in
    let t = in-range top_range R.top p.1.0 in
    let n = in-range size_range (length R.nodes) p.1.1.1.0 in
    let m = in-range count_range (length R.differences) p.1.1.1.1.0 in
    let nodes = mul-le-mul_right node_bytes_most n.most in
    let differences = mul-le-mul_right difference_bytes_most m.most in
    omega (
      arith,
      bytes-append (header_numbers R) (vs ++ (ds ++ ws)),
      bytes-append vs (ds ++ ws),
      bytes-append ds ws,
      passes-bytes (header_numbers R) h.0 (tt, (tt, (tt, (tt, (tt, tt))))),
      nodes-bytes R.top 0 R.nodes t.most (omega (arith, n.most)) v.0,
      differences-bytes (length R.nodes) R.differences n.least n.most d.0,
      cycle-bytes (length R.nodes) (boxes_of R) R.period R.windows n.least n.most d.1,
    )
