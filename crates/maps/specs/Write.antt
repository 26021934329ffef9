-- Document 02, U1: the sheet writer. "Given header, nodes and differences, it writes the sheet."
use Rattle.std.specs.Prelude.{ℕ, ◌+◌, ◌*◌, ◌≡◌, Bool, true, false, cond, List, [], ◌∷◌, ◌++◌, map, ℤ, pos, negsuc, length}
use Rattle.maps.specs.Lists.{All, concat}
use Rattle.maps.specs.Number.{encoded, encoded_up_to}
use Rattle.maps.specs.Limits.{leaves_range, top_range, horizon_range, size_range, count_range, kind_range, mark_range, id_range, weight_range, ranges_of, period_range, windows_range, box_range, from_range, to_range}
use Rattle.maps.specs.Sheet.{Sheet, Window, box_in}
use Rattle.maps.specs.Form.{Rule, among, boxed, under, passes, rule_ground}
use Rattle.maps.specs.Read.{next_id}
use Rattle.maps.specs.Records.{NodeRecord, DifferenceRecord, Records, node_meant, records_of}
use Rattle.maps.specs.Outcome.{Outcome, refusal, within}

-- a number of the sheet, with what the reader asks of it
pub record Entry : Type 0 where
  pub rule : Rule
  pub value : ℕ

abbrev pub entry : Rule → ℕ → Entry
entry r x = record { rule = r; value = x }

-- K, T, H, n, m
abbrev pub header_entries : (leaves top horizon nodes differences : ℕ) → List Entry
header_entries k t h n m =
    entry (among leaves_range) k
    ∷ entry (among top_range) t
    ∷ entry (among horizon_range) h
    ∷ entry (among size_range) n
    ∷ entry (among count_range) m
    ∷ []

-- "n, m and operand counts are how many were given"
abbrev pub header_numbers : Records → List Entry
header_numbers R = header_entries R.leaves R.top R.horizon (length R.nodes) (length R.differences)

-- "kind .., output mark .., d, lat", q, "operand count"
abbrev pub head_entries : (top kind mark delay latency clock_to_q count : ℕ) → List Entry
head_entries top kind mark d lat q count =
    entry (among kind_range) kind
    ∷ entry (among mark_range) mark
    ∷ entry (among (ranges_of top kind).delay) d
    ∷ entry (among (ranges_of top kind).latency) lat
    ∷ entry (among ((ranges_of top kind).clock_to_q lat)) q
    ∷ entry (among (ranges_of top kind).operands) count
    ∷ []

abbrev pub head_numbers : (top : ℕ) → NodeRecord → List Entry
head_numbers top v = head_entries top v.kind v.mark v.delay v.latency v.clock_to_q (length v.operands)

-- ".. operand ids" of the node `own`
abbrev pub node_numbers : (top own : ℕ) → NodeRecord → List Entry
node_numbers top own v = head_numbers top v ++ map (entry (under own)) v.operands

-- "w coded as 2w if w ≥ 0, otherwise −2w − 1": negsuc k is −k − 1
abbrev pub code_of_weight : ℤ → ℕ
code_of_weight (pos k) = 2 * k
code_of_weight (negsuc k) = 2 * k + 1

-- "u and v, each an id from 0 to n − 1, and w"
abbrev pub difference_numbers : (size : ℕ) → DifferenceRecord → List Entry
difference_numbers n d =
    entry (among (id_range n)) d.from
    ∷ entry (among (id_range n)) d.to
    ∷ entry (among weight_range) (code_of_weight d.weight)
    ∷ []

-- document 02, U8: "box id, from, to"
abbrev pub window_numbers : (size : ℕ) → (is_box : ℕ → Bool) → (period low : ℕ) → Window → List Entry
window_numbers n is_box p low w =
    entry (boxed (box_range n low) is_box) w.id
    ∷ entry (among (from_range p)) w.from
    ∷ entry (among (to_range p w.from)) w.to
    ∷ []

-- the numbers of rows of which each has a bearing on the next one's
abbrev pub chain_numbers : {A : Type 0} → (A → ℕ) → (ℕ → A → List Entry) → ℕ → List A → List Entry
chain_numbers next f i [] = []
chain_numbers next f i (x ∷ xs) = f i x ++ chain_numbers next f (next x) xs

-- "a period P .., a count .., and that many entries"
abbrev pub cycle_numbers : (size : ℕ) → (is_box : ℕ → Bool) → (period : ℕ) → List Window → List Entry
cycle_numbers n is_box p ws =
    entry (among period_range) p ∷ entry (among (windows_range n)) (length ws) ∷ chain_numbers next_id (window_numbers n is_box p) 0 ws

-- which ids the nodes given make boxes
abbrev pub boxes_of : Records → ℕ → Bool
boxes_of R = box_in (map node_meant R.nodes)

-- the numbers of the nodes with ids i, i + 1, ..
abbrev pub each_numbers : {A : Type 0} → (ℕ → A → List Entry) → ℕ → List A → List Entry
each_numbers f i [] = []
each_numbers f i (x ∷ xs) = f i x ++ each_numbers f (i + 1) xs

-- all numbers of the sheet in its order
unfoldable pub numbers : Records → List Entry
numbers R =
    header_numbers R
    ++ (each_numbers (node_numbers R.top) 0 R.nodes
    ++ (concat (map (difference_numbers (length R.nodes)) R.differences) ++ cycle_numbers (length R.nodes) (boxes_of R) R.period R.windows))

abbrev pub values_of : List Entry → List ℕ
values_of = map (λ e. e.value)

-- numbers one after the other, each in its one spelling
abbrev pub spelled : List ℕ → List ℕ
spelled ns = concat (map encoded ns)

-- the one spelling of a sheet
unfoldable pub spelling : Sheet → List ℕ
unfolding numbers encoded_up_to
spelling S = spelled (values_of (numbers (records_of S)))

-- the number is as the reader asks
abbrev pub Passes : Entry → Type 0
Passes e = passes e.rule e.value ≡ true

-- number i is the first that the reader would refuse, and k its ground
pub record First (es : List Entry) (k i : ℕ) : Type 0 where
  pub before : List Entry
  pub faulty : Entry
  pub after : List Entry
  pub listed : es ≡ before ++ (faulty ∷ after)
  pub place : length before ≡ i
  pub good : All Passes before
  pub fails : passes faulty.rule faulty.value ≡ false
  pub number : rule_ground faulty.rule ≡ k

-- the numbers from the i-th on: all pass, and how many there are up to here, or the first that does not, with its ground
pub data Verdict : Type 0 where
  good : (next : ℕ) → Verdict
  fault : (number : ℕ) → (place : ℕ) → Verdict

abbrev pub verdict : (i : ℕ) → List Entry → Verdict
verdict i [] = good i
verdict i (e ∷ es) = cond (passes e.rule e.value) (verdict (i + 1) es) (fault (rule_ground e.rule) i)

-- "the first number that the reader would refuse gets 3 or 4 (place: which number of the sheet, from 0), then 8"
abbrev pub answered : Verdict → (bytes : List ℕ) → (room : ℕ) → Outcome
answered (good next) bytes room = within room bytes
answered (fault k i) bytes room = refusal k i

-- the outcome of writing records into a buffer of `room` bytes
unfoldable pub writing : Records → (room : ℕ) → Outcome
unfolding numbers encoded_up_to
writing R room = answered (verdict 0 (numbers R)) (spelled (values_of (numbers R))) room
