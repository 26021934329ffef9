-- The numbers of records go along the sheet's form: what the form asks in turn is what each of them is held to.
use Prim.Native.Nat.{ℕ, suc, ◌+◌, ◌*◌, ◌/◌, ◌%◌}
use mathlib.Core.Path.{◌≡◌, refl, sym, subst, ap}
use mathlib.Core.Bool.{Bool, true}
use mathlib.Core.List.{List, [], ◌∷◌, ◌++◌, map, map-id}
use native.Mathlib.Omega.{arith}
use lib.IntN.{ℤ, pos, negsuc}
use lib.ListN.{length}
use Rattle.maps.specs.Lists.{All, concat}
use Rattle.maps.specs.Sheet.{Sheet, Node, Difference, Window, box_in}
use Rattle.maps.specs.Form.{under, passes, Form, done, ask, ◌>>=◌, asked, each, times, chain, Leads}
use Rattle.maps.specs.Read.{node_of, head_form, node_form, difference, difference_form, window_form, next_id, cycle_of, cycle_form, Header, header_form, sheet_of, sheet_form}
use Rattle.maps.specs.Records.{NodeRecord, DifferenceRecord, Records, head_meant, node_meant, plus_of, minus_of, difference_meant, sheet_meant}
use Rattle.maps.specs.Write.{Entry, entry, header_numbers, head_numbers, node_numbers, code_of_weight, difference_numbers, window_numbers, chain_numbers, cycle_numbers, boxes_of, each_numbers, numbers, values_of, Passes}

-- the form asks of each number in turn what the entry says, and ends in a
abbrev pub Along : {A : Type 0} → Form A → List Entry → A → Type 0
Along (done b) [] a = b ≡ a
Along (done b) (e ∷ es) a = ⊥
Along (ask r f) [] a = ⊥
Along (ask r f) (e ∷ es) a = (e.rule ≡ r) × Along (f e.value) es a

pub along_bind : {A B : Type 0} (f : Form A) (g : A → Form B) (es ds : List Entry) (a : A) (b : B) → Along f es a → Along (g a) ds b
    → Along (◌>>=◌ f g) (es ++ ds) b
along_bind (done c) g [] ds a b h k = subst (λ x. Along (g x) ds b) (sym h) k
along_bind (done c) g (e ∷ es) ds a b h k = absurd h
along_bind (ask r f) g [] ds a b h k = absurd h
along_bind (ask r f) g (e ∷ es) ds a b h k = (h.0, along_bind (f e.value) g es ds a b h.1 k)

pub along-map : {A B : Type 0} (f : Form A) (k : A → B) (es : List Entry) (a : A) → Along f es a → Along (◌>>=◌ f (λ x. done (k x))) es (k a)
along-map (done c) k [] a h = ap k h
along-map (done c) k (e ∷ es) a h = absurd h
along-map (ask r f) k [] a h = absurd h
along-map (ask r f) k (e ∷ es) a h = (h.0, along-map (f e.value) k es a h.1)

pub along-each : {A G : Type 0} (F : ℕ → Form A) (N : ℕ → G → List Entry) (val : G → A) → ((j : ℕ) (g : G) → Along (F j) (N j g) (val g))
    → (i : ℕ) (gs : List G) → Along (each F i (length gs)) (each_numbers N i gs) (map val gs)
along-each F N val h i [] = refl
along-each F N val h i (g ∷ gs) =
    along_bind (F i) _ (N i g) _ (val g) _ (h i g)
    (along-map (each F (i + 1) (length gs)) (λ rest. val g ∷ rest) _ _ (along-each F N val h (i + 1) gs))

pub along-chain : {A : Type 0} (next : A → ℕ) (F : ℕ → Form A) (N : ℕ → A → List Entry) → ((j : ℕ) (a : A) → Along (F j) (N j a) a)
    → (i : ℕ) (xs : List A) → Along (chain next F i (length xs)) (chain_numbers next N i xs) xs
along-chain next F N h i [] = refl
along-chain next F N h i (x ∷ xs) =
    along_bind (F i) _ (N i x) _ x _ (h i x)
    (along-map (chain next F (next x) (length xs)) (λ rest. x ∷ rest) _ _ (along-chain next F N h (next x) xs))

-- if all numbers pass, they lead to the end
pub along-end : {A : Type 0} (f : Form A) (es : List Entry) (a : A) → Along f es a → All Passes es → Leads f (values_of es) (done a)
along-end (done b) [] a h p = ap done h
along-end (done b) (e ∷ es) a h p = absurd h
along-end (ask r f) [] a h p = absurd h
along-end (ask r f) (e ∷ es) a h p = (rw h.0 at p.0, along-end (f e.value) es a h.1 p.1)

-- if those before e pass, they lead to what is asked of e
pub along-stop : {A : Type 0} (f : Form A) (xs : List Entry) (e : Entry) (ys : List Entry) (a : A) → Along f (xs ++ (e ∷ ys)) a → All Passes xs
    → (g : ℕ → Form A) × Leads f (values_of xs) (ask e.rule g)
along-stop (done b) [] e ys a h p = absurd h
along-stop (done b) (x ∷ xs) e ys a h p = absurd h
along-stop (ask r f) [] e ys a h p = (f, ap (λ q. ask q f) (sym h.0))
along-stop (ask r f) (x ∷ xs) e ys a h p =
    let q : passes r x.value ≡ true = rw h.0 at p.0 in
    let s = along-stop (f x.value) xs e ys a h.1 p.1 in
    (s.0, (q, s.1))

along-head : (top : ℕ) (v : NodeRecord) → Along (head_form top) (head_numbers top v) (head_meant v)
unfolding head_form
along-head top v = (refl, (refl, (refl, (refl, (refl, (refl, refl))))))

-- a list of numbers under one rule, and a list of rows
each_same : {A : Type 0} (f : A → Entry) (i : ℕ) (xs : List A) → map f xs ≡ each_numbers (λ j x. f x ∷ []) i xs
each_same f i [] = refl
each_same f i (x ∷ xs) = ap (λ t. f x ∷ t) (each_same f (i + 1) xs)

pub each_rows : {A : Type 0} (f : A → List Entry) (i : ℕ) (xs : List A) → concat (map f xs) ≡ each_numbers (λ j. f) i xs
each_rows f i [] = refl
each_rows f i (x ∷ xs) = ap (λ t. f x ++ t) (each_rows f (i + 1) xs)

pub along-operands : (own : ℕ) (us : List ℕ) → Along (times (length us) (asked (under own))) (map (entry (under own)) us) us
along-operands own us =
    let F : ℕ → Form ℕ = λ i. asked (under own) in
    let N : ℕ → ℕ → List Entry = λ i u. entry (under own) u ∷ [] in
    let h : Along (each F 0 (length us)) (each_numbers N 0 us) (map (λ u. u) us) = along-each F N (λ u. u) (λ j u. (refl, refl)) 0 us in
    rw (each_same (entry (under own)) 0 us) (subst (λ xs. Along (each F 0 (length us)) (each_numbers N 0 us) xs) (map-id us) h)

pub along-node : (top own : ℕ) (v : NodeRecord) → Along (node_form top own) (node_numbers top own v) (node_meant v)
unfolding node_form
along-node top own v =
    along_bind (head_form top) (λ h. ◌>>=◌ (times h.count (asked (under own))) (λ ids. done (node_of h ids))) (head_numbers top v)
    (map (entry (under own)) v.operands) (head_meant v) (node_meant v) (along-head top v)
    (along-map (times (length v.operands) (asked (under own))) (node_of (head_meant v)) _ _ (along-operands own v.operands))

-- the code of a weight is read back
coded-weight : (u v : ℕ) (w : ℤ) → difference u v (code_of_weight w) ≡ record { from = u; to = v; plus = plus_of w; minus = minus_of w }
coded-weight u v (pos k) =
    let e : (2 * k) % 2 ≡ 0 = omega arith in
    let h : (2 * k) / 2 ≡ k = omega arith in
    rw (e, h)
coded-weight u v (negsuc k) =
    let e : (2 * k + 1) % 2 ≡ 1 = omega arith in
    let h : (2 * k + 1 + 1) / 2 ≡ suc k = omega arith in
    rw (e, h)

along-difference : (n : ℕ) (d : DifferenceRecord) → Along (difference_form n) (difference_numbers n d) (difference_meant d)
unfolding difference_form
along-difference n d = (refl, (refl, (refl, coded-weight d.from d.to d.weight)))

pub along-differences : (n : ℕ) (ds : List DifferenceRecord)
    → Along (times (length ds) (difference_form n)) (concat (map (difference_numbers n) ds)) (map difference_meant ds)
along-differences n ds =
    rw (each_rows (difference_numbers n) 0 ds)
    (along-each (λ i. difference_form n) (λ i. difference_numbers n) difference_meant (λ j. along-difference n) 0 ds)

along-window : (n : ℕ) (is_box : ℕ → Bool) (p low : ℕ) (w : Window) → Along (window_form n is_box p low) (window_numbers n is_box p low w) w
unfolding window_form
along-window n is_box p low w = (refl, (refl, (refl, refl)))

pub along-cycle : (n : ℕ) (is_box : ℕ → Bool) (p : ℕ) (ws : List Window) → Along (cycle_form n is_box) (cycle_numbers n is_box p ws) (cycle_of p ws)
unfolding cycle_form
along-cycle n is_box p ws = (
  refl,
  (refl, along-map (chain next_id (window_form n is_box p) 0 (length ws)) (cycle_of p) _ _ (along-chain next_id (window_form n is_box p) (window_numbers n is_box p) (along-window n is_box p) 0 ws)),
)

abbrev pub header_meant : Records → Header
header_meant R = record { leaves = R.leaves; top = R.top; horizon = R.horizon; nodes = length R.nodes; differences = length R.differences }

pub along-header : (R : Records) → Along header_form (header_numbers R) (header_meant R)
unfolding header_form
along-header R = (refl, (refl, (refl, (refl, (refl, refl)))))

-- what the form asks after the header, after the nodes and after the differences
abbrev pub after_differences : Header → List Node → List Difference → Form Sheet
after_differences h vs ds = ◌>>=◌ (cycle_form h.nodes (box_in vs)) (λ c. done (sheet_of h vs ds c))

abbrev pub after_nodes : Header → List Node → Form Sheet
after_nodes h vs = ◌>>=◌ (times h.differences (difference_form h.nodes)) (after_differences h vs)

abbrev pub after_header : Header → Form Sheet
after_header h = ◌>>=◌ (each (node_form h.top) 0 h.nodes) (after_nodes h)

-- the writer lists its numbers in the order in which the form asks them, each with the rule that stands there
pub along-sheet : (R : Records) → Along sheet_form (numbers R) (sheet_meant R)
unfolding sheet_form numbers
along-sheet R =
    let n = length R.nodes in
    let vs = each_numbers (node_numbers R.top) 0 R.nodes in
    let ds = concat (map (difference_numbers n) R.differences) in
    let ws = cycle_numbers n (boxes_of R) R.period R.windows in
    let vm = map node_meant R.nodes in
    let dm = map difference_meant R.differences in
    along_bind header_form after_header (header_numbers R) (vs ++ (ds ++ ws)) (header_meant R) (sheet_meant R) (along-header R)
    (along_bind (each (node_form R.top) 0 n) (after_nodes (header_meant R)) vs (ds ++ ws) vm (sheet_meant R)
    (along-each (node_form R.top) (node_numbers R.top) node_meant (along-node R.top) 0 R.nodes)
    (along_bind (times (length R.differences) (difference_form n)) (after_differences (header_meant R) vm) ds ws dm (sheet_meant R)
    (along-differences n R.differences)
    (along-map (cycle_form n (boxes_of R)) (sheet_of (header_meant R) vm dm) ws (cycle_of R.period R.windows)
    (along-cycle n (boxes_of R) R.period R.windows))))
