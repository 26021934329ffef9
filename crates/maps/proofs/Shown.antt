-- The numbers that lead through the sheet's form to a sheet are those of its records.
use Prim.Native.Nat.{ℕ, zero, suc, ◌+◌, ◌/◌, ◌%◌, ◌≤◌}
use mathlib.Core.Path.{◌≡◌, refl, sym, ap, ◌∙◌}
use mathlib.Core.Bool.{Bool, true, false, cond}
use mathlib.Core.List.{List, [], ◌∷◌, ◌++◌, map, append-nil, map-append}
use native.Mathlib.Omega.{arith}
use lib.Dec.{eqb}
use lib.ListN.{length, length-map}
use borrow.Author.Tests.{eqb-true, eqb-false}
use Rattle.maps.specs.Sheet.{Sheet, Node, Difference, Window, box_in, latency_of, clock_to_q_of}
use Rattle.maps.specs.Limits.{leaves_range, top_range, horizon_range, size_range, count_range, kind_range, mark_range, id_range, weight_range, ranges_of, period_range, windows_range, box_range, from_range, to_range}
use Rattle.maps.specs.Form.{Rule, among, boxed, under, passes, Form, done, ask, ◌>>=◌, asked, each, times, chain, Leads}
use Rattle.maps.specs.Read.{kind_of, Head, node_of, head_form, node_form, ahead, back, difference_form, window_form, next_id, Cycle, cycle_of, cycle_form, Header, header_form, sheet_of, sheet_form}
use Rattle.maps.specs.WellFormed.{code_of}
use Rattle.maps.specs.Records.{node_meant, node_record, weight_of, difference_record, records_of}
use Rattle.maps.specs.Write.{Entry, entry, node_numbers, code_of_weight, difference_numbers, window_numbers, chain_numbers, cycle_numbers, each_numbers, numbers, values_of}
use Rattle.maps.proofs.Parse.{coded, latency-back, clock-back, in-range}
use Rattle.maps.proofs.Along.{each_rows, after_differences, after_nodes, after_header}

-- whatever the form ends in has the property with the numbers that led there
record Shows {A : Type 0} (P : A → List ℕ → Type 0) (f : Form A) : Type 0 where
  shows : (ns : List ℕ) (a : A) → Leads f ns (done a) → P a ns

never : {A X : Type 0} {r : Rule} {f : ℕ → Form A} {a : A} → ask r f ≡ done a → X
never e = let z : ◌≡◌ {A = ℕ} 0 1 = cc in absurd (omega arith)

-- the numbers of a form followed by another
record Parts {A B : Type 0} (f : Form A) (g : A → Form B) (ns : List ℕ) (b : B) : Type 0 where
  mid : A
  front : List ℕ
  back : List ℕ
  joined : ns ≡ front ++ back
  first : Leads f front (done mid)
  second : Leads (g mid) back (done b)

parts : {A B : Type 0} (f : Form A) (g : A → Form B) (ns : List ℕ) (b : B) → Leads (◌>>=◌ f g) ns (done b) → Parts f g ns b
parts (done a) g ns b l = record { mid = a; front = []; back = ns; joined = refl; first = refl; second = l }
parts (ask r f) g [] b l = never l
parts (ask r f) g (n ∷ ns) b l =
    let t = parts (f n) g ns b l.1 in
    record {
      mid = t.mid;
      front = n ∷ t.front;
      back = t.back;
      joined = ap (λ xs. n ∷ xs) t.joined;
      first = (l.0, t.first);
      second = t.second;
    }

bind : {A B : Type 0} {P : A → List ℕ → Type 0} {Q : B → List ℕ → Type 0} (f : Form A) (g : A → Form B) → Shows P f
    → ((a : A) (ns : List ℕ) → P a ns → Shows (λ b ms. Q b (ns ++ ms)) (g a)) → Shows Q (◌>>=◌ f g)
bind {Q = Q} f g hf hg =
    record {
      shows = λ ns b l.
          let t = parts f g ns b l in
          rw t.joined ((hg t.mid t.front (hf.shows t.front t.mid t.first)).shows t.back b t.second);
    }

shows-done : {A : Type 0} {P : A → List ℕ → Type 0} (a : A) → P a [] → Shows P (done a)
shows-done {A} {P} a h = record { shows = go }
  where
    go : (ns : List ℕ) (b : A) → Leads (done a) ns (done b) → P b ns
    go [] b l = let e : a ≡ b = cc in rw (sym e) h
    go (n ∷ ns) b l = absurd l

-- one number that is as asked
record One (r : Rule) (x : ℕ) (ns : List ℕ) : Type 0 where
  alone : ns ≡ x ∷ []
  good : passes r x ≡ true

shows-asked : (r : Rule) → Shows (One r) (asked r)
shows-asked r = record { shows = go }
  where
    go : (ns : List ℕ) (x : ℕ) → Leads (asked r) ns (done x) → One r x ns
    go [] x l = never l
    go (n ∷ []) x l =
        let e : n ≡ x = cc l.1 in
        record { alone = ap (λ y. y ∷ []) e; good = rw e at l.0 }
    go (n ∷ m ∷ ns) x l = absurd l.1

-- n in turn
abbrev each_list : {A : Type 0} → (ℕ → A → List ℕ) → ℕ → List A → List ℕ
each_list N i [] = []
each_list N i (a ∷ rest) = N i a ++ each_list N (i + 1) rest

record Each {A : Type 0} (N : ℕ → A → List ℕ) (i n : ℕ) (xs : List A) (ns : List ℕ) : Type 0 where
  counted : length xs ≡ n
  listed : ns ≡ each_list N i xs

shows-each : {A : Type 0} (N : ℕ → A → List ℕ) (f : ℕ → Form A) → ((i : ℕ) → Shows (λ a ns. ns ≡ N i a) (f i)) → (i n : ℕ)
    → Shows (Each N i n) (each f i n)
shows-each N f h i zero = shows-done [] (record { counted = refl; listed = refl })
shows-each N f h i (suc n) =
    bind (f i) (λ a. ◌>>=◌ (each f (i + 1) n) (λ rest. done (a ∷ rest))) (h i) λ a ns e.
    bind (each f (i + 1) n) (λ rest. done (a ∷ rest)) (shows-each N f h (i + 1) n) λ rest ms q.
    shows-done (a ∷ rest) (record { counted = ap suc q.counted; listed = rw (append-nil ms, e, q.listed) })

-- n in a chain, whose numbers are each element's own
abbrev row_list : {A : Type 0} → (A → List ℕ) → List A → List ℕ
row_list N [] = []
row_list N (a ∷ rest) = N a ++ row_list N rest

record Rows {A : Type 0} (N : A → List ℕ) (n : ℕ) (xs : List A) (ns : List ℕ) : Type 0 where
  counted : length xs ≡ n
  listed : ns ≡ row_list N xs

shows-chain : {A : Type 0} (N : A → List ℕ) (next : A → ℕ) (f : ℕ → Form A) → ((i : ℕ) → Shows (λ a ns. ns ≡ N a) (f i)) → (i n : ℕ)
    → Shows (Rows N n) (chain next f i n)
shows-chain N next f h i zero = shows-done [] (record { counted = refl; listed = refl })
shows-chain N next f h i (suc n) =
    bind (f i) (λ a. ◌>>=◌ (chain next f (next a) n) (λ rest. done (a ∷ rest))) (h i) λ a ns e.
    bind (chain next f (next a) n) (λ rest. done (a ∷ rest)) (shows-chain N next f h (next a) n) λ rest ms q.
    shows-done (a ∷ rest) (record { counted = ap suc q.counted; listed = rw (append-nil ms, e, q.listed) })

-- a mark is 0 or 1
pub mark-back : (x : ℕ) → x ≤ 1 → cond (eqb x 1) 1 0 ≡ x
mark-back zero l = refl
mark-back (suc zero) l = refl
mark-back (suc (suc x)) l = absurd (omega arith)

abbrev head_list : Head → List ℕ
head_list h = code_of h.kind ∷ cond h.output 1 0 ∷ h.delay ∷ latency_of h.kind ∷ clock_to_q_of h.kind ∷ h.count ∷ []

shows_head : (top : ℕ) → Shows (λ h ns. ns ≡ head_list h) (head_form top)
unfolding head_form
shows_head top =
    bind (asked (among kind_range)) _ (shows-asked (among kind_range)) λ kind nk hk.
    bind (asked (among mark_range)) _ (shows-asked (among mark_range)) λ mark nm hm.
    bind (asked (among (ranges_of top kind).delay)) _ (shows-asked _) λ d nd hd.
    bind (asked (among (ranges_of top kind).latency)) _ (shows-asked _) λ lat nl hl.
    bind (asked (among ((ranges_of top kind).clock_to_q lat))) _ (shows-asked _) λ q nq hq.
    bind (asked (among (ranges_of top kind).operands)) _ (shows-asked _) λ count nc hc.
    shows-done _
    (let c : code_of (kind_of kind lat q) ≡ kind = coded kind lat q (in-range kind_range kind hk.good).most in
    let m : cond (eqb mark 1) 1 0 ≡ mark = mark-back mark (in-range mark_range mark hm.good).most in
    let l : latency_of (kind_of kind lat q) ≡ lat = latency-back top kind lat q (in-range (ranges_of top kind).latency lat hl.good) in
    let z : clock_to_q_of (kind_of kind lat q) ≡ q = clock-back top kind lat q (in-range ((ranges_of top kind).clock_to_q lat) q hq.good) in
    rw (hk.alone, hm.alone, hd.alone, hl.alone, hq.alone, hc.alone, c, m, l, z))

abbrev node_list : (top own : ℕ) → Node → List ℕ
node_list top own v = values_of (node_numbers top own (node_record v))

shows-operand : (own i : ℕ) → Shows (λ u ns. ns ≡ u ∷ []) (asked (under own))
shows-operand own i = record { shows = λ ns u l. ((shows-asked (under own)).shows ns u l).alone }

operand-list : (own i : ℕ) (us : List ℕ) → each_list (λ j u. u ∷ []) i us ≡ values_of (map (entry (under own)) us)
operand-list own i [] = refl
operand-list own i (u ∷ us) = ap (λ t. u ∷ t) (operand-list own (i + 1) us)

shows-node : (top own : ℕ) → Shows (λ v ns. ns ≡ node_list top own v) (node_form top own)
unfolding node_form
shows-node top own =
    bind (head_form top) (λ h. ◌>>=◌ (times h.count (asked (under own))) (λ ids. done (node_of h ids))) (shows_head top) λ h nh eh.
    bind (times h.count (asked (under own))) (λ ids. done (node_of h ids)) (shows-each (λ i u. u ∷ []) (λ i. asked (under own)) (shows-operand own) 0 h.count) λ ids ni hi.
    shows-done (node_of h ids) (rw (eh, hi.listed, append-nil (each_list (λ j u. u ∷ []) 0 ids), operand-list own 0 ids, hi.counted))

-- a code is that of the weight that it was read as
code-back : (c : ℕ) → code_of_weight (weight_of (ahead c) (back c)) ≡ c
code-back c = go (eqb (c % 2) 0) refl
  where
    go : (b : Bool) → eqb (c % 2) 0 ≡ b → code_of_weight (weight_of (cond b (c / 2) 0) (cond b 0 ((c + 1) / 2))) ≡ c
    go true e = omega (arith, eqb-true (c % 2) 0 e)
    go false e =
        let h : (c + 1) / 2 ≡ suc (c / 2) = omega (arith, eqb-false (c % 2) 0 e) in
        rw h (omega (arith, eqb-false (c % 2) 0 e))

abbrev difference_list : ℕ → Difference → List ℕ
difference_list n d = values_of (difference_numbers n (difference_record d))

shows-difference : (n : ℕ) → Shows (λ d ns. ns ≡ difference_list n d) (difference_form n)
unfolding difference_form
shows-difference n =
    bind (asked (among (id_range n))) _ (shows-asked _) λ u nu hu.
    bind (asked (among (id_range n))) _ (shows-asked _) λ v nv hv.
    bind (asked (among weight_range)) _ (shows-asked _) λ c nc hc.
    shows-done _ (rw (hu.alone, hv.alone, hc.alone, code-back c))

abbrev window_list : Window → List ℕ
window_list w = w.id ∷ w.from ∷ w.to ∷ []

shows-window : (n : ℕ) (is_box : ℕ → Bool) (p low : ℕ) → Shows (λ w ns. ns ≡ window_list w) (window_form n is_box p low)
unfolding window_form
shows-window n is_box p low =
    bind (asked (boxed (box_range n low) is_box)) _ (shows-asked _) λ id ni hi.
    bind (asked (among (from_range p))) _ (shows-asked _) λ from nf hf.
    bind (asked (among (to_range p from))) _ (shows-asked _) λ to nt ht.
    shows-done _ (rw (hi.alone, hf.alone, ht.alone))

abbrev cycle_list : Cycle → List ℕ
cycle_list c = c.period ∷ length c.windows ∷ row_list window_list c.windows

shows-cycle : (n : ℕ) (is_box : ℕ → Bool) → Shows (λ c ns. ns ≡ cycle_list c) (cycle_form n is_box)
unfolding cycle_form
shows-cycle n is_box =
    bind (asked (among period_range)) _ (shows-asked _) λ p np hp.
    bind (asked (among (windows_range n))) _ (shows-asked _) λ count nc hc.
    bind (chain next_id (window_form n is_box p) 0 count) (λ ws. done (cycle_of p ws)) (shows-chain window_list next_id (window_form n is_box p) (shows-window n is_box p) 0 count) λ ws nw hw.
    shows-done (cycle_of p ws) (rw (hp.alone, hc.alone, hw.listed, append-nil (row_list window_list ws), hw.counted))

values-windows : (n : ℕ) (is_box : ℕ → Bool) (p low : ℕ) (ws : List Window)
    → values_of (chain_numbers next_id (window_numbers n is_box p) low ws) ≡ row_list window_list ws
values-windows n is_box p low [] = refl
values-windows n is_box p low (w ∷ ws) = ap (λ t. w.id ∷ w.from ∷ w.to ∷ t) (values-windows n is_box p (next_id w) ws)

abbrev header_list : Header → List ℕ
header_list h = h.leaves ∷ h.top ∷ h.horizon ∷ h.nodes ∷ h.differences ∷ []

shows-header : Shows (λ h ns. ns ≡ header_list h) header_form
unfolding header_form
shows-header =
    bind (asked (among leaves_range)) _ (shows-asked _) λ k nk hk.
    bind (asked (among top_range)) _ (shows-asked _) λ t nt ht.
    bind (asked (among horizon_range)) _ (shows-asked _) λ h nh hh.
    bind (asked (among size_range)) _ (shows-asked _) λ n nn hn.
    bind (asked (among count_range)) _ (shows-asked _) λ m nm hm.
    shows-done _ (rw (hk.alone, ht.alone, hh.alone, hn.alone, hm.alone))

values-each : {A G : Type 0} (N : ℕ → G → List Entry) (k : A → G) (i : ℕ) (xs : List A)
    → values_of (each_numbers N i (map k xs)) ≡ each_list (λ j a. values_of (N j (k a))) i xs
values-each N k i [] = refl
values-each N k i (x ∷ xs) = map-append (λ (e : Entry). e.value) (N i (k x)) _ ∙ ap (λ t. values_of (N i (k x)) ++ t) (values-each N k (i + 1) xs)

-- the numbers of a sheet's records, part by part
sheet-list : (h : Header) (vs : List Node) (ds : List Difference) (c : Cycle) → length vs ≡ h.nodes → length ds ≡ h.differences
    → values_of (numbers (records_of (sheet_of h vs ds c)))
    ≡ header_list h ++ (each_list (node_list h.top) 0 vs ++ (each_list (λ i. difference_list h.nodes) 0 ds ++ cycle_list c))
unfolding numbers
sheet-list h vs ds cy n m =
    let is_box = box_in (map node_meant (map node_record vs)) in
    let ws = cycle_numbers h.nodes is_box cy.period cy.windows in
    let us = each_numbers (λ i. difference_numbers h.nodes) 0 (map difference_record ds) in
    let a = values-each (node_numbers h.top) node_record 0 vs in
    let b = values-each (λ i. difference_numbers h.nodes) difference_record 0 ds in
    let c = length-map vs node_record ∙ n in
    let d = length-map ds difference_record ∙ m in
    rw (
      c,
      d,
      each_rows (difference_numbers h.nodes) 0 (map difference_record ds),
      map-append (λ (e : Entry). e.value) (each_numbers (node_numbers h.top) 0 (map node_record vs)) (us ++ ws),
      map-append (λ (e : Entry). e.value) us ws,
      a,
      b,
      values-windows h.nodes is_box cy.period 0 cy.windows,
    )

-- a form asks a number for each field of what it ends in, so the numbers can be had back from the sheet
pub shows-sheet : (ns : List ℕ) (S : Sheet) → Leads sheet_form ns (done S) → ns ≡ values_of (numbers (records_of S))
unfolding sheet_form
shows-sheet = all.shows
  where
    all : Shows (λ S ns. ns ≡ values_of (numbers (records_of S))) sheet_form
    all =
        bind header_form after_header shows-header λ h nh eh.
        bind (each (node_form h.top) 0 h.nodes) (after_nodes h) (shows-each (node_list h.top) (node_form h.top) (shows-node h.top) 0 h.nodes) λ vs nv hv.
        bind (times h.differences (difference_form h.nodes)) (after_differences h vs)
        (shows-each (λ i. difference_list h.nodes) (λ i. difference_form h.nodes) (λ i. shows-difference h.nodes) 0 h.differences) λ ds nd hd.
        bind (cycle_form h.nodes (box_in vs)) (λ c. done (sheet_of h vs ds c)) (shows-cycle h.nodes (box_in vs)) λ c nc hc.
        shows-done (sheet_of h vs ds c) (rw (eh, hv.listed, hd.listed, hc, append-nil (cycle_list c), sheet-list h vs ds c hv.counted hd.counted))
