-- An earlier sheet that reads can be rewritten with q = 0 in every node where its nodes have none, and with P = 1 and no entries, and then keeps its
-- outcome.
use Prim.Native.Nat.{ℕ, zero, suc, ◌+◌, ◌<◌}
use mathlib.Core.Path.{◌≡◌, refl, sym, subst, ap, ◌∙◌}
use mathlib.Core.Bool.{Bool, true}
use mathlib.Core.List.{List, [], ◌∷◌, ◌++◌, map}
use native.Mathlib.Omega.{arith}
use lib.Dec.{eqb}
use lib.ListN.{length, get_or}
use borrow.Author.Tests.{le-leb}
use Rattle.maps.specs.Lists.{All, concat}
use Rattle.maps.specs.Sheet.{Sheet, Node, Difference, no_node, box_in, clock_to_q, clock_to_q_of}
use Rattle.maps.specs.Number.{Bytes, values}
use Rattle.maps.specs.Limits.{ranges_of}
use Rattle.maps.specs.Form.{among, under, passes, Form, done, ◌>>=◌, asked, each, times, read, Leads}
use Rattle.maps.specs.Read.{kind_of, node_form, difference_form, Header, header_form, Cycle, cycle_of, cycle_form, sheet_of, sheet_form, sheet, parse}
use Rattle.maps.specs.WellFormed.{WellFormed}
use Rattle.maps.specs.Records.{NodeRecord, Records, node_meant, difference_meant, node_record, records_of}
use Rattle.maps.specs.Write.{Entry, header_numbers, node_numbers, difference_numbers, cycle_numbers, boxes_of, each_numbers, numbers, values_of, spelled, spelling, Passes}
use Rattle.maps.specs.Outcome.{outcome, parsed, cutless}
use Rattle.maps.proofs.Member.{All-join, All-split}
use Rattle.maps.proofs.Parse.{parse-well}
use Rattle.maps.proofs.Along.{Along, along_bind, along-map, along-each, along-end, along-operands, along-node, along-differences, header_meant, along-header, after_differences, after_nodes, after_header}
use Rattle.maps.proofs.Shown.{shows-sheet}
use Rattle.maps.proofs.Spellable.{leads-small}
use Rattle.maps.proofs.RecordLaws.{node-meant, differences-meant, well-passes}
use Rattle.maps.proofs.Written.{leads-whole, leads-parse, whole-leads, reads-parse}
use Rattle.former.specs.Former.{former_node_form, earlier_form, earlier_parse, former_parse, unwindowed_parse, former_node_numbers, earlier_numbers, earlier_spelling}
use Rattle.former.specs.Plain.{plain_parsed}
use Rattle.former.specs.Rewritten.{WithoutWindows, Rewritten, Unwindowed, Keeps, KeepsReady}
use Rattle.former.proofs.Omitting.{Omits, end, both, skip, omits-bind, omits-none, omits-each, left, left-all, filled}
use Rattle.former.proofs.Unwindowed.{legal-is-plain, round-plain, covered-plain}

-- what an earlier form of nodes has to do with today's: it omits numbers of it, its numbers are some of today's and go along it, and a node with the
-- property is what its record so means
record Earlier (F : (top own : ℕ) → Form Node) (N : (top own : ℕ) → NodeRecord → List Entry) (val : NodeRecord → Node) (P : Node → Type 0) : Type 0 where
  omits : (top own : ℕ) → Omits P (F top own) (node_form top own)
  along : (top own : ℕ) (v : NodeRecord) → Along (F top own) (N top own v) (val v)
  passing : (top own : ℕ) (v : NodeRecord) → All Passes (node_numbers top own v) → All Passes (N top own v)
  meant : (v : Node) → P v → val (node_record v) ≡ v

-- The earlier form omits the period and the count too, for which 1 and 0 stand, and ends in the sheet that today's ends in with these.
without-passes : (n : ℕ) (is_box : ℕ → Bool) → Omits (λ c. c ≡ cycle_of 1 []) (done (cycle_of 1 [])) (cycle_form n is_box)
unfolding cycle_form
without-passes n is_box = skip 1 refl (skip 0 (le-leb 0 n (omega arith)) (end refl))

module _ (F : (top own : ℕ) → Form Node) (N : (top own : ℕ) → NodeRecord → List Entry) (val : NodeRecord → Node) (P : Node → Type 0)
    (early : Earlier F N val P) where
  record Fits (S : Sheet) : Type 0 where
    nodes : All P S.nodes
    without : WithoutWindows S

  abbrev after_all : Header → List Node → List Difference → Form Sheet
  after_all h vs ds = done (sheet_of h vs ds (cycle_of 1 []))

  abbrev earlier_after_nodes : Header → List Node → Form Sheet
  earlier_after_nodes h vs = ◌>>=◌ (times h.differences (difference_form h.nodes)) (after_all h vs)

  abbrev earlier_after_header : Header → Form Sheet
  earlier_after_header h = ◌>>=◌ (each (F h.top) 0 h.nodes) (earlier_after_nodes h)

  omits-sheet : Omits Fits (earlier_form F) sheet_form
  unfolding earlier_form sheet_form
  omits-sheet =
      omits-bind earlier_after_header after_header (omits-none header_form) λ h u.
      omits-bind (earlier_after_nodes h) (after_nodes h) (omits-each P (F h.top) (node_form h.top) (early.omits h.top) 0 h.nodes) λ vs z.
      omits-bind (after_all h vs) (after_differences h vs) (omits-none (times h.differences (difference_form h.nodes))) λ ds w.
      omits-bind (λ c. done (sheet_of h vs ds c)) (λ c. done (sheet_of h vs ds c)) (without-passes h.nodes (box_in vs)) λ c e.
      end (record { nodes = z; without = record { period = ap (λ (k : Cycle). k.period) e; windows = ap (λ (k : Cycle). k.windows) e } })

  -- Records go along the earlier form to what they so mean.
  abbrev earlier_meant : Records → Sheet
  earlier_meant R = sheet_of (header_meant R) (map val R.nodes) (map difference_meant R.differences) (cycle_of 1 [])

  along-earlier : (R : Records) → Along (earlier_form F) (earlier_numbers N R) (earlier_meant R)
  unfolding earlier_form earlier_numbers
  along-earlier R =
      let n = length R.nodes in
      let vs = each_numbers (N R.top) 0 R.nodes in
      let ds = concat (map (difference_numbers n) R.differences) in
      along_bind header_form earlier_after_header (header_numbers R) (vs ++ ds) (header_meant R) (earlier_meant R) (along-header R)
      (along_bind (each (F R.top) 0 n) (earlier_after_nodes (header_meant R)) vs ds (map val R.nodes) (earlier_meant R)
      (along-each (F R.top) (N R.top) val (early.along R.top) 0 R.nodes)
      (along-map (times (length R.differences) (difference_form n)) (λ ds. sheet_of (header_meant R) (map val R.nodes) ds (cycle_of 1 [])) ds
      (map difference_meant R.differences) (along-differences n R.differences)))

  -- the earlier numbers are some of today's, each under the same rule
  nodes-pass : (top own : ℕ) (vs : List NodeRecord) → All Passes (each_numbers (node_numbers top) own vs) → All Passes (each_numbers (N top) own vs)
  nodes-pass top own [] p = tt
  nodes-pass top own (v ∷ vs) p =
      let t = All-split Passes (node_numbers top own v) _ p in
      All-join Passes (N top own v) _ (early.passing top own v t.0) (nodes-pass top (own + 1) vs t.1)

  numbers-pass : (R : Records) → All Passes (numbers R) → All Passes (earlier_numbers N R)
  unfolding numbers earlier_numbers
  numbers-pass R p =
      let n = length R.nodes in
      let vs = each_numbers (node_numbers R.top) 0 R.nodes in
      let us = each_numbers (N R.top) 0 R.nodes in
      let ds = concat (map (difference_numbers n) R.differences) in
      let ws = cycle_numbers n (boxes_of R) R.period R.windows in
      let h = All-split Passes (header_numbers R) (vs ++ (ds ++ ws)) p in
      let t = All-split Passes vs (ds ++ ws) h.1 in
      let d = All-split Passes ds ws t.1 in
      All-join Passes (header_numbers R) (us ++ ds) h.0 (All-join Passes us ds (nodes-pass R.top 0 R.nodes t.0) d.0)

  -- and a sheet that fits is what its records so mean
  nodes-meant : (vs : List Node) → All P vs → map val (map node_record vs) ≡ vs
  nodes-meant [] z = refl
  nodes-meant (v ∷ vs) z = rw (early.meant v z.0, nodes-meant vs z.1)

  sheet-meant : (S : Sheet) → WellFormed S → Fits S → earlier_meant (records_of S) ≡ S
  sheet-meant S w f =
      rw (nodes-meant S.nodes f.nodes, differences-meant (length S.nodes) S.differences w.differences, sym f.without.period, sym f.without.windows)

  -- the earlier numbers of a well-formed sheet that fits lead through the earlier form to it
  numbers-lead : (S : Sheet) → WellFormed S → Fits S → Leads (earlier_form F) (values_of (earlier_numbers N (records_of S))) (done S)
  numbers-lead S w f =
      let R = records_of S in
      along-end (earlier_form F) (earlier_numbers N R) S (subst (Along (earlier_form F) (earlier_numbers N R)) (sheet-meant S w f) (along-earlier R))
      (numbers-pass R (well-passes S w))

  -- numbers that lead to the end of the earlier form are read as the sheet: with those put in all have spellings
  leads-earlier : (ns : List ℕ) (S : Sheet) → Leads (earlier_form F) ns (done S) → earlier_parse F (spelled ns) ≡ sheet S
  unfolding earlier_parse
  leads-earlier ns S l =
      let t = filled omits-sheet ns S l in
      let a = left-all (λ n. n < values) omits-sheet t.full (leads-small t.full (done S) t.leads) in
      leads-whole (earlier_form F) ns S (rw t.rest at a) l

  -- at most one list of numbers leads through the earlier form to a sheet: with those put in, it is that of today's form
  one_list : (ns ms : List ℕ) (S : Sheet) → Leads (earlier_form F) ns (done S) → Leads (earlier_form F) ms (done S) → ns ≡ ms
  one_list ns ms S l k =
      let t = filled omits-sheet ns S l in
      let u = filled omits-sheet ms S k in
      sym t.rest ∙ ap (left omits-sheet) (shows-sheet t.full S t.leads ∙ sym (shows-sheet u.full S u.leads)) ∙ u.rest

  record Restored (old : List ℕ) (S : Sheet) : Type 0 where
    well : WellFormed S
    fits : Fits S
    former : old ≡ earlier_spelling N S

  -- Every sheet of the earlier form that reads can be rewritten, and its bytes are the one spelling so of what it reads as. With the numbers put in it
  -- leads through today's form to the same sheet, which so is well formed; and the earlier numbers of that sheet lead to it too, so they are the numbers
  -- that were read.
  restored : (old : List ℕ) (S : Sheet) → Bytes old → earlier_parse F old ≡ sheet S → Restored old S
  unfolding earlier_parse earlier_spelling
  restored old S b e =
      let t = whole-leads (earlier_form F) old S b e in
      let f = filled omits-sheet t.0 S t.1 in
      let w = parse-well (spelled f.full) S (leads-parse f.full S f.leads) in
      let ns = values_of (earlier_numbers N (records_of S)) in
      record { well = w; fits = f.holds; former = t.2 ∙ ap spelled (one_list t.0 ns S t.1 (numbers-lead S w f.holds)) }

  -- A sheet so rewritten keeps its outcome: the earlier spelling reads by the earlier form, and today's by today's, as one sheet, and the outcome is that
  -- of the sheet, whose windows close nothing.
  keeping : (old bytes : List ℕ) (S : Sheet) → WellFormed S → Fits S → old ≡ earlier_spelling N S → bytes ≡ spelling S → Keeps (earlier_parse F) old bytes S
  unfolding earlier_spelling outcome
  keeping old bytes S w f former now =
      let e : earlier_parse F old ≡ sheet S = rw former (leads-earlier (values_of (earlier_numbers N (records_of S))) S (numbers-lead S w f)) in
      let p : parse bytes ≡ sheet S = reads-parse bytes S (record { well = w; spelled = now }) in
      record {
        former_reads = e;
        reads = p;
        legal = legal-is-plain S w f.without.windows;
        round = round-plain S w f.without.windows;
        outcomes = λ room. ap (parsed room) p ∙ covered-plain S w f.without.windows room (cutless S) ∙ ap (plain_parsed room) (sym e);
      }

-- Document 01's nodes: 0 is a q for every node, and is its q where it is given.
zero-passes : (top kind lat : ℕ) → passes (among ((ranges_of top kind).clock_to_q lat)) 0 ≡ true
zero-passes top zero lat = refl
zero-passes top (suc zero) lat = refl
zero-passes top (suc (suc k)) zero = refl
zero-passes top (suc (suc k)) (suc lat) = le-leb 0 top (omega arith)

zero-back : (kind lat : ℕ) → clock_to_q_of (kind_of kind lat 0) ≡ 0
zero-back zero lat = refl
zero-back (suc zero) lat = refl
zero-back (suc (suc k)) lat = refl

-- q of the node is 0
abbrev Zero : Node → Type 0
Zero v = clock_to_q_of v.kind ≡ 0

-- also past the last node
zero-at : (vs : List Node) → All Zero vs → (v : ℕ) → Zero (get_or vs v no_node)
zero-at [] h v = refl
zero-at (x ∷ vs) h zero = h.0
zero-at (x ∷ vs) h (suc v) = zero-at vs h.1 v

zero-all : (vs : List Node) → ((v : ℕ) → Zero (get_or vs v no_node)) → All Zero vs
zero-all [] h = tt
zero-all (x ∷ vs) h = (h 0, zero-all vs (λ v. h (suc v)))

omits-node : (top own : ℕ) → Omits Zero (former_node_form top own) (node_form top own)
unfolding former_node_form node_form
omits-node top own =
    both λ kind.
    both λ mark.
    both λ d.
    both λ lat.
    skip 0 (zero-passes top kind lat)
    (both λ count. omits-bind _ _ (omits-none (times count (asked (under own)))) λ ids u. end (zero-back kind lat))

abbrev former_meant : NodeRecord → Node
former_meant v = record { kind = kind_of v.kind v.latency 0; output = eqb v.mark 1; delay = v.delay; operands = v.operands }

along-former : (top own : ℕ) (v : NodeRecord) → Along (former_node_form top own) (former_node_numbers top own v) (former_meant v)
unfolding former_node_form
along-former top own v = (
  refl,
  (refl, (refl, (refl, (refl, along-map (times (length v.operands) (asked (under own))) _ _ _ (along-operands own v.operands))))),
)

former : Earlier former_node_form former_node_numbers former_meant Zero
former =
    record {
      omits = omits-node;
      along = along-former;
      passing = λ top own v q. (q.0, (q.1.0, (q.1.1.0, (q.1.1.1.0, q.1.1.1.1.1))));
      meant = λ v z. rw z at (node-meant v);
    }

-- the nodes before U8 are today's
unwindowed : Earlier node_form node_numbers node_meant (λ v. Unit {0})
unwindowed =
    record {
      omits = λ top own. omits-none (node_form top own);
      along = along-node;
      passing = λ top own v q. q;
      meant = λ v z. node-meant v;
    }

everything : (vs : List Node) → All (λ v. Unit {0}) vs
everything [] = tt
everything (v ∷ vs) = (tt, everything vs)

pub rewrites : (old : List ℕ) (S : Sheet) → Bytes old → former_parse old ≡ sheet S → (r : Rewritten old (spelling S)) × (r.held ≡ S)
rewrites old S b e =
    let t = restored former_node_form former_node_numbers former_meant Zero former old S b e in
    (record { held = S; well = t.well; without = t.fits.without; zero = zero-at S.nodes t.fits.nodes; former = t.former; now = refl }, refl)

pub keeps : (old bytes : List ℕ) (r : Rewritten old bytes) → Keeps former_parse old bytes r.held
keeps old bytes r =
    keeping former_node_form former_node_numbers former_meant Zero former old bytes r.held r.well
    (record { nodes = zero-all r.held.nodes r.zero; without = r.without }) r.former r.now

pub keeps-ready : (old bytes : List ℕ) (r : Rewritten old bytes) → KeepsReady r.held
keeps-ready old bytes r = record { ready = λ L u. rw (r.zero u) }

pub unwindows : (old : List ℕ) (S : Sheet) → Bytes old → unwindowed_parse old ≡ sheet S → (r : Unwindowed old (spelling S)) × (r.held ≡ S)
unwindows old S b e =
    let t = restored node_form node_numbers node_meant (λ v. Unit {0}) unwindowed old S b e in
    (record { held = S; well = t.well; without = t.fits.without; former = t.former; now = refl }, refl)

pub keeps-unwindowed : (old bytes : List ℕ) (r : Unwindowed old bytes) → Keeps unwindowed_parse old bytes r.held
keeps-unwindowed old bytes r =
    keeping node_form node_numbers node_meant (λ v. Unit {0}) unwindowed old bytes r.held r.well
    (record { nodes = everything r.held.nodes; without = r.without }) r.former r.now
