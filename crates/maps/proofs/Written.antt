-- The sheet writer and the reader: what is written reads as the records, and what reads is written again, byte for byte.
use Prim.Native.Nat.{ℕ, ◌+◌, ◌-◌, ◌≤◌, ◌<◌}
use mathlib.Core.Path.{◌≡◌, refl, sym, ap, ◌∙◌}
use mathlib.Core.Bool.{Bool, true, false, cond}
use mathlib.Core.List.{List, [], ◌++◌, append-nil}
use native.Mathlib.Omega.{arith}
use native.Mathlib.Nat.{zero-add}
use lib.Dec.{leb, ltb}
use lib.ListN.{length, drop, drop_of_length-le}
use borrow.Author.Tests.{ltb-false, le-ltb, le-leb, lt-leb}
use Rattle.maps.specs.Lists.{All}
use Rattle.maps.specs.Sheet.{Sheet}
use Rattle.maps.specs.Number.{Bytes, Got, got, refusal, number, width, values, encoded}
use Rattle.maps.specs.Form.{Rule, rule_ground, passes, Form, done, ask, read, Leads}
use Rattle.maps.specs.Read.{sheet_form, sheet, refused, whole, parse}
use Rattle.maps.specs.Outcome.{accepted, within}
use Rattle.maps.specs.Outcome as O
use Rattle.maps.specs.Records.{Records, sheet_meant, records_of}
use Rattle.maps.specs.Reading.{ReadsAs}
use Rattle.maps.specs.Write.{numbers, values_of, spelled, spelling, Passes, First, Verdict, good, fault, verdict, answered, writing}
use Rattle.maps.proofs.Spelling.{read_at}
use Rattle.maps.proofs.Parse.{parse-well}
use Rattle.maps.proofs.Leading.{leads-read, Ends, ends}
use Rattle.maps.proofs.Leading as L
use Rattle.maps.proofs.Along.{along-sheet, along-end}
use Rattle.maps.proofs.Shown.{shows-sheet}
use Rattle.maps.proofs.Spellable.{leads-small}
use Rattle.maps.proofs.RecordLaws.{records-again, sheet-again, well-passes}
use Rattle.maps.proofs.Verdicts.{Judged, all, one, judge, verdict-good, verdict-fault}

module _ (R : Records) (room : ℕ) where
  -- the writer accepts only where every number passes and the spelling has room
  pub writing-passes : {bytes : List ℕ} → writing R room ≡ accepted bytes → All Passes (numbers R) × (bytes ≡ spelled (values_of (numbers R)))
  unfolding writing
  writing-passes {bytes} e = go (verdict 0 (numbers R)) (judge 0 (numbers R)) e
    where
      text : List ℕ
      text = spelled (values_of (numbers R))

      roomed : (b : Bool) → cond b (accepted text) (O.refusal 8 (length text)) ≡ accepted bytes → bytes ≡ text
      roomed true e = cc
      roomed false e = let z : ◌≡◌ {A = ℕ} 0 1 = cc in absurd (omega arith)

      go : (v : Verdict) → Judged (numbers R) 0 v → answered v text room ≡ accepted bytes → All Passes (numbers R) × (bytes ≡ text)
      go (good _) (all h) e = (h, roomed (leb (length text) room) e)
      go (fault k i) (one f) e = let z : ◌≡◌ {A = ℕ} 0 1 = cc in absurd (omega arith)

  -- and there it does, or lacks room: "then 8"
  pub passes-writing : All Passes (numbers R) → writing R room ≡ within room (spelled (values_of (numbers R)))
  unfolding writing
  passes-writing p = rw (verdict-good 0 (numbers R) p)

  pub passes-written : All Passes (numbers R) → length (spelled (values_of (numbers R))) ≤ room → writing R room ≡ accepted (spelled (values_of (numbers R)))
  passes-written p l = passes-writing p ∙ rw (le-leb (length (spelled (values_of (numbers R)))) room l)

  pub passes-short : All Passes (numbers R) → room < length (spelled (values_of (numbers R))) → writing R room ≡ O.refusal 8 (length (spelled (values_of (numbers R))))
  passes-short p l = passes-writing p ∙ rw (lt-leb (length (spelled (values_of (numbers R)))) room l)

  -- "the first number that the reader would refuse gets 3 or 4 (place: which number of the sheet, from 0)"
  pub first-refused : (k i : ℕ) → First (numbers R) k i → writing R room ≡ O.refusal k i
  unfolding writing
  first-refused k i f = let q : 0 + i ≡ i = omega arith in rw (verdict-fault 0 (numbers R) k i f, q)

-- numbers that lead to the end of a form and have spellings are read as the sheet that it ends in
pub leads-whole : (f : Form Sheet) (ns : List ℕ) (S : Sheet) → All (λ n. n < values) ns → Leads f ns (done S)
    → whole (spelled ns) (read f (spelled ns) 0) ≡ sheet S
leads-whole f ns S m l =
    let t = rw (zero-add (length (spelled ns))) at (leads-read f (done S) ns m l (spelled ns) 0 [] (sym (append-nil (spelled ns)))).0 in
    rw (t, le-ltb (length (spelled ns)) (length (spelled ns)) (omega arith))

-- reading after the numbers ns
pub reads_on : (ns : List ℕ) (g : Form Sheet) (rest : List ℕ) → Leads sheet_form ns g
    → (read sheet_form (spelled ns ++ rest) 0 ≡ read g (spelled ns ++ rest) (length (spelled ns))) × (drop (length (spelled ns)) (spelled ns ++ rest) ≡ rest)
reads_on ns g rest l = rw (zero-add (length (spelled ns))) at (leads-read sheet_form g ns (leads-small ns g l) l (spelled ns ++ rest) 0 rest refl)

-- numbers that lead to the end of the sheet's form are read as the sheet
pub leads-parse : (ns : List ℕ) (S : Sheet) → Leads sheet_form ns (done S) → parse (spelled ns) ≡ sheet S
unfolding parse
leads-parse ns S l = leads-whole sheet_form ns S (leads-small ns (done S) l) l

-- a number that is not as asked
pub reads-fails : (r : Rule) (g : ℕ → Form Sheet) (s : List ℕ) (at x : ℕ) (rest : List ℕ) → drop at s ≡ encoded x ++ rest → x < values
    → passes r x ≡ false → read (ask r g) s at ≡ refusal (rule_ground r) at
reads-fails r g s at x rest e l f =
    let n : number s at ≡ got x (at + length (encoded x)) = read_at s (width - 1) at x rest l e in
    rw (n, f)

-- "Reading the written sheet gives those records again": their numbers pass and so lead to the end of the form
pub passes-read : (R : Records) → All Passes (numbers R) → parse (spelled (values_of (numbers R))) ≡ sheet (sheet_meant R)
passes-read R p = leads-parse (values_of (numbers R)) (sheet_meant R) (along-end sheet_form (numbers R) (sheet_meant R) (along-sheet R) p)

-- bytes that read by a form are that form gone through to its end
pub whole-leads : (f : Form Sheet) (bytes : List ℕ) (S : Sheet) → Bytes bytes → whole bytes (read f bytes 0) ≡ sheet S
    → (ns : List ℕ) × Leads f ns (done S) × (bytes ≡ spelled ns)
whole-leads f bytes S b e = go (read f bytes 0) (ends f bytes b 0) e
  where
    never : {A : Type 0} (k p : ℕ) → refused k p ≡ sheet S → A
    never k p q = let z : ◌≡◌ {A = ℕ} 0 1 = cc in absurd (omega arith)

    end : (R : Sheet) (next : ℕ) (t : Bool) → ltb next (length bytes) ≡ t → (ns : List ℕ) → Leads f ns (done R) → bytes ≡ spelled ns ++ drop next bytes
        → cond t (refused 5 next) (sheet R) ≡ sheet S → (ns : List ℕ) × Leads f ns (done S) × (bytes ≡ spelled ns)
    end R next true h ns l d q = never 5 next q
    end R next false h ns l d q =
        let z : R ≡ S = cc in
        let n : drop next bytes ≡ [] = drop_of_length-le bytes (ltb-false next (length bytes) h) in
        (ns, rw z at l, d ∙ rw (n, append-nil (spelled ns)))

    go : (g : Got Sheet) → Ends f bytes 0 g → whole bytes g ≡ sheet S → (ns : List ℕ) × Leads f ns (done S) × (bytes ≡ spelled ns)
    go (got R next) (L.whole ns l d u) q = end R next (ltb next (length bytes)) refl ns l d q
    go (refusal k p) (L.stop ns r g rest l d u) q = never k p q
    go (refusal _ _) (L.wrong ns r g x rest l d u n) q = never (rule_ground r) (0 + length (spelled ns)) q

-- a sheet reads exactly if it is the spelling of a well-formed one
pub reads-parse : (bytes : List ℕ) (S : Sheet) → ReadsAs bytes S → parse bytes ≡ sheet S
unfolding spelling
reads-parse bytes S r = rw r.spelled (passes-read (records_of S) (well-passes S r.well) ∙ ap sheet (sheet-again S r.well))

pub parse-reads : (bytes : List ℕ) (S : Sheet) → Bytes bytes → parse bytes ≡ sheet S → ReadsAs bytes S
unfolding parse spelling
parse-reads bytes S b e =
    let t = whole-leads sheet_form bytes S b e in
    record { well = parse-well bytes S e; spelled = t.2 ∙ ap spelled (shows-sheet t.0 S t.1) }

-- ".. and a sheet that reads is reproduced byte for byte"
pub reproduced : (bytes : List ℕ) (S : Sheet) → ReadsAs bytes S → (room : ℕ) → length bytes ≤ room → writing (records_of S) room ≡ accepted bytes
unfolding spelling
reproduced bytes S r room l = rw r.spelled (passes-written (records_of S) room (well-passes S r.well) (rw r.spelled at l))

-- the spelling of the sheet that records mean is that of the records
pub meant-spelling : (R : Records) → All Passes (numbers R) → spelling (sheet_meant R) ≡ spelled (values_of (numbers R))
unfolding spelling
meant-spelling R p = ap (λ Q. spelled (values_of (numbers Q))) (records-again R p)
