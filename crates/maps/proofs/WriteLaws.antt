-- The laws of the sheet writer and of the reader.
use Prim.Native.Nat.{ℕ, zero, suc, ◌<◌}
use mathlib.Core.List.{List, [], ◌∷◌}
use mathlib.Core.Logic.{◌⊎◌, inl, inr}
use native.Mathlib.Omega.{arith}
use lib.ListN.{get_or}
use Rattle.maps.specs.Lists.{All}
use Rattle.maps.specs.Number.{Bytes}
use Rattle.maps.specs.Records.{Records, sheet_meant}
use Rattle.maps.specs.Write.{numbers, Passes, First, Verdict, good, fault, verdict}
use Rattle.maps.specs.WriteLaws.{WriterLaws, ReaderLaws}
use Rattle.maps.proofs.RecordLaws.{records-again}
use Rattle.maps.proofs.Verdicts.{Judged, all, one, judge}
use Rattle.maps.proofs.Written.{writing-passes, passes-written, passes-short, first-refused, passes-read, meant-spelling, reproduced, reads-parse, parse-reads}
use Rattle.maps.proofs.Refusing.{parse-refuses, refuses-parse, first-refuses}
use Rattle.maps.proofs.WrittenSize.{written-are-bytes}

bytes-all : (s : List ℕ) → All (λ b. b < 256) s → Bytes s
bytes-all s h = record { small = go s h }
  where
    go : (s : List ℕ) → All (λ b. b < 256) s → (i : ℕ) → get_or s i 0 < 256
    go [] h i = omega arith
    go (b ∷ s) h zero = h.0
    go (b ∷ s) h (suc i) = go s h.1 i

-- every number passes or there is a first that does not, and what is written leads through the reader's form
pub writer-laws : (R : Records) (room : ℕ) → WriterLaws R room
writer-laws R room =
    record {
      again = λ bytes e.
          let w = writing-passes R room e in
          let b = bytes-all bytes (written-are-bytes R room bytes e) in
          (parse-reads bytes (sheet_meant R) b (rw w.1 (passes-read R w.0)), records-again R w.0, b);
      first = first-refused R room;
      reader = first-refuses R;
      too_short = λ p l. rw (meant-spelling R p) (passes-short R room p (rw (meant-spelling R p) at l));
      otherwise = λ p l. rw (meant-spelling R p) (passes-written R room p (rw (meant-spelling R p) at l));
      cases = one_of (verdict 0 (numbers R)) (judge 0 (numbers R));
    }
  where
    one_of : (v : Verdict) → Judged (numbers R) 0 v → ((k : ℕ) × (i : ℕ) × First (numbers R) k i) ⊎ All Passes (numbers R)
    one_of (good _) (all p) = inr p
    one_of (fault _ _) (one {k = k} {j = j} f) = inl (k, j, f)

-- reading goes through the form to its end or to the first number that fails, and a number has one spelling
pub reader-laws : (bytes : List ℕ) → Bytes bytes → ReaderLaws bytes
reader-laws bytes b =
    record {
      reproduced = λ S room r l. reproduced bytes S r room l;
      exactly = λ S. (parse-reads bytes S b, reads-parse bytes S);
      grounds = λ k p. (parse-refuses bytes k p b, refuses-parse bytes k p);
    }
