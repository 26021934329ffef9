-- What a call that reads promises, of every answer and tables that are those after reading.
use Prim.Native.Nat.{ℕ}
use mathlib.Core.Path.{◌≡◌, refl}
use mathlib.Core.List.{List}
use mathlib.Core.Logic.{◌⊎◌, inl, inr}
use Rattle.maps.specs.Number.{Bytes}
use Rattle.maps.specs.Sheet.{Sheet}
use Rattle.maps.specs.Read.{Parsed, sheet, refused, parse}
use Rattle.maps.specs.Reading.{ReadsAs, Refuses}
use Rattle.maps.proofs.Written.{reads-parse, parse-reads}
use Rattle.maps.proofs.Refusing.{parse-refuses, refuses-parse, refuses-number}
use Rattle.sheet.specs.Answer.{read_after, answer_number, answer_place}
use Rattle.rows.proofs.SheetTables.{tabled, listed}
use Rattle.demands.specs.Reading.{Reads}

pub reads : (bytes graph differences : List ℕ) (number place : ℕ) (graph' differences' : List ℕ) → Bytes bytes
    → (number ≡ answer_number (read_after (parse bytes) graph differences).answer)
    × (place ≡ answer_place (read_after (parse bytes) graph differences).answer)
    × (graph' ≡ (read_after (parse bytes) graph differences).graph)
    × (differences' ≡ (read_after (parse bytes) graph differences).differences)
    → Reads bytes graph differences number place graph' differences'
reads bytes graph differences number place graph' differences' b is =
    record {
      stored = λ S e.
          let r = rw (reads-parse bytes S e) at is in
          let w = e.well in
          record {
            number_is = r.0;
            place_is = r.1;
            nodes = rw r.2 (tabled S w);
            rows = rw r.3 (listed S w);
            graph_is = r.2;
            differences-is = r.3;
          };
      rejected = λ k p e.
          let r = rw (refuses-parse bytes k p e) at is in
          record {
            ground_is = refuses-number e;
            number_is = r.0;
            place_is = r.1;
            graph-kept = r.2;
            differences-kept = r.3;
          };
      either = go (parse bytes) refl;
    }
  where
    go : (r : Parsed) → parse bytes ≡ r → ((S : Sheet) × ReadsAs bytes S) ⊎ ((k : ℕ) × (p : ℕ) × Refuses bytes k p)
    go (sheet S) e = inl (S, parse-reads bytes S b e)
    go (refused k p) e = inr (k, p, parse-refuses bytes k p b e)
