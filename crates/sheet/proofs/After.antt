-- What a caller of the reader learns from its answer.
use Prim.Native.Nat.{ℕ}
use mathlib.Core.Path.{◌≡◌, refl, ap}
use mathlib.Core.List.{List, []}
use native.Mathlib.Omega.{arith}
use lib.ListN.{length}
use Rattle.maps.specs.Sheet.{Sheet}
use Rattle.maps.specs.Read.{Header, Parsed, sheet, refused, parse}
use Rattle.maps.specs.WellFormed.{WellFormed}
use Rattle.maps.proofs.Parse.{parse-well}
use Rattle.rows.specs.Table.{header_of, Tabled, Listed, Falling}
use Rattle.sheet.specs.Answer.{header, Tables, tables, read_after}
use Rattle.sheet.specs.Fill.{read_into}
use Rattle.sheet.specs.Answer as Answers
use Rattle.sheet.proofs.Readings.{read_whole, read-refused}
use Rattle.rows.proofs.SheetTables.{tabled, listed, falling}

-- the bytes are a sheet, which the header, the period, the count of its entries and the tables hold
pub record Held (bytes graph differences : List ℕ) (h : Header) (p w : ℕ) : Type 0 where
  pub held : Sheet
  pub reads : parse bytes ≡ sheet held
  pub well : WellFormed held
  pub headed : h ≡ header_of held
  pub period : p ≡ held.period
  pub windows : w ≡ length held.windows
  pub nodes : Tabled held graph
  pub walks : Falling graph
  pub rows : Listed held differences

module _ (bytes g d : List ℕ) where
  pub was_read : (h : Header) (p w : ℕ) → tables (header h p w) g d ≡ read_into bytes → Held bytes g d h p w
  was_read h p w e = go (parse bytes) refl (read_whole bytes _ g d e h p w refl [] [])
    where
      go : (x : Parsed) → parse bytes ≡ x → tables (header h p w) g d ≡ read_after x [] [] → Held bytes g d h p w
      go (sheet S) q f =
          let well = parse-well bytes S q in
          let t : Tabled S g = rw (ap (λ (t : Tables). t.graph) f) (tabled S well) in
          record {
            held = S;
            reads = q;
            well = well;
            headed = cc (ap (λ (t : Tables). t.answer) f);
            period = cc (ap (λ (t : Tables). t.answer) f);
            windows = cc (ap (λ (t : Tables). t.answer) f);
            nodes = t;
            walks = falling S g well t;
            rows = rw (ap (λ (t : Tables). t.differences) f) (listed S well);
          }
      go (refused k r) q f = let z : ◌≡◌ {A = ℕ} 0 1 = cc (ap (λ (t : Tables). t.answer) f) in absurd (omega arith)

  pub was-refused : (k p : ℕ) → tables (Answers.refusal k p) g d ≡ read_into bytes → parse bytes ≡ refused k p
  was-refused k p e = go (parse bytes) refl (read-refused bytes _ g d e k p refl [] [])
    where
      go : (x : Parsed) → parse bytes ≡ x → tables (Answers.refusal k p) [] [] ≡ read_after x [] [] → parse bytes ≡ refused k p
      go (sheet S) q f = let z : ◌≡◌ {A = ℕ} 0 1 = cc (ap (λ (t : Tables). t.answer) f) in absurd (omega arith)
      go (refused j r) q f = cc (q, ap (λ (t : Tables). t.answer) f)
