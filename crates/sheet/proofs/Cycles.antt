-- Each way that reading the period and the entries ends.
use Prim.Native.Nat.{ℕ}
use mathlib.Core.Path.{◌≡◌}
use mathlib.Core.Bool.{Bool, cond}
use mathlib.Core.List.{List}
use lib.Dec.{ltb}
use lib.ListN.{length}
use Rattle.maps.specs.Number.{got, refusal}
use Rattle.maps.specs.Limits.{period_range, windows_range}
use Rattle.maps.specs.Form.{in_range}
use Rattle.maps.specs.Read.{Header}
use Rattle.rows.specs.Table.{boxes_in}
use Rattle.sheet.specs.Answer.{header, tables}
use Rattle.sheet.specs.Answer as Answers
use Rattle.sheet.specs.Fill.{filled, got_on, windows_into, cycle_into}

module _ (s : List ℕ) (h : Header) (at : ℕ) (g d : List ℕ) where
  pub no-period : {k q : ℕ} → in_range period_range s at ≡ refusal k q → tables (Answers.refusal k q) g d ≡ cycle_into s h at g d
  unfolding cycle_into got_on
  no-period e = rw e

  module _ {p next : ℕ} (period : in_range period_range s at ≡ got p next) where
    pub no-count : {k q : ℕ} → in_range (windows_range h.nodes) s next ≡ refusal k q → tables (Answers.refusal k q) g d ≡ cycle_into s h at g d
    unfolding cycle_into got_on
    no-count e = rw (period, e)

    module _ {count first : ℕ} (counted : in_range (windows_range h.nodes) s next ≡ got count first) {t : List ℕ} where
      pub no-entry : {k q : ℕ} → filled (refusal k q) t ≡ windows_into s h.nodes (boxes_in g) p count 0 first g → tables (Answers.refusal k q) t d ≡ cycle_into s h at g d
      unfolding cycle_into got_on
      no-entry e = rw (period, counted, ← e)

      pub ended : {last : ℕ} → filled (got tt last) t ≡ windows_into s h.nodes (boxes_in g) p count 0 first g → (b : Bool) → ltb last (length s) ≡ b
          → tables (cond b (Answers.refusal 5 last) (header h p count)) t d ≡ cycle_into s h at g d
      unfolding cycle_into got_on
      ended e b f = rw (period, counted, ← e, f)
