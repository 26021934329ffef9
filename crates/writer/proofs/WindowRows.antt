-- The numbers of the windows from their rows, and what numbers that were written say of the period and of the windows.
use Prim.Native.Nat.{ℕ, ◌+◌, ◌-◌, ◌*◌, ◌≤◌}
use mathlib.Core.Path.{◌≡◌, ◌∙◌}
use mathlib.Core.Bool.{Bool}
use mathlib.Core.List.{List, [], ◌∷◌, ◌++◌, map}
use native.Mathlib.Omega.{arith}
use native.Mathlib.Nat.{mul-le-mul_right}
use native.Mathlib.Numerals.{add-one}
use lib.ListN.{length-map}
use Rattle.maps.specs.Lists.{All, below, concat}
use Rattle.maps.specs.Limits.{size_range, period_range, windows_range, box_range}
use Rattle.maps.specs.Sheet.{Window}
use Rattle.maps.specs.Form.{among}
use Rattle.maps.specs.Write.{Entry, entry, window_numbers, cycle_numbers, Passes}
use Rattle.maps.specs.Sizes.{bytes_most, window_bytes_most, cycle_bytes_most}
use Rattle.maps.proofs.Over.{length-below}
use Rattle.maps.proofs.Parse.{in-range, in-boxed}
use Rattle.maps.proofs.WrittenSize.{id-bytes, within-bytes}
use Rattle.records.specs.Rows.{window_place, rows_in, window_row, window_in, windows_in, low_in, window_entries}
use Rattle.records.specs.declared.WindowRow.{WindowRow}
use Rattle.records.proofs.WindowLaws.{windows-below}
use Rattle.fields.specs.Wrote.{Wrote, passed}
use Rattle.std.specs.Prelude.{Ok}
use Rattle.fields.specs.declared.Position.{Position}

-- the bytes of a window
pub window_bytes : (n : ℕ) (is_box : ℕ → Bool) (p : ℕ) (windows : List ℕ) → n ≤ size_range.high → p ≤ period_range.high → (j : ℕ)
    → All Passes (window_entries n is_box p windows j) → bytes_most (window_entries n is_box p windows j) ≤ window_bytes_most
window_bytes n is_box p windows ln lp j good =
    omega (
      arith,
      id-bytes {x = n - 1} (omega arith),
      within-bytes {n = p - 1} {most = period_range.high} (omega arith),
      within-bytes {n = p} {most = period_range.high} lp,
    )

-- a window that was written is that of a node
pub window-id : (n : ℕ) (is_box : ℕ → Bool) (p low : ℕ) (w : Window) {a b : List ℕ} {q next : Position}
    → Wrote (window_numbers n is_box p low w) a b q (Ok next) → w.id ≤ n - 1
window-id n is_box p low w (passed good f e) = (in-boxed (box_range n low) is_box w.id good.0).0.most

-- the least id of the next
pub low-next : (windows : List ℕ) (j : ℕ) (row : WindowRow) → row ≡ window_row windows j → row.id + 1 ≡ low_in windows (j + 1)
low-next windows j row e = rw (add-one j, e)

-- the period, and how many windows there are
abbrev pub cycle_head : (n p k : ℕ) → List Entry
cycle_head n p k = entry (among period_range) p ∷ entry (among (windows_range n)) k ∷ []

pub cycle-in : (n : ℕ) (is_box : ℕ → Bool) (p : ℕ) (windows : List ℕ) (k : ℕ) → k ≡ rows_in window_place windows
    → cycle_numbers n is_box p (windows_in windows) ≡ cycle_head n p k ++ concat (map (window_entries n is_box p windows) (below k))
cycle-in n is_box p windows k e = rw (← e, length-map (below k) (window_in windows) ∙ length-below k, windows-below n is_box p windows k)

-- where these two pass
pub record Cycled (n p k : ℕ) : Type 0 where
  pub some : 1 ≤ p
  pub period : p ≤ period_range.high
  pub room : bytes_most (cycle_head n p k) + k * window_bytes_most ≤ cycle_bytes_most

pub cycled : (n p k : ℕ) → n ≤ size_range.high → {a b : List ℕ} {q next : Position} → Wrote (cycle_head n p k) a b q (Ok next) → Cycled n p k
cycled n p k l (passed good f e) =
    let c = (in-range (windows_range n) k good.1.0).most in
    let few : k ≤ size_range.high = omega arith in
    record {
      some = (in-range period_range p good.0).least;
      period = (in-range period_range p good.0).most;
      room = omega (arith, within-bytes {n = n} {most = size_range.high} l, mul-le-mul_right window_bytes_most few);
    }
