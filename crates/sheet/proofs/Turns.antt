-- One turn of a loop that repeats a step, its early stop and its end, as equations of `repeat_into`.
use Prim.Native.Nat.{ℕ, suc, ◌+◌, ◌-◌, ◌<◌, ◌≤◌}
use mathlib.Core.Path.{◌≡◌}
use mathlib.Core.Bool.{Bool}
use mathlib.Core.List.{List}
use native.Mathlib.Omega.{arith}
use Rattle.maps.specs.Number.{Got, got, refusal}
use Rattle.maps.specs.Sheet.{Window}
use Rattle.maps.specs.Form.{read}
use Rattle.maps.specs.Read.{window_form, next_id}
use Rattle.rows.specs.Table.{store_from, window_place, window_row}
use Rattle.sheet.specs.Fill.{Filled, filled, got_on, repeat_into, windows_into}

module _ (step : ℕ → ℕ → List ℕ → Filled) (i at : ℕ) (g h : List ℕ) (e : Got (Unit {0})) (read : filled e h ≡ step i at g) (n : ℕ) (l : i < n) where
  pub turn : (next : ℕ) → e ≡ got tt next → repeat_into step (n - i) i at g ≡ repeat_into step (n - (i + 1)) (i + 1) next h
  unfolding repeat_into got_on
  turn next q =
      let k : n - i ≡ suc (n - (i + 1)) = omega arith in
      rw (k, ← read, q)

  pub stop : (k p : ℕ) → e ≡ refusal k p → repeat_into step (n - i) i at g ≡ filled e h
  unfolding repeat_into got_on
  stop j p q =
      let k : n - i ≡ suc (n - (i + 1)) = omega arith in
      rw (k, ← read, q)

pub done : (step : ℕ → ℕ → List ℕ → Filled) (i at n : ℕ) (g : List ℕ) → n ≤ i → repeat_into step (n - i) i at g ≡ filled (got tt at) g
unfolding repeat_into
done step i at n g l =
    let k : n - i ≡ 0 = omega arith in
    rw k

-- the same of the loop over entries
module _ (s : List ℕ) (n : ℕ) (is_box : ℕ → Bool) (p i low at : ℕ) (g : List ℕ) (count : ℕ) (l : i < count) where
  pub window-turn : (w : Window) (next : ℕ) → read (window_form n is_box p low) s at ≡ got w next
      → windows_into s n is_box p (count - i) low at g ≡ windows_into s n is_box p (count - (i + 1)) (next_id w) next (store_from g (window_place w.id) (window_row w.from w.to))
  unfolding windows_into got_on
  window-turn w next e =
      let k : count - i ≡ suc (count - (i + 1)) = omega arith in
      rw (k, e)

  pub window-stop : (k q : ℕ) → read (window_form n is_box p low) s at ≡ refusal k q → windows_into s n is_box p (count - i) low at g ≡ filled (refusal k q) g
  unfolding windows_into got_on
  window-stop j q e =
      let k : count - i ≡ suc (count - (i + 1)) = omega arith in
      rw (k, e)

pub windows-done : (s : List ℕ) (n : ℕ) (is_box : ℕ → Bool) (p i low at count : ℕ) (g : List ℕ) → count ≤ i
    → windows_into s n is_box p (count - i) low at g ≡ filled (got tt at) g
unfolding windows_into
windows-done s n is_box p i low at count g l =
    let k : count - i ≡ 0 = omega arith in
    rw k
