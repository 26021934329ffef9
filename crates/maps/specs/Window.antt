-- Document 02, U8: windows. "Such a box may start in step s only if the remainder of s by P is at least from and below to."
use Rattle.std.specs.Prelude.{ℕ, ◌+◌, ◌-◌, ◌%◌, ◌≤◌, ◌<◌, Bool, cond, ◌&&◌, eqb, leb, ltb}
use Rattle.maps.specs.Label.{Label, label, later}
use Rattle.maps.specs.Sheet.{Window}

abbrev pub between : (v from to : ℕ) → Window
between v f t = record { id = v; from = f; to = t }

pub record Open (period : ℕ) (w : Window) (s : ℕ) : Type 0 where
  pub least : w.from ≤ s % period
  pub most : s % period < w.to

-- the same as a test
abbrev pub is_open : (period : ℕ) → Window → ℕ → Bool
is_open p w s = leb w.from (s % p) && ltb (s % p) w.to

-- "from in 0 to P − 1, to in from + 1 to P"
pub record WellWindow (period : ℕ) (w : Window) : Type 0 where
  pub some : w.from < w.to
  pub within : w.to ≤ period

-- The rest serves the computed labels: the next open step from s on, where s has the remainder r.
abbrev pub next_after : (period : ℕ) → Window → (r s : ℕ) → ℕ
next_after p w r s = cond (ltb r w.from) (s + (w.from - r)) (cond (ltb r w.to) s (s + (p - r) + w.from))

unfoldable pub next_open : (period : ℕ) → Window → ℕ → ℕ
next_open p w s = next_after p w (s % p) s

-- the least label from a on in an open step: a itself, or level 0 of the next open step
abbrev pub opened : (period : ℕ) → Window → Label → Label
opened p w a = later a (label (next_open p w a.step) 0)

-- a itself where its step is open, else level d of the next open step: what a box of delay d with the label a comes to in its turn
abbrev pub open_label : (period : ℕ) → Window → (delay : ℕ) → Label → Label
open_label p w d a = cond (eqb (next_open p w a.step) a.step) a (label (next_open p w a.step) d)
