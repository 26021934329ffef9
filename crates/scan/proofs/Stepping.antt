-- One turn over the text, by what the byte at the position is.
use Prim.Native.Nat.{ℕ, ◌+◌, ◌<◌}
use mathlib.Core.Path.{◌≡◌, refl, sym, ◌∙◌}
use mathlib.Core.Bool.{Bool, true, false, ◌||◌}
use mathlib.Core.List.{List}
use lib.ListN.{length, drop}
use Rattle.maps.specs.Number.{byte_at}
use Rattle.blif.specs.Scan.{from, join_at}
use Rattle.blif.proofs.Positions.{from_at}

module _ (stop : ℕ → Bool) (s : List ℕ) (at : ℕ) (l : at < length s) where
  pub from-join : true ≡ join_at s at → from stop (drop at s) ≡ from stop (drop (at + 2) s)
  from-join e = from_at stop s at l ∙ rw (sym e) refl

  pub from-on : false ≡ join_at s at → stop (byte_at s at) ≡ false → from stop (drop at s) ≡ from stop (drop (at + 1) s)
  from-on e f = from_at stop s at l ∙ rw (sym e, f) refl

  pub from-stop : false ≡ join_at s at → stop (byte_at s at) ≡ true → from stop (drop at s) ≡ drop at s
  from-stop e f = from_at stop s at l ∙ rw (sym e, f) refl

-- a test of which one of two holds
pub or_yes : (a b : Bool) → a ≡ true → true ≡ (a || b)
or_yes a b e = rw e refl

pub or_no : (a b : Bool) → a ≡ false → b ≡ (a || b)
or_no a b e = rw e refl
