-- What stands in a buffer after a write.
use Rattle.std.specs.Prelude.{ℕ, ◌+◌, ◌≤◌, ◌≡◌, List, ◌++◌, length, take}

-- xs, at most `most` bytes, stand from `at` to `next` behind what stood before them
pub record Put (most : ℕ) (before after : List ℕ) (at next : ℕ) (xs : List ℕ) : Type 0 where
  pub end : next ≡ at + length xs
  pub near : next ≤ at + most
  pub wide : length after ≡ length before
  pub front : take next after ≡ take at before ++ xs
