-- What number and place can be.
use Rattle.std.specs.Prelude.{ℕ, ◌≤◌, ◌≡◌, ◌⊎◌}

-- `MAPS_PLAN_MOST` of the C header
abbrev pub maps_plan_most : ℕ
maps_plan_most = 4611

-- a number and place that are answered for a buffer of `room` bytes: the numbers are 0 to 8 and 12, and that many bytes are enough for
-- every plan
pub record Bounded (room number place : ℕ) : Type 0 where
  pub numbers : (number ≤ 8) ⊎ (number ≡ 12)
  pub written : number ≡ 0 → place ≤ maps_plan_most
  pub wanted : number ≡ 8 → place ≤ maps_plan_most
  pub enough : maps_plan_most ≤ room → number ≡ 8 → ⊥
