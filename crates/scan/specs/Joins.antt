-- Where only joins are passed over.
use Rattle.std.specs.Prelude.{ℕ, Bool, true}

-- any byte stops
abbrev pub any_byte : ℕ → Bool
any_byte b = true
