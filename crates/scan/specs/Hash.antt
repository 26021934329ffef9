-- The hash of a name, by which a table of names is searched.
use Rattle.std.specs.Prelude.{ℕ, ◌+◌, ◌*◌, ◌%◌, List, [], ◌∷◌}

-- a byte more
abbrev pub hash_with : (hash b : ℕ) → ℕ
hash_with hash b = (hash * 16777619 + b) % 4294967296

unfoldable pub hash_from : (hash : ℕ) → List ℕ → ℕ
hash_from hash [] = hash
hash_from hash (b ∷ w) = hash_from (hash_with hash b) w

abbrev pub hash_of : List ℕ → ℕ
hash_of w = hash_from 2166136261 w
