-- A form: which number comes next, given those before it, and what is asked of it. Document 01's sheet is laid down as one, and read by it.
use Rattle.std.specs.Prelude.{ℕ, zero, suc, ◌+◌, ◌≡◌, Bool, true, cond, ◌&&◌, List, [], ◌∷◌, leb, ltb}
use Rattle.maps.specs.Number.{Got, got, refusal, Reader, and_then, number}
use Rattle.maps.specs.Limits.{Range}

-- what is asked of a number: that it lies in a range, that it lies in a range and is the id of a box, or that it lies below the node's own id
pub data Rule : Type 0 where
  among : Range → Rule
  boxed : Range → (is_box : ℕ → Bool) → Rule
  under : (own : ℕ) → Rule

abbrev pub passes : Rule → ℕ → Bool
passes (among r) x = leb r.low x && leb x r.high
passes (boxed r is_box) x = (leb r.low x && leb x r.high) && is_box x
passes (under own) x = ltb x own

-- 3, "a value, u and v included, is outside its range"; 4, "an operand id is not below the node's own"
abbrev pub rule_ground : Rule → ℕ
rule_ground (among r) = 3
rule_ground (boxed r is_box) = 3
rule_ground (under own) = 4

pub data Form (A : Type 0) : Type 0 where
  done : A → Form A
  ask : Rule → (ℕ → Form A) → Form A

abbrev pub ◌>>=◌ : {A B : Type 0} → Form A → (A → Form B) → Form B
◌>>=◌ (done a) g = g a
◌>>=◌ (ask r f) g = ask r (λ x. ◌>>=◌ (f x) g)

-- one number
abbrev pub asked : Rule → Form ℕ
asked r = ask r (λ x. done x)

-- the forms f i, f (i + 1), .., n of them
abbrev pub each : {A : Type 0} → (ℕ → Form A) → (i n : ℕ) → Form (List A)
each f i zero = done []
each f i (suc n) = do
  a ← f i
  rest ← each f (i + 1) n
  done (a ∷ rest)

-- the form f, n times
abbrev pub times : {A : Type 0} → ℕ → Form A → Form (List A)
times n f = each (λ i. f) 0 n

-- n forms one after the other, first f i, and after what gave a the form f (next a)
abbrev pub chain : {A : Type 0} → (A → ℕ) → (ℕ → Form A) → (i n : ℕ) → Form (List A)
chain next f i zero = done []
chain next f i (suc n) = do
  a ← f i
  rest ← chain next f (next a) n
  done (a ∷ rest)

-- a number that is as asked, else its ground at its first byte: "spelling before value"
abbrev pub tested : Rule → Reader ℕ
tested r = λ s at. and_then (number s at) (λ x next. cond (passes r x) (got x next) (refusal (rule_ground r) at))

abbrev pub in_range : Range → Reader ℕ
in_range r = tested (among r)

abbrev pub operand : (own : ℕ) → Reader ℕ
operand own = tested (under own)

-- "1 to 4 at the first number in the sheet that fails"
abbrev pub read : {A : Type 0} → Form A → Reader A
read (done a) = λ s at. got a at
read (ask r f) = λ s at. and_then (tested r s at) (λ x next. read (f x) s next)

-- the numbers ns are as asked in turn and lead from f to g, which asks of what comes after them
abbrev pub Leads : {A : Type 0} → Form A → List ℕ → Form A → Type 0
Leads f [] g = f ≡ g
Leads (done a) (n ∷ ns) g = ⊥
Leads (ask r f) (n ∷ ns) g = (passes r n ≡ true) × Leads (f n) ns g
