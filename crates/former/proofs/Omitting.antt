-- A form that omits numbers of another, each where one number passes that stands for it: numbers that lead through the one lead, with those put in,
-- through the other.
use Prim.Native.Nat.{ℕ, zero, suc, ◌+◌}
use mathlib.Core.Path.{◌≡◌, refl, subst, ap}
use mathlib.Core.Bool.{true}
use mathlib.Core.List.{List, [], ◌∷◌}
use native.Mathlib.Omega.{arith}
use Rattle.maps.specs.Lists.{All}
use Rattle.maps.specs.Form.{Rule, passes, Form, done, ask, ◌>>=◌, each, Leads}

-- f asks what g asks but for some numbers, where x passes and f is what g goes on to with x; and what both end in has the property
pub data Omits {A : Type 0} (P : A → Type 0) : (f g : Form A) → Type 0 where
  end : {a : A} → P a → Omits P (done a) (done a)
  both : {r : Rule} {f g : ℕ → Form A} → ((x : ℕ) → Omits P (f x) (g x)) → Omits P (ask r f) (ask r g)
  skip : {r : Rule} {f : Form A} {g : ℕ → Form A} (x : ℕ) → passes r x ≡ true → Omits P f (g x) → Omits P f (ask r g)

pub omits-bind : {A B : Type 0} {P : A → Type 0} {Q : B → Type 0} {f g : Form A} (k m : A → Form B) → Omits P f g
    → ((a : A) → P a → Omits Q (k a) (m a)) → Omits Q (◌>>=◌ f k) (◌>>=◌ g m)
omits-bind k m (end {a = a} p) h = h a p
omits-bind k m (both w) h = both λ x. omits-bind k m (w x) h
omits-bind k m (skip x z w) h = skip x z (omits-bind k m w h)

-- nothing is omitted
pub omits-none : {A : Type 0} (f : Form A) → Omits (λ a. Unit {0}) f f
omits-none (done a) = end tt
omits-none (ask r f) = both λ x. omits-none (f x)

pub omits-each : {A : Type 0} (P : A → Type 0) (f g : ℕ → Form A) → ((i : ℕ) → Omits P (f i) (g i)) → (i n : ℕ)
    → Omits (All P) (each f i n) (each g i n)
omits-each P f g h i zero = end tt
omits-each P f g h i (suc n) =
    omits-bind _ _ (h i) λ a p.
    omits-bind _ _ (omits-each P f g h (i + 1) n) λ rest q. end (p, q)

-- the numbers of g without those that f omits
abbrev pub left : {A : Type 0} {P : A → Type 0} {f g : Form A} → Omits P f g → List ℕ → List ℕ
left w [] = []
left (end p) (n ∷ ns) = []
left (both w) (n ∷ ns) = n ∷ left (w n) ns
left (skip x z w) (n ∷ ns) = left w ns

pub left-all : {A : Type 0} {P : A → Type 0} {f g : Form A} (Q : ℕ → Type 0) (w : Omits P f g) (ns : List ℕ) → All Q ns → All Q (left w ns)
left-all Q w [] h = tt
left-all Q (end p) (n ∷ ns) h = tt
left-all Q (both w) (n ∷ ns) h = (h.0, left-all Q (w n) ns h.1)
left-all Q (skip x z w) (n ∷ ns) h = left-all Q w ns h.1

-- the numbers of f with those put in
pub record Filled {A : Type 0} {P : A → Type 0} {f g : Form A} (w : Omits P f g) (ns : List ℕ) (a : A) : Type 0 where
  pub full : List ℕ
  pub leads : Leads g full (done a)
  pub rest : left w full ≡ ns
  pub holds : P a

-- by the form: where g asks one number more than f, it is given what stands for it
pub filled : {A : Type 0} {P : A → Type 0} {f g : Form A} (w : Omits P f g) (ns : List ℕ) (a : A) → Leads f ns (done a) → Filled w ns a
filled {P = P} (end {a = b} p) [] a l = let e : b ≡ a = cc in record { full = []; leads = l; rest = refl; holds = subst P e p }
filled (end p) (n ∷ ns) a l = absurd l
filled (both w) [] a l = let z : ◌≡◌ {A = ℕ} 0 1 = cc in absurd (omega arith)
filled (both w) (n ∷ ns) a l =
    let t = filled (w n) ns a l.1 in
    record { full = n ∷ t.full; leads = (l.0, t.leads); rest = ap (λ ms. n ∷ ms) t.rest; holds = t.holds }
filled (skip x z w) ns a l =
    let t = filled w ns a l in
    record { full = x ∷ t.full; leads = (z, t.leads); rest = t.rest; holds = t.holds }
