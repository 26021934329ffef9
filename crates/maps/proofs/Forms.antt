-- Reading a form that consists of two, and one that repeats.
use Prim.Native.Nat.{ℕ, suc, ◌+◌}
use mathlib.Core.Path.{◌≡◌, refl, ◌∙◌}
use mathlib.Core.List.{List, ◌∷◌}
use Rattle.maps.specs.Number.{Got, got, refusal, and_then}
use Rattle.maps.specs.Form.{Form, done, ask, ◌>>=◌, each, chain, tested, read}

-- two ways to go on that agree
pub then_same : {A B : Type 0} (g : Got A) (f h : A → ℕ → Got B) → ((a : A) (n : ℕ) → f a n ≡ h a n) → and_then g f ≡ and_then g h
then_same (got a n) f h e = e a n
then_same (refusal k p) f h e = refl

-- going on twice
then-then : {A B C : Type 0} (g : Got A) (f : A → ℕ → Got B) (h : B → ℕ → Got C)
    → and_then g (λ a n. and_then (f a n) h) ≡ and_then (and_then g f) h
then-then (got a n) f h = refl
then-then (refusal k p) f h = refl

-- the second form is read where the first one ended
pub read-bind : {A B : Type 0} (f : Form A) (g : A → Form B) (s : List ℕ) (at : ℕ)
    → read (◌>>=◌ f g) s at ≡ and_then (read f s at) (λ a n. read (g a) s n)
read-bind (done a) g s at = refl
read-bind (ask r f) g s at =
    then_same (tested r s at) _ _ (λ x n. read-bind (f x) g s n)
    ∙ then-then (tested r s at) (λ x n. read (f x) s n) (λ a n. read (g a) s n)

-- the first of several forms, and then the rest
pub read-each : {A : Type 0} (f : ℕ → Form A) (i n : ℕ) (s : List ℕ) (at : ℕ)
    → read (each f i (suc n)) s at ≡ and_then (read (f i) s at) (λ a next. and_then (read (each f (i + 1) n) s next) (λ rest last. got (a ∷ rest) last))
read-each f i n s at =
    read-bind (f i) _ s at
    ∙ then_same (read (f i) s at) _ _ (λ a next. read-bind (each f (i + 1) n) _ s next)

-- the first of a chain, and then the rest
pub read-chain : {A : Type 0} (next : A → ℕ) (f : ℕ → Form A) (i n : ℕ) (s : List ℕ) (at : ℕ)
    → read (chain next f i (suc n)) s at ≡ and_then (read (f i) s at) (λ a q. and_then (read (chain next f (next a) n) s q) (λ rest last. got (a ∷ rest) last))
read-chain next f i n s at =
    read-bind (f i) _ s at
    ∙ then_same (read (f i) s at) _ _ (λ a q. read-bind (chain next f (next a) n) _ s q)
