-- Numbers that lead through a form are read where they are spelled, and whatever is read is numbers spelled that lead through the form.
use Prim.Native.Nat.{ℕ, ◌+◌, ◌-◌, ◌<◌}
use mathlib.Core.Path.{◌≡◌, refl, sym, subst, ap, ◌∙◌}
use mathlib.Core.Bool.{Bool, true, false, cond}
use mathlib.Core.List.{List, [], ◌∷◌, ◌++◌, append_assoc}
use native.Mathlib.Omega.{arith}
use native.Mathlib.Nat.{add-zero}
use lib.ListN.{length, drop, take, length-append, length-drop, take-append-drop}
use lib.Seq.{drop-drop, drop-append_seam, length-take-le}
use Rattle.maps.specs.Lists.{All}
use Rattle.maps.specs.Number.{Bytes, Got, got, refusal, and_then, number, width, values, encoded}
use Rattle.maps.specs.Form.{Rule, rule_ground, passes, Form, done, ask, read, Leads}
use Rattle.maps.specs.Write.{spelled}
use Rattle.maps.proofs.Spelling.{read_at, written_read, number-next, number_bound}

-- the bytes after what stands at `at`
pub after-here : (s : List ℕ) (at : ℕ) (xs rest : List ℕ) → drop at s ≡ xs ++ rest → drop (at + length xs) s ≡ rest
after-here s at xs rest e = sym (drop-drop (length xs) at s) ∙ ap (drop (length xs)) e ∙ drop-append_seam xs rest

-- numbers that lead from f to g and have a spelling are read, and reading goes on with g
pub leads-read : {A : Type 0} (f g : Form A) (ns : List ℕ) → All (λ n. n < values) ns → Leads f ns g → (s : List ℕ) (at : ℕ) (rest : List ℕ)
    → drop at s ≡ spelled ns ++ rest → (read f s at ≡ read g s (at + length (spelled ns))) × (drop (at + length (spelled ns)) s ≡ rest)
leads-read f g [] m l s at rest e = rw (add-zero at) (ap (λ h. read h s at) l, e)
leads-read (done a) g (n ∷ ns) m l s at rest e = absurd l
leads-read (ask r f) g (n ∷ ns) m l s at rest e =
    let b : drop at s ≡ encoded n ++ (spelled ns ++ rest) = e ∙ append_assoc (encoded n) (spelled ns) rest in
    let h : number s at ≡ got n (at + length (encoded n)) = read_at s (width - 1) at n (spelled ns ++ rest) m.0 b in
    let q : at + length (encoded n ++ spelled ns) ≡ at + length (encoded n) + length (spelled ns) = omega (arith, length-append (encoded n) (spelled ns)) in
    rw (h, l.0, q) (leads-read (f n) g ns m.1 l.1 s (at + length (encoded n)) rest (after-here s at (encoded n) (spelled ns ++ rest) b))

-- a number that was read stands in its spelling
here-spelled : (s : List ℕ) → Bytes s → (at n next : ℕ) → number s at ≡ got n next
    → (drop at s ≡ encoded n ++ drop next s) × (next ≡ at + length (encoded n)) × (n < values)
here-spelled s b at n next e =
    let t : take (next - at) (drop at s) ≡ encoded n = written_read (width - 1) s b at n next e in
    let l = number-next (width - 1) s at n next e in
    let k : at + (next - at) ≡ next = omega arith in (
      sym (take-append-drop (next - at) (drop at s)) ∙ rw (t, drop-drop (next - at) at s, k),
      omega (arith, ap length t, length-take-le (next - at) (drop at s) (omega (arith, length-drop at s))),
      number_bound (width - 1) s b at n next e,
    )

-- how reading a form ends: at its end, or at a number that has no spelling (grounds 1 and 2) or is not as asked (3 and 4)
pub data Ends {A : Type 0} (f : Form A) (s : List ℕ) (at : ℕ) : Got A → Type 0 where
  whole : {a : A} {next : ℕ} (ns : List ℕ) → Leads f ns (done a) → drop at s ≡ spelled ns ++ drop next s → next ≡ at + length (spelled ns)
      → Ends f s at (got a next)
  stop : {k p : ℕ} (ns : List ℕ) (r : Rule) (g : ℕ → Form A) (rest : List ℕ) → Leads f ns (ask r g) → drop at s ≡ spelled ns ++ rest
      → number s (at + length (spelled ns)) ≡ refusal k p → Ends f s at (refusal k p)
  wrong : (ns : List ℕ) (r : Rule) (g : ℕ → Form A) (x : ℕ) (rest : List ℕ) → Leads f ns (ask r g) → drop at s ≡ spelled ns ++ (encoded x ++ rest)
      → x < values → passes r x ≡ false → Ends f s at (refusal (rule_ground r) (at + length (spelled ns)))

-- one number before
ends_more : {A : Type 0} (r : Rule) (f : ℕ → Form A) (s : List ℕ) (at n next : ℕ) → passes r n ≡ true
    → drop at s ≡ encoded n ++ drop next s → next ≡ at + length (encoded n) → (o : Got A) → Ends (f n) s next o → Ends (ask r f) s at o
ends_more {A} r f s at n next p e q o h = go o h
  where
    place : (ns : List ℕ) → next + length (spelled ns) ≡ at + length (encoded n ++ spelled ns)
    place ns = omega (arith, length-append (encoded n) (spelled ns))

    front : (ns rest : List ℕ) → drop next s ≡ spelled ns ++ rest → drop at s ≡ (encoded n ++ spelled ns) ++ rest
    front ns rest d = e ∙ ap (λ t. encoded n ++ t) d ∙ sym (append_assoc (encoded n) (spelled ns) rest)

    go : (o : Got A) → Ends (f n) s next o → Ends (ask r f) s at o
    go (got a end) (whole ns l d u) = whole (n ∷ ns) (p, l) (front ns (drop end s) d) (u ∙ place ns)
    go (refusal k u) (stop ns r' g rest l d h) =
        stop (n ∷ ns) r' g rest (p, l) (front ns rest d) (subst (λ i. number s i ≡ refusal k u) (place ns) h)
    go (refusal _ _) (wrong ns r' g x rest l d w z) =
        subst (λ i. Ends (ask r f) s at (refusal (rule_ground r') i)) (sym (place ns)) (wrong (n ∷ ns) r' g x rest (p, l) (front ns (encoded x ++ rest) d) w z)

-- by the form: each number that passes leads on to the next, and the first that does not ends the reading
pub ends : {A : Type 0} (f : Form A) (s : List ℕ) → Bytes s → (at : ℕ) → Ends f s at (read f s at)
ends (done a) s b at = whole [] refl refl (sym (add-zero at))
ends {A} (ask r f) s b at = reads (number s at) refl (λ x. ends (f x) s b)
  where
    asks : (x next : ℕ) (t : Bool) → number s at ≡ got x next → passes r x ≡ t → Ends (f x) s next (read (f x) s next)
        → Ends (ask r f) s at (and_then (cond t (got x next) (refusal (rule_ground r) at)) (λ a n. read (f a) s n))
    asks x next true e p h = let w = here-spelled s b at x next e in ends_more r f s at x next p w.0 w.1 _ h
    asks x next false e p h =
        let w = here-spelled s b at x next e in
        subst (λ i. Ends (ask r f) s at (refusal (rule_ground r) i)) (add-zero at) (wrong [] r f x (drop next s) refl w.0 w.2 p)

    reads : (g : Got ℕ) → number s at ≡ g → ((x next : ℕ) → Ends (f x) s next (read (f x) s next))
        → Ends (ask r f) s at (and_then (and_then g (λ x next. cond (passes r x) (got x next) (refusal (rule_ground r) at))) (λ a n. read (f a) s n))
    reads (got x next) e rec = asks x next (passes r x) e refl (rec x next)
    reads (refusal k p) e rec = stop {k = k} {p = p} [] r f (drop at s) refl refl (rw (add-zero at) e)
