-- Open steps, and the next open step: it is open, not before, and the least such.
use Prim.Native.Nat.{ℕ, suc, ◌+◌, ◌-◌, ◌*◌, ◌/◌, ◌%◌, ◌≤◌, ◌<◌}
use mathlib.Core.Path.{◌≡◌, refl, sym, subst, ap, ◌∙◌}
use mathlib.Core.Bool.{Bool, true, false, cond}
use mathlib.Core.List.{List, [], ◌∷◌}
use mathlib.Core.Logic.{◌⊎◌, inl, inr}
use native.Mathlib.Omega.{arith}
use native.Mathlib.Nat.{mul-le-mul_right, suc-mul, mod-lt, mod-eq_of_lt, mul-add-mod_self_right, add-mul-mod_self_right, div-add-mod'}
use lib.Dec.{leb, ltb, eqb}
use borrow.Author.Tests.{leb-true, leb-false, ltb-true, ltb-false, le-leb, lt-ltb, le-ltb, ne_eqb}
use Rattle.maps.specs.Lists.{All}
use Rattle.maps.specs.Label.{Label, label, ◌≼◌, later}
use Rattle.maps.specs.Sheet.{Window, whole, window_in, window}
use Rattle.maps.specs.Window.{between, Open, is_open, WellWindow, next_open, opened}
use Rattle.maps.proofs.Over.{and-true}
use Rattle.maps.proofs.Order.{later-is, later-left, later-case}

-- the test decides
pub open-true : {p : ℕ} {w : Window} {s : ℕ} → is_open p w s ≡ true → Open p w s
open-true {p} {w} {s} e =
    let h = and-true (leb w.from (s % p)) (ltb (s % p) w.to) e in
    record { least = leb-true _ _ h.0; most = ltb-true _ _ h.1 }

pub true-open : {p : ℕ} {w : Window} {s : ℕ} → Open p w s → is_open p w s ≡ true
true-open {p} {w} {s} h = rw (le-leb w.from (s % p) h.least, lt-ltb (s % p) w.to h.most)

-- what is open stays so by whole periods earlier
pub open-sooner : (p : ℕ) (w : Window) (s k : ℕ) → Open p w (s + k * p) → Open p w s
open-sooner p w s k h =
    record { least = omega (arith, add-mul-mod_self_right s k p, h.least); most = omega (arith, add-mul-mod_self_right s k p, h.most) }

-- where the window is whole, every step is open
pub whole_open : (p v s : ℕ) → 0 < p → Open p (whole p v) s
whole_open p v s l = record { least = omega arith; most = mod-lt s l }

-- where the next open step lies: in the same period, here, or in the next period
data Next (p : ℕ) (w : Window) (s : ℕ) : ℕ → Type 0 where
  ahead : {n : ℕ} → s % p < w.from → n ≡ s / p * p + w.from → Next p w s n
  here : {n : ℕ} → w.from ≤ s % p → s % p < w.to → n ≡ s → Next p w s n
  after : {n : ℕ} → w.to ≤ s % p → n ≡ suc (s / p) * p + w.from → Next p w s n

module _ (p : ℕ) (w : Window) (ok : WellWindow p w) where
  pub positive : 0 < p
  positive = omega (arith, ok.some, ok.within)

  next-is : (s : ℕ) → Next p w s (next_open p w s)
  unfolding next_open
  next-is s = go (ltb (s % p) w.from) (ltb (s % p) w.to) refl refl
    where
      go : (x y : Bool) → ltb (s % p) w.from ≡ x → ltb (s % p) w.to ≡ y
          → Next p w s (cond x (s + (w.from - s % p)) (cond y s (s + (p - s % p) + w.from)))
      go true y e f = ahead {n = s + (w.from - s % p)} (ltb-true _ _ e) (omega (arith, ltb-true (s % p) w.from e, div-add-mod' s p))
      go false true e f = here (ltb-false _ _ e) (ltb-true _ _ f) refl
      go false false e f = after {n = s + (p - s % p) + w.from} (ltb-false _ _ f) (omega (arith, div-add-mod' s p, mod-lt s positive, suc-mul (s / p) p))

  earlier : (a b : ℕ) → leb a b ≡ false → b * p + p ≤ a * p
  earlier a b e = omega (arith, mul-le-mul_right p (leb-false a b e), suc-mul b p)

  remainder : (q r : ℕ) → r < p → (q * p + r) % p ≡ r
  remainder q r l = mul-add-mod_self_right q p r ∙ mod-eq_of_lt l

  begins : (n q : ℕ) → n ≡ q * p + w.from → Open p w n
  begins n q e =
      let r : n % p ≡ w.from = ap (λ (i : ℕ). i % p) e ∙ remainder q w.from (omega (arith, ok.some, ok.within)) in
      record { least = omega arith; most = omega (arith, ok.some) }

  pub next-open : (s : ℕ) → Open p w (next_open p w s)
  next-open s = go (next-is s)
    where
      go : {n : ℕ} → Next p w s n → Open p w n
      go {n} (ahead a e) = begins n (s / p) e
      go {n} (here a b e) = subst (Open p w) (sym e) (record { least = a; most = b })
      go {n} (after a e) = begins n (suc (s / p)) e

  pub next-from : (s : ℕ) → s ≤ next_open p w s
  next-from s = go (next-is s)
    where
      go : {n : ℕ} → Next p w s n → s ≤ n
      go (ahead a e) = omega (arith, div-add-mod' s p)
      go (here a b e) = omega arith
      go (after a e) = omega (arith, div-add-mod' s p, mod-lt s positive, suc-mul (s / p) p)

  pub next-least : (s t : ℕ) → s ≤ t → Open p w t → next_open p w s ≤ t
  next-least s t l h = go (next-is s)
    where
      go : {n : ℕ} → Next p w s n → n ≤ t
      go {n} (ahead a e) = pick (leb (s / p) (t / p)) refl
        where
          pick : (b : Bool) → leb (s / p) (t / p) ≡ b → n ≤ t
          pick true q = omega (arith, mul-le-mul_right p (leb-true (s / p) (t / p) q), div-add-mod' t p, h.least)
          pick false q = absurd (omega (arith, earlier (s / p) (t / p) q, div-add-mod' t p, div-add-mod' s p, mod-lt t positive))
      go (here a b e) = omega arith
      go {n} (after a e) = pick (leb (suc (s / p)) (t / p)) refl
        where
          pick : (b : Bool) → leb (suc (s / p)) (t / p) ≡ b → n ≤ t
          pick true q = omega (arith, mul-le-mul_right p (leb-true (suc (s / p)) (t / p) q), div-add-mod' t p, h.least)
          pick false q = absurd (omega (arith, earlier (suc (s / p)) (t / p) q, suc-mul (s / p) p, div-add-mod' t p, div-add-mod' s p, h.most))

-- a label moved to an open step: from the label on, in the next open step, and the least such
module _ (p : ℕ) (w : Window) (a : Label) where
  pub opened-from : a ≼ opened p w a
  opened-from = later-left a _

  pub opened-step : WellWindow p w → (opened p w a).step ≡ next_open p w a.step
  opened-step ok = go _ refl (later-is a _)
    where
      go : (n : Label) → n.step ≡ next_open p w a.step → ((later a n ≡ n) × (a ≼ n)) ⊎ ((later a n ≡ a) × (n ≼ a)) → (later a n).step ≡ next_open p w a.step
      go n e (inl h) = ap (λ (c : Label). c.step) h.0 ∙ e
      go n e (inr h) = omega (arith, ap (λ (c : Label). c.step) h.0, h.1.steps, e, next-from p w ok a.step)

  pub opened-open : WellWindow p w → Open p w (opened p w a).step
  opened-open ok = subst (Open p w) (sym (opened-step ok)) (next-open p w ok a.step)

  pub opened-least : WellWindow p w → (b : Label) → a ≼ b → Open p w b.step → opened p w a ≼ b
  opened-least ok b h o =
      later-case (λ c. c ≼ b) a _ h
      (record { steps = next-least p w ok a.step b.step h.steps o; levels = λ e. omega arith })

-- every node's window is one, where the entries are
pub windows-well : (p v : ℕ) (ws : List Window) → 0 < p → All (WellWindow p) ws → WellWindow p (window_in p v ws)
windows-well p v [] l h = record { some = l; within = omega arith }
windows-well p v (w ∷ ws) l h = go (eqb w.id v) (windows-well p v ws l h.1)
  where
    go : (b : Bool) → WellWindow p (window_in p v ws) → WellWindow p (cond b w (window_in p v ws))
    go true r = h.0
    go false r = r

-- a node without an entry is free
pub windows-free : (p v : ℕ) (ws : List Window) → All (λ w. w.id ≡ v → ⊥) ws → window_in p v ws ≡ whole p v
windows-free p v [] h = refl
windows-free p v (w ∷ ws) h = rw (ne_eqb w.id v h.0) (windows-free p v ws h.1)

-- the next open step at each outcome of the code's tests, over plain numbers
pub code-ahead : (p v f t s : ℕ) → s % p < f → s + (f - s % p) ≡ next_open p (between v f t) s
unfolding next_open
code-ahead p v f t s h = rw (lt-ltb (s % p) f h) refl

pub code_here : (p v f t s : ℕ) → f ≤ s % p → s % p < t → s ≡ next_open p (between v f t) s
unfolding next_open
code_here p v f t s h k = rw (le-ltb (s % p) f h, lt-ltb (s % p) t k) refl

pub code-after : (p v f t s : ℕ) → f ≤ s % p → t ≤ s % p → s + (p - s % p) + f ≡ next_open p (between v f t) s
unfolding next_open
code-after p v f t s h k = rw (le-ltb (s % p) f h, le-ltb (s % p) t k) refl

-- it goes by from and to alone
pub next-fields : (p v : ℕ) (w : Window) (s : ℕ) {f t : ℕ} → f ≡ w.from → t ≡ w.to → next_open p (between v f t) s ≡ next_open p w s
unfolding next_open
next-fields p v w s a b = rw (a, b) refl
