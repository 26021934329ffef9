-- The test of a list of numbers: good exactly if all pass, else the first that does not; and of lists one after the other.
use Prim.Native.Nat.{ℕ, suc, ◌+◌}
use mathlib.Core.Path.{◌≡◌, refl, sym, subst, ap, ◌∙◌}
use mathlib.Core.Bool.{Bool, true, false, cond}
use mathlib.Core.List.{List, [], ◌∷◌, ◌++◌}
use native.Mathlib.Omega.{arith}
use native.Mathlib.Nat.{add-zero}
use lib.ListN.{length}
use Rattle.maps.specs.Lists.{All}
use Rattle.maps.specs.Form.{rule_ground, passes}
use Rattle.maps.specs.Write.{Entry, Passes, First, Verdict, good, fault, verdict}

pub verdict-good : (i : ℕ) (es : List Entry) → All Passes es → verdict i es ≡ good (i + length es)
verdict-good i [] p = ap good (sym (add-zero i))
verdict-good i (e ∷ es) p =
    let q : i + suc (length es) ≡ i + 1 + length es = omega arith in
    rw (p.0, q) (verdict-good (i + 1) es p.1)

-- the verdict on numbers after those with the verdict v
abbrev pub following : Verdict → List Entry → Verdict
following (good next) es = verdict next es
following (fault k p) es = fault k p

pub verdict-append : (i : ℕ) (xs ys : List Entry) → verdict i (xs ++ ys) ≡ following (verdict i xs) ys
verdict-append i [] ys = refl
verdict-append i (x ∷ xs) ys = go (passes x.rule x.value) (verdict-append (i + 1) xs ys)
  where
    go : (b : Bool) → verdict (i + 1) (xs ++ ys) ≡ following (verdict (i + 1) xs) ys
        → cond b (verdict (i + 1) (xs ++ ys)) (fault (rule_ground x.rule) i) ≡ following (cond b (verdict (i + 1) xs) (fault (rule_ground x.rule) i)) ys
    go true e = e
    go false e = refl

pub verdict-fault : (i : ℕ) (es : List Entry) (k j : ℕ) → First es k j → verdict i es ≡ fault k (i + j)
verdict-fault i es k j f =
    ap (verdict i) f.listed
    ∙ verdict-append i f.before (f.faulty ∷ f.after)
    ∙ rw (verdict-good i f.before f.good, f.fails, f.number, f.place)

-- how the numbers from the i-th on are judged
pub data Judged (es : List Entry) (i : ℕ) : Verdict → Type 0 where
  all : All Passes es → Judged es i (good (i + length es))
  one : {k j : ℕ} → First es k j → Judged es i (fault k (i + j))

pub judge : (i : ℕ) (es : List Entry) → Judged es i (verdict i es)
judge i [] = subst (λ n. Judged [] i (good n)) (add-zero i) (all tt)
judge i (e ∷ es) = go (passes e.rule e.value) refl (judge (i + 1) es)
  where
    later : passes e.rule e.value ≡ true → (v : Verdict) → Judged es (i + 1) v → Judged (e ∷ es) i v
    later p (good _) (all h) = subst (λ n. Judged (e ∷ es) i (good n)) (omega arith) (all (p, h))
    later p (fault k _) (one {j = j} f) =
        subst (λ n. Judged (e ∷ es) i (fault k n)) (omega arith)
        (one {k = k} {j = suc j} (record {
          before = e ∷ f.before;
          faulty = f.faulty;
          after = f.after;
          listed = ap (λ t. e ∷ t) f.listed;
          place = ap suc f.place;
          good = (p, f.good);
          fails = f.fails;
          number = f.number;
        }))

    go : (b : Bool) → passes e.rule e.value ≡ b → Judged es (i + 1) (verdict (i + 1) es)
        → Judged (e ∷ es) i (cond b (verdict (i + 1) es) (fault (rule_ground e.rule) i))
    go true p h = later p (verdict (i + 1) es) h
    go false p h =
        subst (λ n. Judged (e ∷ es) i (fault (rule_ground e.rule) n)) (add-zero i)
        (one {k = rule_ground e.rule} {j = 0} (record { before = []; faulty = e; after = es; listed = refl; place = refl; good = tt; fails = p; number = refl }))
