-- The tests of a line for ground 10, by the parts of its words.
use Prim.Native.Nat.{ℕ, zero, suc, ◌+◌, ◌≤◌, ◌<◌}
use mathlib.Core.Path.{◌≡◌, refl, sym, ap, ◌∙◌}
use mathlib.Core.Bool.{Bool, true, false, ◌&&◌, and-false}
use mathlib.Core.List.{List, [], ◌∷◌}
use mathlib.Core.Logic.{◌⊎◌, inl, inr}
use native.Mathlib.Omega.{arith}
use lib.ListN.{length, take, drop, length-drop}
use lib.Seq.{length-take-le}
use Rattle.maps.specs.Lists.{all, keep}
use Rattle.blif.specs.Words.{Word}
use Rattle.blif.specs.Subset.{Statement}
use Rattle.blif.specs.Names.{has, fresh, defined, resolves}
use Rattle.blif.proofs.Freshness.{apart, fresh-splits}
use Rattle.subset.specs.declared.Parts.{Parts}
use Rattle.subset.specs.Meant.{PartsOf}
use Rattle.grounds.proofs.KeepLaws.{kept-most, all-kept, some-lost, none_kept, some-kept}

-- fewer than two words are different
pub fresh-few : (n : ℕ) (ws : List Word) → n < 2 → true ≡ fresh [] (take n ws)
fresh-few zero ws l = refl
fresh-few (suc zero) [] l = refl
fresh-few (suc zero) (w ∷ ws) l = refl
fresh-few (suc (suc n)) ws l = absurd (omega (arith, l))

-- the words after those read, where the line ends with those that it defines
pub defines-length : (r d : ℕ) (ws after : List Word) → after ≡ drop r ws → 2 ≤ d → (d ≤ 1) ⊎ (r + d ≡ length ws) → d ≡ length after
defines-length r d ws after a l (inl few) = absurd (omega (arith, l, few))
defines-length r d ws after a l (inr e) = omega (arith, e, length-drop r ws, ap length a)

-- ground 10, by the words `ws` of the line and those after the names that it reads
module _ (old ws after : List Word) (s : Statement) (p : Parts) (P : PartsOf s ws p) (A : after ≡ drop p.reads ws) where
  abbrev reads : List Word
  reads = take p.reads ws

  abbrev defines : List Word
  defines = take p.defines after

  resolves-parts : resolves old (defined s) ≡ (all (has old) reads && (apart old defines && fresh [] defines))
  resolves-parts = rw (P.reads, P.defines, sym A) (ap (λ (b : Bool). all (has old) reads && b) (fresh-splits old defines))

  -- a name is read that is not defined
  pub reads-fail : (length (keep (has old) reads) ≡ p.reads → ⊥) → false ≡ resolves old (defined s)
  reads-fail l =
      let e = P.enough in
      let n = length-take-le p.reads ws (omega arith) in
      let h = some-lost (has old) reads (omega (arith, l, n, kept-most (has old) reads)) in
      sym (resolves-parts ∙ ap (λ (b : Bool). b && (apart old defines && fresh [] defines)) h)

  -- a name is defined again
  pub defines-fail : 0 < length (keep (has old) defines) → false ≡ resolves old (defined s)
  defines-fail l =
      let h = some-kept (has old) defines l in
      sym (resolves-parts ∙ ap (λ (b : Bool). all (has old) reads && (b && fresh [] defines)) h ∙ and-false (all (has old) reads))

  -- else the line's own names decide
  pub own-names : (b : Bool) → p.reads ≤ length (keep (has old) reads) → length (keep (has old) defines) ≤ 0 → b ≡ fresh [] defines → b ≡ resolves old (defined s)
  own-names b l m e =
      let enough = P.enough in
      let n = length-take-le p.reads ws (omega arith) in
      let h = all-kept (has old) reads (omega (arith, l, n)) in
      let k = none_kept (has old) defines (omega (arith, m)) in
      e ∙ sym (resolves-parts ∙ rw (h, k) refl)
