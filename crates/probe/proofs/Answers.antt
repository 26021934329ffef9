-- The answer to a question about cuts at each way out, and that there is one answer.
use Prim.Native.Nat.{ℕ, ◌+◌, ◌≤◌, ◌<◌}
use mathlib.Core.Path.{◌≡◌, refl, sym, subst, ap, ◌∙◌}
use mathlib.Core.Bool.{Bool, true, false}
use mathlib.Core.List.{List}
use native.Mathlib.Omega.{arith}
use lib.ListN.{length, take, length-take}
use Rattle.maps.specs.Sheet.{Sheet, size, is_logic}
use Rattle.maps.specs.Cut.{logic_node}
use Rattle.maps.specs.Read.{Header, sheet, refused, parse}
use Rattle.maps.proofs.Enumerate.{clash}
use Rattle.maps.proofs.Chosen.{ahead-antisym}
use Rattle.rows.specs.Table.{kind_at}
use Rattle.sheet.proofs.After.{Held}
use Rattle.rows.proofs.SheetTables.{kind-tabled}
use Rattle.cut.specs.Question.{code_for, AllowedCut, Asked, Fewest, Best}
use Rattle.probe.specs.Probe.{allowed_in, Coded, Asks, Prepared, NoneWithin, HasCut, has, lacks, unasked, padded, CutAnswer, chosen, none, outside}
use Rattle.flow.specs.declared.Code.{Code}

-- an id below the header's count is a node of the sheet, and below 256
module _ {bytes g d : List ℕ} {h : Header} {p w : ℕ} (held : Held bytes g d h p w) (v : ℕ) (l : v < h.nodes) where
  within : v < size held.held
  within = omega (arith, ap (λ (x : Header). x.nodes) held.headed)

  pub small : v < 256
  small = omega (arith, within, held.well.size.most)

-- the bytes are one sheet
same : {bytes g d : List ℕ} {h : Header} {p w : ℕ} (held : Held bytes g d h p w) (S : Sheet) → parse bytes ≡ sheet S → S ≡ held.held
same held S e = let q = held.reads in cc

-- why nothing is asked
module _ (bytes : List ℕ) (v k : ℕ) where
  pub not-a-sheet : (j p : ℕ) → parse bytes ≡ refused j p → (S : Sheet) → Asks bytes v k S → ⊥
  not-a-sheet j p e S a = let q = a.reads in let z : ◌≡◌ {A = ℕ} 0 1 = cc in omega arith

  module _ (graph d : List ℕ) (h : Header) {p w : ℕ} (held : Held bytes graph d h p w) where
    pub no_node : h.nodes ≤ v → (S : Sheet) → Asks bytes v k S → ⊥
    no_node l S a = omega (arith, a.node, ap size (same held S a.reads), ap (λ (x : Header). x.nodes) held.headed)

    kind : (u : ℕ) → u < 256 → is_logic (kind_at graph u) ≡ logic_node held.held u
    kind u l = ap is_logic (kind-tabled held.held graph held.nodes u l)

    pub no-logic : v < h.nodes → is_logic (kind_at graph v) ≡ false → (S : Sheet) → Asks bytes v k S → ⊥
    no-logic l n S a = clash (sym n ∙ kind v (small held v l) ∙ subst (λ (T : Sheet). logic_node T v ≡ true) (same held S a.reads) a.logic)

    pub prepared : (allowed : List ℕ) (code : List Code) → v < h.nodes → is_logic (kind_at graph v) ≡ true → Coded graph allowed code v → k ≤ 6 → Prepared true bytes allowed v k graph code
    prepared allowed code l one c few = (
      held.held,
      record { reads = held.reads; node = within held v l; logic = is_logic-v; small = few },
      record {
        well = held.well;
        tabled = held.nodes;
        node = within held v l;
        logic = is_logic-v;
        below = λ u m. c.below u m ∙ ap (λ (b : Bool). code_for b (allowed_in allowed u)) (kind u (omega (arith, small held v l)));
        own = c.own;
      },
      held.walks,
    )
      where
        is_logic-v : logic_node held.held v ≡ true
        is_logic-v = sym (kind v (small held v l)) ∙ one

-- what holds of the sheet that was read holds of every sheet that the bytes are
same-sheet : (bytes : List ℕ) (v k : ℕ) (S R : Sheet) → Asks bytes v k S → Asks bytes v k R → S ≡ R
same-sheet bytes v k S R a b =
    let e = a.reads in
    let f = b.reads in
    cc

-- the answers to a question about the sheet
module _ (bytes allowed : List ℕ) (v k : ℕ) (graph : List ℕ) (code : List Code) (leaves : List ℕ) (p : Prepared true bytes allowed v k graph code) where
  pub has_one : (r : ℕ) → r ≤ k → ((S : Sheet) (may : ℕ → Bool) → Asked S may v graph code → AllowedCut S may v (take r leaves)) → HasCut bytes allowed v k 1
  has_one r l h = has p.0 p.1 (take r leaves) (h p.0 (allowed_in allowed) p.2) (omega (arith, length-take r leaves)) refl

  pub has-none : ((S : Sheet) (may : ℕ → Bool) → Asked S may v graph code → Fewest S may v k (k + 1)) → HasCut bytes allowed v k 0
  has-none h = lacks p.0 p.1 (λ c a. omega (arith, (h p.0 (allowed_in allowed) p.2).least c a)) refl

  pub cut-chosen : (list : List ℕ) (r : ℕ) → r ≤ k
      → ((S : Sheet) (may : ℕ → Bool) → Asked S may v graph code → Best S may v (take r leaves) × Fewest S may v k r)
      → CutAnswer bytes allowed v k list r (padded (take r leaves))
  cut-chosen list r l h =
      let x = h p.0 (allowed_in allowed) p.2 in
      let o = x.1.met l in
      let counted : length (take r leaves) ≡ r = omega (arith, x.0.fewest o.0 o.1, o.2, x.1.least (take r leaves) x.0.is_allowed) in
      chosen p.0 p.1 (take r leaves) x.0 (omega arith) (sym counted) refl

  pub cut-none : (list : List ℕ) → ((S : Sheet) (may : ℕ → Bool) → Asked S may v graph code → Fewest S may v k (k + 1)) → CutAnswer bytes allowed v k list (k + 1) list
  cut-none list h = none p.0 p.1 (λ c a. omega (arith, (h p.0 (allowed_in allowed) p.2).least c a)) refl refl

-- there is one answer
module _ (bytes allowed : List ℕ) (v k : ℕ) where
  apart : (S R : Sheet) → Asks bytes v k S → Asks bytes v k R → (c : List ℕ) → AllowedCut S (allowed_in allowed) v c → length c ≤ k
      → NoneWithin R (allowed_in allowed) v k → ⊥
  apart S R a b c x l n = omega (arith, n c (subst (λ (T : Sheet). AllowedCut T (allowed_in allowed) v c) (same-sheet bytes v k S R a b) x))

  pub has-unique : (r s : ℕ) → HasCut bytes allowed v k r → HasCut bytes allowed v k s → r ≡ s
  has-unique r s (has S a c x l e) (has R b d y m f) = e ∙ sym f
  has-unique r s (has S a c x l e) (lacks R b n f) = absurd (apart S R a b c x l n)
  has-unique r s (has S a c x l e) (unasked n f) = absurd (n S a)
  has-unique r s (lacks S a n e) (has R b d y m f) = absurd (apart R S b a d y m n)
  has-unique r s (lacks S a n e) (lacks R b o f) = e ∙ sym f
  has-unique r s (lacks S a n e) (unasked o f) = absurd (o S a)
  has-unique r s (unasked n e) (has R b d y m f) = absurd (n R b)
  has-unique r s (unasked n e) (lacks R b o f) = absurd (n R b)
  has-unique r s (unasked n e) (unasked o f) = e ∙ sym f

  -- a question has at most one chosen cut
  best-unique : (S : Sheet) (may : ℕ → Bool) (c d : List ℕ) → Best S may v c → Best S may v d → c ≡ d
  best-unique S may c d p q =
      ahead-antisym (record { fewest = p.fewest d q.is_allowed; first = p.first d q.is_allowed })
      (record { fewest = q.fewest c p.is_allowed; first = q.first c p.is_allowed })

  pub cut-unique : (list : List ℕ) (r s : ℕ) (l m : List ℕ) → CutAnswer bytes allowed v k list r l → CutAnswer bytes allowed v k list s m → (r ≡ s) × (l ≡ m)
  cut-unique list r s l m (chosen S a c x h e g) (chosen R b d y i f j) =
      let q = best-unique R (allowed_in allowed) c d (subst (λ (T : Sheet). Best T (allowed_in allowed) v c) (same-sheet bytes v k S R a b) x) y in
      (e ∙ ap length q ∙ sym f, g ∙ ap padded q ∙ sym j)
  cut-unique list r s l m (chosen S a c x h e g) (none R b n f j) = absurd (apart S R a b c x.is_allowed h n)
  cut-unique list r s l m (chosen S a c x h e g) (outside n f j) = absurd (n S a)
  cut-unique list r s l m (none S a n e g) (chosen R b d y i f j) = absurd (apart R S b a d y.is_allowed i n)
  cut-unique list r s l m (none S a n e g) (none R b o f j) = (e ∙ sym f, g ∙ sym j)
  cut-unique list r s l m (none S a n e g) (outside o f j) = absurd (o S a)
  cut-unique list r s l m (outside n e g) (chosen R b d y i f j) = absurd (n R b)
  cut-unique list r s l m (outside n e g) (none R b o f j) = absurd (n R b)
  cut-unique list r s l m (outside n e g) (outside o f j) = (e ∙ sym f, g ∙ sym j)
