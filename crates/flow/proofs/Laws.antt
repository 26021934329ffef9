-- One search: what a mark and a store change, and a step of each of its functions.
use mathlib.Core.Path.{◌≡◌, refl, sym, ap, ◌∙◌, subst}
use mathlib.Core.Logic.{◌⊎◌, inl, inr, ⊎_elim}
use mathlib.Core.List.{List, [], ◌∷◌}
use mathlib.Core.Bool.{Bool, true, false, not, cond}
use Prim.Native.Nat.{ℕ, zero, suc, ◌+◌, ◌≤◌, ◌<◌}
use native.Mathlib.Nat.{le_of_suc-le-suc, not-suc-le-zero}
use native.Mathlib.Decide.{ℕ_discrete}
use native.Mathlib.Omega.{arith}
use lib.ListN.{length, get_or, set, length-set}
use Rattle.std.specs.List.{count_by}
use Rattle.std.proofs.lemmas.List.Sums.{sum_by-set}
use lib.Seq.{get_or-set_same, get_or-set_other}
use lib.Dec.{eqb}
use borrow.Author.Count.{below_more}
use borrow.Author.Tests.{ne_eqb}
use Rattle.rows.specs.Table.{count_in, operand_in}
use Rattle.rows.specs.Cells.{cell, Ends}
use Rattle.rows.proofs.Cells.{ends-map}
use Rattle.flow.specs.Search.{may_inside, Closed, Inside, Touch, Under, Link, Flow, bit, count, Seen, Entered, OutDone, NewDone, Blocked, Pushed}
use Rattle.flow.proofs.Bools.{bool, differ}
use Rattle.flow.specs.declared.Code.{Code}
use Rattle.flow.specs.declared.Code.TheVariants.{Inner, Either, Outer, Barred}

-- ---- codes

pub inner? : (c : Code) → Dec (c ≡ Inner)
inner? Inner = yes refl
inner? Either = no (λ e. (cc))
inner? Outer = no (λ e. (cc))
inner? Barred = no (λ e. (cc))

pub is-inside : (c : Code) → (c ≡ Inner) ⊎ (c ≡ Either) → may_inside c ≡ true
is-inside c = ⊎_elim (λ e. ap may_inside e) (λ e. ap may_inside e)

pub not-inside : (c : Code) → (c ≡ Outer) ⊎ (c ≡ Barred) → may_inside c ≡ false
not-inside c = ⊎_elim (λ e. ap may_inside e) (λ e. ap may_inside e)

pub is-leafy : (c : Code) → (c ≡ Either) ⊎ (c ≡ Outer) → ((c ≡ Inner) → ⊥) × ((c ≡ Barred) → ⊥)
is-leafy c h = (λ e. ⊎_elim (λ m. (cc)) (λ m. (cc)) h, λ e. ⊎_elim (λ m. (cc)) (λ m. (cc)) h)

-- ---- a mark

-- 1 at a place that is not marked
abbrev ones : Bool → ℕ
ones b = cond (not b) 1 0

marked : (l : List Bool) (i : ℕ) → i < length l → Seen (set l i true) i
marked l i h = get_or-set_same l i true false h

mark-grows : (l : List Bool) (k i : ℕ) → k < length l → Seen l i → Seen (set l k true) i
mark-grows l k i h s = go (ℕ_discrete i k)
  where
    go : Dec (i ≡ k) → Seen (set l k true) i
    go (yes p) = rw p (marked l k h)
    go (no f) = get_or-set_other l k i true false f ∙ s

-- one place less is not marked
pub unseen-mark : (l : List Bool) (i : ℕ) → i < length l → get_or l i false ≡ false → count_by not (set l i true) + 1 ≡ count_by not l
unseen-mark l i h e =
    let was : ones (get_or l i false) ≡ 1 = ap ones e in
    omega (arith, sum_by-set ones l i true false h, was)

-- ---- what is done stays done

entered-grows : (code : List Code) (s s' : List Bool) (x : ℕ) → ((i : ℕ) → Seen s i → Seen s' i) → Entered code s x → Entered code s' x
unfolding Entered
entered-grows code s s' x g e = (λ z. g x (e.0 z), λ nz. g (x + 256) (e.1 nz), e.2)

pub done-grows : (graph : List ℕ) (code : List Code) (s s' : List Bool) (above : List ℕ) (u : ℕ) → ((i : ℕ) → Seen s i → Seen s' i) → OutDone graph code s above u → OutDone graph code s' above u
done-grows graph code s s' above u g d = record { inside = d.inside; operands = λ j lt. entered-grows code s s' (operand_in graph u j) g (d.operands j lt); back = λ f. g (u + 256) (d.back f) }

done_none : (graph : List ℕ) (code : List Code) (s : List Bool) (above : List ℕ) → NewDone graph code s s above
done_none graph code s above = record { out = λ u lt z n. absurd (differ (get_or s u false) n z); inn = λ u lt z n. absurd (differ (get_or s (u + 256) false) n z) }

done-trans : (graph : List ℕ) (code : List Code) (s s' s'' : List Bool) (above : List ℕ) → ((i : ℕ) → Seen s' i → Seen s'' i) → NewDone graph code s s' above → NewDone graph code s' s'' above → NewDone graph code s s'' above
done-trans graph code s s' s'' above g d d' = record { out = λ u lt z n. out u lt z n (bool (get_or s' u false)); inn = λ u lt z n. inn u lt z n (bool (get_or s' (u + 256) false)) }
  where
    out : (u : ℕ) → u < 256 → get_or s u false ≡ false → Seen s'' u → Seen s' u ⊎ (get_or s' u false ≡ false) → OutDone graph code s'' above u
    out u lt z n (inr e) = d'.out u lt e n
    out u lt z n (inl f) = done-grows graph code s' s'' above u g (d.out u lt z f)

    inn : (u : ℕ) → u < 256 → get_or s (u + 256) false ≡ false → Seen s'' (u + 256) → Seen s' (u + 256) ⊎ (get_or s' (u + 256) false ≡ false) → Seen s'' (cell above u)
    inn u lt z n (inr e) = d'.inn u lt e n
    inn u lt z n (inl f) = g (cell above u) (d.inn u lt z f)

-- after a mark at k, which is then done itself
done-mark : (graph : List ℕ) (code : List Code) (s s' : List Bool) (above : List ℕ) (k : ℕ) → NewDone graph code (set s k true) s' above
    → ((u : ℕ) → u < 256 → u ≡ k → OutDone graph code s' above u)
    → ((u : ℕ) → u < 256 → u + 256 ≡ k → Seen s' (cell above u))
    → NewDone graph code s s' above
done-mark graph code s s' above k d o i = record { out = λ u lt z n. out u lt z n (ℕ_discrete u k); inn = λ u lt z n. inn u lt z n (ℕ_discrete (u + 256) k) }
  where
    out : (u : ℕ) → u < 256 → get_or s u false ≡ false → Seen s' u → Dec (u ≡ k) → OutDone graph code s' above u
    out u lt z n (yes e) = o u lt e
    out u lt z n (no f) = d.out u lt (get_or-set_other s k u true false f ∙ z) n

    inn : (u : ℕ) → u < 256 → get_or s (u + 256) false ≡ false → Seen s' (u + 256) → Dec (u + 256 ≡ k) → Seen s' (cell above u)
    inn u lt z n (yes e) = i u lt e
    inn u lt z n (no f) = d.inn u lt (get_or-set_other s k (u + 256) true false f ∙ z) n

-- ---- a store

pub count_set : (u w : ℕ) (l : List ℕ) (i : ℕ) → i < length l → count u (set l i w) + bit (eqb (cell l i) u) ≡ count u l + bit (eqb w u)
unfolding count
count_set u w [] i h = absurd (not-suc-le-zero h)
count_set u w (a ∷ l) zero h = omega arith
count_set u w (a ∷ l) (suc i) h = let ih = count_set u w l i (le_of_suc-le-suc h) in omega arith

-- ---- links

pub under-self : (graph : List ℕ) (code : List Code) (a : ℕ) → Under graph code a a
unfolding Under
under-self graph code a C closed h = h

pub link-under : (graph : List ℕ) (code : List Code) (a p : ℕ) → Under graph code a p → Link graph code a p
unfolding Under Link
link-under graph code a p u C closed h = inl (u C closed h)

pub link-operand : (graph : List ℕ) (code : List Code) (a p j : ℕ) → Under graph code a p → j < count_in graph p → Link graph code a (operand_in graph p j)
unfolding Under Link Touch
link-operand graph code a p j u lt C closed h = inr (p, j, u C closed h, lt, refl)

pub under-link : (graph : List ℕ) (code : List Code) (a x : ℕ) → get_or code x Inner ≡ Inner → Link graph code a x → Under graph code a x
unfolding Under Link Touch Closed
under-link graph code a x z l C closed h = ⊎_elim (λ e. e) (λ t. ⊎_elim (λ e. subst (λ (n : ℕ). C n ≡ true) t.4 e) (λ f. absurd (f.0 (subst (λ (n : ℕ). get_or code n Inner ≡ Inner) (sym t.4) z))) ((closed t.0 t.2).2 t.1 t.3)) (l C closed h)

-- ---- one search after another

pub block_none : (graph : List ℕ) (code : List Code) (s : List Bool) (above : List ℕ) → Blocked graph code s s above above
block_none graph code s above = record { same = refl; grow = λ i n. n; done = done_none graph code s above; fewer = omega arith; long = refl }

module _ (graph : List ℕ) (code : List Code) (s s' : List Bool) (above above' above'' : List ℕ) (b : Blocked graph code s s' above above') where
  pub push-after : (from : ℕ) → Pushed graph code s' above' above'' from → Pushed graph code s above above'' from
  push-after from p = record {
    flow = p.flow;
    more = λ u lt n. subst (λ (l : List ℕ). count u above'' ≡ count u l + bit (eqb from u)) b.same (p.more u lt n);
    kept = λ x lt n. p.kept x lt (b.grow (x + 256) n) ∙ ap (λ (l : List ℕ). cell l x) b.same;
  }

  block-after : (s'' : List Bool) → Blocked graph code s' s'' above' above'' → Blocked graph code s s'' above above''
  block-after s'' d = record {
    same = d.same ∙ b.same;
    grow = λ i n. d.grow i (b.grow i n);
    done = done-trans graph code s s' s'' above d.grow b.done (subst (λ (l : List ℕ). NewDone graph code s' s'' l) b.same d.done);
    fewer = let x = d.fewer in let y = b.fewer in omega arith;
    long = d.long ∙ b.long;
  }

-- ---- a mark before a search

module _ (graph : List ℕ) (code : List Code) (s s' : List Bool) (above above' : List ℕ) (k : ℕ) (in-s : k < length s) where
  pub push-mark : (from : ℕ) → Pushed graph code (set s k true) above above' from → Pushed graph code s above above' from
  push-mark from p = record { flow = p.flow; more = p.more; kept = λ x lt n. p.kept x lt (mark-grows s k (x + 256) in-s n) }

  block-mark : get_or s k false ≡ false → Blocked graph code (set s k true) s' above above'
      → ((u : ℕ) → u < 256 → u ≡ k → OutDone graph code s' above u)
      → ((u : ℕ) → u < 256 → u + 256 ≡ k → Seen s' (cell above u))
      → Blocked graph code s s' above above'
  block-mark z b o i = record {
    same = b.same;
    grow = λ i n. b.grow i (mark-grows s k i in-s n);
    done = done-mark graph code s s' above k b.done o i;
    fewer = let x = b.fewer in let y = unseen-mark s k in-s z in omega arith;
    long = b.long ∙ length-set s k true;
  }

-- ---- expand

-- a unit that leaves a node that no closed set holds leaves no trace
push-out : (graph : List ℕ) (code : List Code) (s : List Bool) (above : List ℕ) (from : ℕ) → Flow graph code above → ((C : ℕ → Bool) → Closed graph code C → C from ≡ true → ⊥) → Pushed graph code s above above from
push-out graph code s above from flow out = record { flow = flow; more = more; kept = λ x lt n. refl }
  where
    more : (u : ℕ) → u < 256 → Inside graph code u → count u above ≡ count u above + bit (eqb from u)
    more u lt i = let w : bit (eqb from u) ≡ 0 = ap bit (ne_eqb from u (λ e. out i.members i.closed (ap i.members e ∙ i.holds))) in omega arith

pub expand-leaf : (graph : List ℕ) (code : List Code) (s : List Bool) (above : List ℕ) (p from : ℕ) → Flow graph code above → (p ≡ from) ⊎ (get_or code p Inner ≡ Inner) → may_inside (get_or code p Inner) ≡ false → Pushed graph code s above above from
unfolding Closed
expand-leaf graph code s above p from flow here out = push-out graph code s above from flow (λ C closed t. ⊎_elim
    (λ h. differ (may_inside (get_or code p Inner)) (ap (λ (n : ℕ). may_inside (get_or code n Inner)) h ∙ (closed from t).1) out)
    (λ z. differ (may_inside (get_or code p Inner)) (ap may_inside z) out) here)

module _ (graph : List ℕ) (code : List Code) (s s' : List Bool) (above above' : List ℕ) (p : ℕ) (low : p < 256) (in-s : p < length s) (z : get_or s p false ≡ false) (inside : may_inside (get_or code p Inner) ≡ true)
    (b : Blocked graph code (set s p true) s' above above') (all : (i : ℕ) → i < count_in graph p → Entered code s' (operand_in graph p i)) where
  -- no operand led on, and p carries no flow
  pub expand-stuck : cell above' p ≡ p → (Blocked graph code s s' above above') × Seen s' p
  expand-stuck still = (
    block-mark graph code s s' above above' p in-s z b
        (λ u lt e. subst (λ (v : ℕ). OutDone graph code s' above v) (sym e) (record { inside = inside; operands = λ j lt. all j lt; back = λ f. absurd (f (sym (ap (λ (l : List ℕ). cell l p) b.same) ∙ still)) }))
        (λ u lt e. absurd (omega arith)),
    b.grow p (marked s p in-s),
  )

  -- p carries flow, which can be sent back
  pub expand-back : (s'' : List Bool) (above'' : List ℕ) (from : ℕ) (r : Bool) → Flow graph code above → (p ≡ from) ⊎ (get_or code p Inner ≡ Inner) → ((cell above' p ≡ p) → ⊥)
      → Ends r (Pushed graph code s' above' above'' p) ((Blocked graph code s' s'' above' above'') × Entered code s'' p)
      → Ends r (Pushed graph code s above above'' from) ((Blocked graph code s s'' above above'') × Seen s'' p)
  unfolding Entered
  expand-back s'' above'' from r flow here moved e = ends-map r
      (λ d. subst (λ (v : ℕ). Pushed graph code s above above'' v) is-from (push-mark graph code s s' above above'' p in-s p (push-after graph code (set s p true) s' above above' above'' b p d)))
      (λ d. (
        block-mark graph code s s'' above above'' p in-s z (block-after graph code (set s p true) s' above above' above'' b s'' d.0)
            (λ u lt e. subst (λ (v : ℕ). OutDone graph code s'' above v) (sym e) (record { inside = inside; operands = λ j lt. entered-grows code s' s'' (operand_in graph p j) d.0.grow (all j lt); back = λ f. d.1.1 not-zero }))
            (λ u lt e. absurd (omega arith)),
        d.0.grow p (b.grow p (marked s p in-s)),
      ))
      e
    where
      still : (cell above p ≡ p) → ⊥
      still e = moved (ap (λ (l : List ℕ). cell l p) b.same ∙ e)

      not-zero : (get_or code p Inner ≡ Inner) → ⊥
      not-zero e = still (flow.still p low e)

      is-from : p ≡ from
      is-from = ⊎_elim (λ e. e) (λ e. absurd (not-zero e)) here

-- ---- scan

-- one operand more is entered
pub scan-more : (graph : List ℕ) (code : List Code) (s s' s'' : List Bool) (above above' above'' : List ℕ) (p j : ℕ) → Blocked graph code s s' above above' → ((i : ℕ) → i < j → Entered code s' (operand_in graph p i))
    → Blocked graph code s' s'' above' above'' → Entered code s'' (operand_in graph p j)
    → (Blocked graph code s s'' above above'') × ((i : ℕ) → i < j + 1 → Entered code s'' (operand_in graph p i))
scan-more graph code s s' s'' above above' above'' p j b before d here = (
  block-after graph code s s' above above' above'' b s'' d,
  below_more (λ i. Entered code s'' (operand_in graph p i)) j (λ i lt. entered-grows code s' s'' (operand_in graph p i) d.grow (before i lt)) here,
)

-- ---- enter

pub enter-late : (graph : List ℕ) (code : List Code) (s : List Bool) (above : List ℕ) (x from : ℕ) → Flow graph code above → Link graph code from x → get_or code x Inner ≡ Barred → Pushed graph code s above above from
unfolding Closed Link Touch
enter-late graph code s above x from flow link barred = push-out graph code s above from flow (λ C closed t. ⊎_elim (in-set C closed) (λ m. ⊎_elim (λ e. in-set C closed (subst (λ (n : ℕ). C n ≡ true) m.4 e)) (λ f. f.1 (ap (λ (n : ℕ). get_or code n Inner) m.4 ∙ barred)) ((closed m.0 m.2).2 m.1 m.3)) (link C closed t))
  where
    in-set : (C : ℕ → Bool) → Closed graph code C → C x ≡ true → ⊥
    in-set C closed t = differ (may_inside (get_or code x Inner)) (closed x t).1 (ap may_inside barred)

pub entered-inside : (code : List Code) (s : List Bool) (x : ℕ) → get_or code x Inner ≡ Inner → Seen s x → Entered code s x
unfolding Entered
entered-inside code s x z n = (λ _. n, λ nz. absurd (nz z), λ f. (cc))

pub entered-leaf : (code : List Code) (s : List Bool) (x : ℕ) → ((get_or code x Inner ≡ Inner) → ⊥) → ((get_or code x Inner ≡ Barred) → ⊥) → Seen s (x + 256) → Entered code s x
unfolding Entered
entered-leaf code s x nz nf n = (λ z. absurd (nz z), λ _. n, nf)

flow-store : (graph : List ℕ) (code : List Code) (above : List ℕ) (x from : ℕ) → Flow graph code above → x < 256 → from < 256 → x ≤ from → Link graph code from x → ((get_or code x Inner ≡ Inner) → ⊥) → Flow graph code (set above x from)
flow-store graph code above x from flow lt lf up link nz = record {
  above-len = length-set above x from ∙ flow.above-len;
  low = λ u l. low u l (ℕ_discrete u x);
  rise = λ u l. rise u l (ℕ_discrete u x);
  link = λ u l. linked u l (ℕ_discrete u x);
  still = λ u l e. other u (λ q. nz (subst (λ (v : ℕ). get_or code v Inner ≡ Inner) q e)) ∙ flow.still u l e;
}
  where
    here : cell (set above x from) x ≡ from
    here = let q = flow.above-len in get_or-set_same above x from 0 (omega arith)

    other : (u : ℕ) → ((u ≡ x) → ⊥) → cell (set above x from) u ≡ cell above u
    other u f = get_or-set_other above x u from 0 f

    low : (u : ℕ) → u < 256 → Dec (u ≡ x) → cell (set above x from) u < 256
    low u l (yes e) = rw (e, here) lf
    low u l (no f) = rw (other u f) (flow.low u l)

    rise : (u : ℕ) → u < 256 → Dec (u ≡ x) → u ≤ cell (set above x from) u
    rise u l (yes e) = rw (e, here) up
    rise u l (no f) = rw (other u f) (flow.rise u l)

    linked : (u : ℕ) → u < 256 → Dec (u ≡ x) → Link graph code (cell (set above x from) u) u
    linked u l (yes e) = rw (e, here) link
    linked u l (no f) = rw (other u f) (flow.link u l)

module _ (graph : List ℕ) (code : List Code) (s s' : List Bool) (above above' : List ℕ) (x from : ℕ) (low : x < 256) (in-s : x + 256 < length s) (z : get_or s (x + 256) false ≡ false) (nz : (get_or code x Inner ≡ Inner) → ⊥) (nf : (get_or code x Inner ≡ Barred) → ⊥) where
  pub enter-push : from < 256 → x ≤ from → Link graph code from x → Pushed graph code (set s (x + 256) true) above above' (cell above x) → Pushed graph code s above (set above' x from) from
  enter-push lf up link p = record { flow = flow-store graph code above' x from p.flow low lf up link nz; more = more; kept = λ u l n. kept u l n (ℕ_discrete u x) }
    where
      -- x was entered, so the search kept what stands there
      held : cell above' x ≡ cell above x
      held = p.kept x low (marked s (x + 256) in-s)

      more : (u : ℕ) → u < 256 → Inside graph code u → count u (set above' x from) ≡ count u above + bit (eqb from u)
      more u l n =
          let a = p.more u l n in
          let q = p.flow.above-len in
          let c = count_set u from above' x (omega arith) in
          let d = ap (λ (v : ℕ). bit (eqb v u)) held in
          omega arith

      kept : (u : ℕ) → u < 256 → Seen s (u + 256) → Dec (u ≡ x) → cell (set above' x from) u ≡ cell above u
      kept u l n (yes e) = absurd (differ (get_or s (u + 256) false) n (ap (λ (v : ℕ). get_or s (v + 256) false) e ∙ z))
      kept u l n (no f) = get_or-set_other above' x u from 0 f ∙ p.kept u l (mark-grows s (x + 256) (u + 256) in-s n)

  pub enter-block : Blocked graph code (set s (x + 256) true) s' above above' → Seen s' (cell above x) → (Blocked graph code s s' above above') × Entered code s' x
  enter-block b n = (
    block-mark graph code s s' above above' (x + 256) in-s z b
        (λ u lt e. absurd (omega arith)) (λ u lt e. subst (λ (v : ℕ). Seen s' (cell above v)) (sym (cancel u e)) n),
    entered-leaf code s' x nz nf (b.grow (x + 256) (marked s (x + 256) in-s)),
  )
    where
      cancel : (u : ℕ) → u + 256 ≡ x + 256 → u ≡ x
      cancel u e = omega arith
