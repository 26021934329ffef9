-- What a line is found to say is what lines of the subset say, and every such line is found.
use Prim.Native.Nat.{ℕ, zero, suc}
use mathlib.Core.Path.{◌≡◌, refl, sym, subst, ap, ◌∙◌}
use mathlib.Core.Bool.{Bool, true, false, cond, ◌&&◌, ◌||◌}
use mathlib.Core.List.{List, [], ◌∷◌, ◌++◌}
use mathlib.Core.Logic.{◌⊎◌, inl, inr}
use native.Mathlib.Omega.{arith}
use lib.Dec.{eqb}
use lib.ListN.{length}
use borrow.Author.Tests.{eqb-true}
use Rattle.maps.specs.Lists.{all, equal}
use Rattle.maps.proofs.Over.{and-true}
use Rattle.maps.proofs.Member.{or-true}
use Rattle.blif.specs.Words.{Word, bytes_of, is}
use Rattle.blif.specs.Subset.{Stage, first, head, cover, latched, last, Statement, inputs, outputs, names, row, latch, end, outside, model_line, init_of, last_of, names_line, initial, latch_line, end_line, literals, bit, row_line, body_line, statement}
use Rattle.blif.specs.Grammar.{Open, in_head, in-cover, in-latched, Row, without, for-each, Means, means-model, means-inputs, means-outputs, means-names, means-row, means-latch, means-initial, means-end}
use Rattle.blif.proofs.Naming.{equal-true}

-- a line of the subset, or none
pub data Meant (at : Stage) (ws : List Word) : Statement → Type 0 where
  in-subset : {s : Statement} → Means at ws s → Meant at ws s
  not-in-subset : Meant at ws outside

pub init-last : (w : Word) (ws : List Word) → init_of w ws ++ (last_of w ws ∷ []) ≡ w ∷ ws
init-last w [] = refl
init-last w (x ∷ ws) = ap (λ l. w ∷ l) (init-last x ws)

meant-names : (at : Stage) → Open at → (ws : List Word) → Meant at (bytes_of ".names" ∷ ws) (names_line ws)
meant-names at o [] = not-in-subset
meant-names at o (w ∷ ws) = in-subset (subst (λ l. Means at (bytes_of ".names" ∷ l) (names (init_of w ws) (last_of w ws))) (init-last w ws) (means-names (init_of w ws) (last_of w ws) o))

meant-latch : (at : Stage) → Open at → (ws : List Word) → Meant at (bytes_of ".latch" ∷ ws) (latch_line ws)
meant-latch at o [] = not-in-subset
meant-latch at o (w ∷ []) = not-in-subset
meant-latch at o (w ∷ x ∷ []) = in-subset (means-latch o)
meant-latch at o (w ∷ x ∷ v ∷ []) = go (initial v) refl
  where
    go : (b : Bool) → initial v ≡ b → Meant at (bytes_of ".latch" ∷ w ∷ x ∷ v ∷ []) (cond b (latch w x) outside)
    go true e = in-subset (means-initial o e)
    go false e = not-in-subset
meant-latch at o (w ∷ x ∷ v ∷ y ∷ ws) = not-in-subset

meant-end : (at : Stage) → Open at → (ws : List Word) → Meant at (bytes_of ".end" ∷ ws) (end_line ws)
meant-end at o [] = in-subset (means-end o)
meant-end at o (w ∷ ws) = not-in-subset

meant-row : (n : ℕ) (ws : List Word) → Meant (cover n) ws (row_line n ws)
meant-row zero [] = not-in-subset
meant-row zero (w ∷ []) = go (bit w) refl
  where
    go : (b : Bool) → bit w ≡ b → Meant (cover zero) (w ∷ []) (cond b row outside)
    go true e = in-subset (means-row (without e))
    go false e = not-in-subset
meant-row zero (w ∷ x ∷ ws) = not-in-subset
meant-row (suc n) [] = not-in-subset
meant-row (suc n) (w ∷ []) = not-in-subset
meant-row (suc n) (w ∷ x ∷ []) = go (literals (suc n) w && bit x) refl
  where
    go : (b : Bool) → (literals (suc n) w && bit x) ≡ b → Meant (cover (suc n)) (w ∷ x ∷ []) (cond b row outside)
    go true e = let a = and-true (literals (suc n) w) (bit x) e in in-subset (means-row (for-each a.0 a.1))
    go false e = not-in-subset
meant-row (suc n) (w ∷ x ∷ y ∷ ws) = not-in-subset

-- a test for a directive, with what follows if it holds
test : (at : Stage) (w d : Word) (ws : List Word) (yes no : Statement) → Meant at (d ∷ ws) yes → Meant at (w ∷ ws) no → Meant at (w ∷ ws) (cond (equal w d) yes no)
test at w d ws s r hs hr = go (equal w d) refl
  where
    go : (b : Bool) → equal w d ≡ b → Meant at (w ∷ ws) (cond b s r)
    go true e = subst (λ x. Meant at (x ∷ ws) s) (sym (equal-true w d e)) hs
    go false e = hr

meant-body : (at : Stage) → Open at → (w : Word) (ws : List Word) (other : Statement) → Meant at (w ∷ ws) other → Meant at (w ∷ ws) (body_line w ws other)
meant-body at o w ws other h =
    test at w (bytes_of ".names") ws (names_line ws) _ (meant-names at o ws)
    (test at w (bytes_of ".latch") ws (latch_line ws) _ (meant-latch at o ws)
    (test at w (bytes_of ".end") ws (end_line ws) other (meant-end at o ws) h))

meant-model : (ws : List Word) → Meant first (bytes_of ".model" ∷ ws) (model_line ws)
meant-model [] = not-in-subset
meant-model (w ∷ []) = in-subset means-model
meant-model (w ∷ x ∷ ws) = not-in-subset

-- what is found is a line of the subset, or outside
pub meant : (at : Stage) (ws : List Word) → Meant at ws (statement at ws)
unfolding statement
meant at [] = not-in-subset
meant first (w ∷ ws) = test first w (bytes_of ".model") ws (model_line ws) outside (meant-model ws) not-in-subset
meant head (w ∷ ws) =
    test head w (bytes_of ".inputs") ws (inputs ws) _ (in-subset means-inputs)
    (test head w (bytes_of ".outputs") ws (outputs ws) _ (in-subset means-outputs) (meant-body head in_head w ws outside not-in-subset))
meant (cover n) (w ∷ ws) = meant-body (cover n) in-cover w ws (row_line n (w ∷ ws)) (meant-row n (w ∷ ws))
meant latched (w ∷ ws) = meant-body latched in-latched w ws outside not-in-subset
meant last (w ∷ ws) = not-in-subset

-- and every line of the subset is found
names-last : (us : List Word) (o : Word) → names_line (us ++ (o ∷ [])) ≡ names us o
names-last [] o = refl
names-last (u ∷ []) o = refl
names-last (u ∷ v ∷ us) o = go (names-last (v ∷ us) o)
  where
    go : names (init_of v (us ++ (o ∷ []))) (last_of v (us ++ (o ∷ []))) ≡ names (v ∷ us) o → names (u ∷ init_of v (us ++ (o ∷ []))) (last_of v (us ++ (o ∷ []))) ≡ names (u ∷ v ∷ us) o
    go e =
        let a : init_of v (us ++ (o ∷ [])) ≡ v ∷ us = cc in
        let b : last_of v (us ++ (o ∷ [])) ≡ o = cc in
        cc

find-names : (at : Stage) → Open at → (us : List Word) (o : Word) → statement at (bytes_of ".names" ∷ (us ++ (o ∷ []))) ≡ names us o
unfolding statement
find-names at in_head us o = names-last us o
find-names at in-cover us o = names-last us o
find-names at in-latched us o = names-last us o

find-latch : (at : Stage) → Open at → (i o : Word) → statement at (bytes_of ".latch" ∷ i ∷ o ∷ []) ≡ latch i o
unfolding statement
find-latch at in_head i o = refl
find-latch at in-cover i o = refl
find-latch at in-latched i o = refl

find-initial : (at : Stage) → Open at → (i o v : Word) → initial v ≡ true → statement at (bytes_of ".latch" ∷ i ∷ o ∷ v ∷ []) ≡ latch i o
unfolding statement
find-initial at in_head i o v e = rw e refl
find-initial at in-cover i o v e = rw e refl
find-initial at in-latched i o v e = rw e refl

find-end : (at : Stage) → Open at → statement at (bytes_of ".end" ∷ []) ≡ end
unfolding statement
find-end at in_head = refl
find-end at in-cover = refl
find-end at in-latched = refl

-- a word of 0, 1 and - is no directive
no-directive : (x : ℕ) (w : List ℕ) (rest : List Word) (other : Statement) → (eqb x 48 || eqb x 49 || eqb x 45) ≡ true → body_line (x ∷ w) rest other ≡ other
no-directive x w rest other e = go (or-true (eqb x 48 || eqb x 49) (eqb x 45) e)
  where
    digit : (eqb x 48 ≡ true) ⊎ (eqb x 49 ≡ true) → body_line (x ∷ w) rest other ≡ other
    digit (inl q) = rw (eqb-true x 48 q) refl
    digit (inr q) = rw (eqb-true x 49 q) refl

    go : ((eqb x 48 || eqb x 49) ≡ true) ⊎ (eqb x 45 ≡ true) → body_line (x ∷ w) rest other ≡ other
    go (inl q) = digit (or-true (eqb x 48) (eqb x 49) q)
    go (inr q) = rw (eqb-true x 45 q) refl

find-row : (n : ℕ) (ws : List Word) → Row n ws → statement (cover n) ws ≡ row
unfolding statement
find-row zero [] x'' = elim x'' [ ]
find-row zero (o ∷ (_ ∷ _)) x7 = elim x7 [ ]
find-row (suc n) [] x3 = elim x3 [ ]
find-row (suc n) (w ∷ []) x6 = elim x6 [ ]
find-row (suc n) (w ∷ (o ∷ (_ ∷ _))) x11 = elim x11 [ ]
find-row zero (o ∷ []) (without e) = go (or-true (is "0" o) (is "1" o) e)
  where
    go : (is "0" o ≡ true) ⊎ (is "1" o ≡ true) → statement (cover zero) (o ∷ []) ≡ row
    go (inl q) = rw (equal-true o (bytes_of "0") q) refl
    go (inr q) = rw (equal-true o (bytes_of "1") q) refl
find-row (suc n) (w ∷ o ∷ []) (for-each e f) = go w e
  where
    go : (w : Word) → literals (suc n) w ≡ true → statement (cover (suc n)) (w ∷ o ∷ []) ≡ row
    go [] q = let z : ◌≡◌ {A = Bool} (eqb 0 (suc n)) true = (and-true (eqb 0 (suc n)) true q).0 in absurd (omega (arith, eqb-true 0 (suc n) z))
    go (x ∷ w) q =
        let a = and-true (eqb (length (x ∷ w)) (suc n)) (all (λ b. eqb b 48 || eqb b 49 || eqb b 45) (x ∷ w)) q in
        let b = and-true (eqb x 48 || eqb x 49 || eqb x 45) (all (λ b. eqb b 48 || eqb b 49 || eqb b 45) w) a.1 in
        no-directive x w (o ∷ []) (row_line (suc n) ((x ∷ w) ∷ o ∷ [])) b.0 ∙ taken (literals (suc n) (x ∷ w)) (bit o) q f
      where
        taken : (a b : Bool) → a ≡ true → b ≡ true → cond (a && b) row outside ≡ row
        taken a b s t = rw (s, t) refl

pub statement-of : (at : Stage) (ws : List Word) (s : Statement) → Means at ws s → statement at ws ≡ s
unfolding statement
statement-of first ws s (means-model {n = n}) = refl
statement-of head ws s (means-inputs {ns = ns}) = refl
statement-of head ws s (means-outputs {ns = ns}) = refl
statement-of at ws s (means-names us o h) = find-names at h us o
statement-of at ws s (means-row r) = find-row _ ws r
statement-of at ws s (means-latch h) = find-latch at h _ _
statement-of at ws s (means-initial {i = i} {o = o} {v = v} h e) = find-initial at h i o v e
statement-of at ws s (means-end h) = find-end at h
