-- Least labels are guarded, under the lower bounds that they are least under.
--
-- Why this holds. Let Q keep the conditions of a set X, bounds included, and be nowhere before the least labels outside X. Take the sooner of the two
-- labels at each node of X, and the least label at every other. Each node has its label from one of the two, which keeps the node's conditions and
-- its bound, and the others have moved back at the most; a condition asks no more where those are earlier. So this labelling is legal, within the
-- same horizon, and heeds the bounds, and the least labels are nowhere after it. In X it is nowhere after Q.
use Prim.Native.Nat.{ℕ, ◌≤◌, ◌<◌}
use mathlib.Core.Path.{◌≡◌, refl, sym, subst, ap}
use mathlib.Core.Bool.{Bool, true, false, cond}
use mathlib.Core.Logic.{◌⊎◌, inl, inr}
use mathlib.Core.List.{Memᴰ}
use native.Mathlib.Omega.{arith}
use Rattle.maps.specs.Label.{Label, ◌≼◌, sooner}
use Rattle.maps.specs.Sheet.{Sheet, Kind, input, logic, box, node, size, window, latency, clock_to_q}
use Rattle.maps.specs.Window.{Open}
use Rattle.maps.specs.Cut.{cut}
use Rattle.maps.specs.Legal.{ready_of, arrives, Carried, Legal}
use Rattle.maps.proofs.Order.{≼_refl, ≼_trans, plus-mono, ready-mono, sooner-is, sooner-left, sooner-right}
use Rattle.maps.proofs.Member.{All-at, All-of, mem-in}
use Rattle.relax.specs.Guard.{NodeOk, DiffsInto, From, LeastFrom, Guarded}
use Rattle.relax.specs.Settle.{Pass}
use Rattle.relax.proofs.Closed.{Closed, inside}
use Rattle.relax.proofs.Guard.{legal-node, legal-diffs, ok-legal}
use Rattle.relax.proofs.Forced.{leaf-read}

module _ (S : Sheet) (closed : Closed S) where
  -- N has the label of Q at v and is nowhere after it: v keeps its conditions
  module _ (N Q : ℕ → Label) (v : ℕ) (l : v < size S) (same : N v ≡ Q v) (back : (u : ℕ) → u < size S → N u ≼ Q u) where
    carry : (u : ℕ) → u < size S → arrives S Q v u ≼ Q v → arrives S N v u ≼ N v
    carry u k h =
        subst (λ (a : Label). arrives S N v u ≼ a) (sym same)
        (≼_trans (plus-mono S.top (node S v).delay (ready-mono (latency S u) (clock_to_q S u) (back u k))) h)

    operand_in : (u : ℕ) → Memᴰ u (node S v).operands → u < size S
    operand_in u m = omega (arith, closed.ordered v u (mem-in _ m))

    kinds : (k : Kind) → Carried S Q k v → Carried S N k v
    kinds input h = tt
    kinds logic h =
        record {
          cone = h.cone;
          is_cone = h.is_cone;
          fits = h.fits;
          carries = All-of _ (cut S h.cone) (λ u m. carry u (leaf-read S h.cone u m).0 (All-at (λ u. arrives S Q v u ≼ Q v) _ h.carries m));
        }
    kinds (box lat q) h = All-of _ (node S v).operands (λ u m. carry u (operand_in u m) (All-at (λ u. arrives S Q v u ≼ Q v) _ h m))

    ok-back : NodeOk S Q v → NodeOk S N v
    ok-back ok =
        record {
          low = subst (λ (a : Label). (node S v).delay ≤ a.level) (sym same) ok.low;
          high = subst (λ (a : Label). a.level ≤ S.top) (sym same) ok.high;
          after = All-of _ (node S v).operands (λ u m.
              omega (
                arith,
                (ready-mono (latency S u) (clock_to_q S u) (back u (operand_in u m))).steps,
                All-at (λ u. (ready_of S Q u).step ≤ (Q v).step) _ ok.after m,
                ap (λ (a : Label). a.step) same,
              ));
          carried = kinds (node S v).kind ok.carried;
          starts = subst (λ (a : Label). Open S.period (window S v) a.step) (sym same) ok.starts;
        }

    diffs-back : DiffsInto S Q v → DiffsInto S N v
    diffs-back h =
        record {
          into = λ d m e.
              omega (
                arith,
                h.into d m e,
                (back d.from (inside S closed d m).0).steps,
                ap (λ (a : Label). a.step) same,
                ap (λ (u : ℕ). (N u).step) e,
                ap (λ (u : ℕ). (Q u).step) e,
              );
        }

  module _ (bound : ℕ → ℕ) (G : ℕ) (L : ℕ → Label) (h : LeastFrom S bound G L) (X : ℕ → Bool) (Q : ℕ → Label)
      (ok : (v : ℕ) → v < size S → X v ≡ true → NodeOk S Q v)
      (into : (v : ℕ) → v < size S → X v ≡ true → DiffsInto S Q v)
      (above : (v : ℕ) → v < size S → X v ≡ true → bound v ≤ (Q v).step)
      (out : (u : ℕ) → u < size S → X u ≡ false → L u ≼ Q u) where
    -- the sooner label in X, the least label outside
    abbrev meet : ℕ → Label
    meet u = cond (X u) (sooner (L u) (Q u)) (L u)

    under-L : (u : ℕ) → u < size S → meet u ≼ L u
    under-L u k = go (X u)
      where
        go : (t : Bool) → cond t (sooner (L u) (Q u)) (L u) ≼ L u
        go true = sooner-left (L u) (Q u)
        go false = ≼_refl

    under-Q : (u : ℕ) → u < size S → meet u ≼ Q u
    under-Q u k = go (X u) refl
      where
        go : (t : Bool) → X u ≡ t → cond t (sooner (L u) (Q u)) (L u) ≼ Q u
        go true e = sooner-right (L u) (Q u)
        go false e = out u k e

    -- where each label is from
    from : (u : ℕ) → (meet u ≡ L u) ⊎ ((meet u ≡ Q u) × (X u ≡ true))
    from u = go (X u) refl
      where
        go : (t : Bool) → X u ≡ t → (cond t (sooner (L u) (Q u)) (L u) ≡ L u) ⊎ ((cond t (sooner (L u) (Q u)) (L u) ≡ Q u) × (X u ≡ true))
        go true e = pick (sooner-is (L u) (Q u))
          where
            pick : ((sooner (L u) (Q u) ≡ L u) × (L u ≼ Q u)) ⊎ ((sooner (L u) (Q u) ≡ Q u) × (Q u ≼ L u))
                → (sooner (L u) (Q u) ≡ L u) ⊎ ((sooner (L u) (Q u) ≡ Q u) × (X u ≡ true))
            pick (inl p) = inl p.0
            pick (inr p) = inr (p.0, e)
        go false e = inl refl

    meet-legal : Legal S meet G
    meet-legal = ok-legal S meet closed G nodes diffs (λ u k. omega (arith, (under-L u k).steps, (h.legal.nodes u k).ends))
      where
        nodes : (u : ℕ) → u < size S → NodeOk S meet u
        nodes u k = go (from u)
          where
            go : (meet u ≡ L u) ⊎ ((meet u ≡ Q u) × (X u ≡ true)) → NodeOk S meet u
            go (inl e) = ok-back meet L u k e under-L (legal-node S L h.legal u k)
            go (inr e) = ok-back meet Q u k e.0 under-Q (ok u k e.1)

        diffs : (u : ℕ) → u < size S → DiffsInto S meet u
        diffs u k = go (from u)
          where
            go : (meet u ≡ L u) ⊎ ((meet u ≡ Q u) × (X u ≡ true)) → DiffsInto S meet u
            go (inl e) = diffs-back meet L u k e under-L (legal-diffs S L h.legal u)
            go (inr e) = diffs-back meet Q u k e.0 under-Q (into u k e.1)

    meet-from : From S bound meet
    meet-from u k = go (from u)
      where
        go : (meet u ≡ L u) ⊎ ((meet u ≡ Q u) × (X u ≡ true)) → bound u ≤ (meet u).step
        go (inl e) = omega (arith, h.from u k, ap (λ (a : Label). a.step) e)
        go (inr e) = omega (arith, above u k e.1, ap (λ (a : Label). a.step) e.0)

    not_after : (v : ℕ) → v < size S → L v ≼ Q v
    not_after v l = ≼_trans (h.least meet G meet-legal meet-from v l) (under-Q v l)

  pub least-guarded : (bound : ℕ → ℕ) (G : ℕ) (L : ℕ → Label) → LeastFrom S bound G L → Guarded S bound L
  least-guarded bound G L h = record { guard = λ X Q ok into above out v l x. not_after bound G L h X Q ok into above out v l }

  -- so what was found is in the midst of a pass, and can be gone on from
  pub least-pass : (bound : ℕ → ℕ) (G : ℕ) (L : ℕ → Label) → LeastFrom S bound G L → Pass S bound L (size S)
  least-pass bound G L h =
      record {
        guarded = least-guarded bound G L h;
        from = h.from;
        low = λ v l. (h.legal.nodes v l).low;
        high = λ v l. (h.legal.nodes v l).high;
        done = λ v l k. legal-node S L h.legal v k;
      }
