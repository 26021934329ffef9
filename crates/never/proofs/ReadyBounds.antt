-- Without windows no ready label of least labels is later than `ready_bound`, whatever the horizon that they are legal within.
use Prim.Native.Nat.{ℕ, ◌+◌, ◌-◌, ◌*◌, ◌≤◌, ◌<◌}
use mathlib.Core.Path.{◌≡◌, refl}
use mathlib.Core.Bool.{Bool, true, false}
use mathlib.Core.List.{[]}
use native.Mathlib.Omega.{arith}
use native.Mathlib.Nat.{mul-le-mul_right, mul-le-mul_left}
use Rattle.maps.specs.Limits.{weight_most, latency_most, ready_most}
use Rattle.maps.specs.Label.{Label}
use Rattle.maps.specs.Sheet.{Sheet, size, latency}
use Rattle.maps.specs.Lists.{below}
use Rattle.maps.specs.WellFormed.{WellFormed}
use Rattle.maps.specs.Legal.{Least}
use Rattle.maps.specs.Least.{greatest_weight, ready_bound}
use Rattle.maps.proofs.Member.{below_in, below_out, greatest-from, greatest-most}
use Rattle.relax.proofs.Closed.{Closed, latency-most}
use Rattle.relax.specs.Guard.{unbounded}
use Rattle.relax.proofs.Guard.{legal-node, plain-least}
use Rattle.relax.proofs.Forced.{ok-after}
use Rattle.relax.proofs.Afloat.{shift_one, floats-never}
use Rattle.relax.specs.Hold.{Held}
use Rattle.relax.proofs.Held.{Climb, well-climb, held-set, grown-held, held-bound}
use Rattle.relax.proofs.Meet.{least-guarded}

-- no operand and no difference asks for more than `greatest_weight`, which is the least such number
weight-climbs : (S : Sheet) → Climb S 1 (greatest_weight S)
unfolding greatest_weight
weight-climbs S =
    record {
      latencies = λ u l. omega (arith, greatest-from (λ v. latency S v + 1) (below (size S)) (below_in (size S) u l));
      forwards = λ d m. omega (arith, greatest-from (λ d. d.plus) S.differences m);
    }

weight-most : (S : Sheet) (W : ℕ) → Climb S 1 W → greatest_weight S ≤ W
unfolding greatest_weight
weight-most S W c =
    omega (
      arith,
      greatest-most (λ v. latency S v + 1) W (below (size S)) (λ u m. c.latencies u (below_out (size S) u m)),
      greatest-most (λ d. d.plus) W S.differences (λ d m. omega (arith, c.forwards d m)),
    )

-- `ready_bound` is at most `ready_most`, whatever the sheet
pub ready-most : (S : Sheet) → WellFormed S → ready_bound S ≤ ready_most
unfolding ready_bound
ready-most S well =
    let a : (size S - 1) * greatest_weight S ≤ (size S - 1) * weight_most = mul-le-mul_left (size S - 1) (weight-most S weight_most (well-climb S well)) in
    let few : size S - 1 ≤ 255 = omega (arith, well.size.most) in
    let b : (size S - 1) * weight_most ≤ 255 * weight_most = mul-le-mul_right {m = size S - 1} {n = 255} weight_most few in
    omega (arith, greatest-most (latency S) latency_most (below (size S)) (λ u m. latency-most S well u))

-- least labels are least within every horizon that they end within
pub least-within : (S : Sheet) (G H : ℕ) (L : ℕ → Label) → Least S G L → ((v : ℕ) → v < size S → (L v).step + latency S v ≤ H) → Least S H L
least-within S G H L h ends =
    record {
      legal = record {
        nodes = λ v l. let k = h.legal.nodes v l in
            record { low = k.low; high = k.high; ends = ends v l; after = k.after; carried = k.carried; starts = k.starts };
        differences = h.legal.differences;
      };
      least = h.least;
    }

module _ (S : Sheet) (closed : Closed S) (free : S.windows ≡ []) (G : ℕ) (L : ℕ → Label) (h : Least S G L) where
  -- Why least labels are no later. They are guarded and legal. If some node floated, nothing would be legal (`floats-never`), but they are. So
  -- every node is held, and held steps are within n - 1 climbs (`held-bound`).
  all_held : (v : ℕ) → v < size S → Held S 1 L v
  all_held v l = go (held v) refl
    where
      held : ℕ → Bool
      held = (held-set S closed 1 L).0

      go : (t : Bool) → held v ≡ t → Held S 1 L v
      go true e = grown-held S 1 L closed held (held-set S closed 1 L).1 v l e
      go false e =
          absurd (floats-never S closed 1 (shift_one S closed free) L (λ w k. ok-after S L w (legal-node S L h.legal w k)) held (held-set S closed 1 L).2
          (least-guarded S closed unbounded G L (plain-least S G L h)) v l e L G h.legal)

  ends : (v : ℕ) → v < size S → (L v).step + latency S v ≤ ready_bound S
  unfolding ready_bound
  ends v l =
      omega (arith, held-bound S closed 1 L (greatest_weight S) (weight-climbs S) all_held v l, greatest-from (latency S) (below (size S)) (below_in (size S) v l))

  -- least labels within any horizon are least within `ready_bound`
  pub least-ready : Least S (ready_bound S) L
  least-ready = least-within S G (ready_bound S) L h ends
