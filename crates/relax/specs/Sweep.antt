-- What a sweep over the nodes, ids falling, comes to: each node is raised as far as the differences into it alone ask.
use Rattle.std.specs.Prelude.{ℕ, ◌+◌, ◌≤◌, ◌<◌, ◌≡◌}
use mathlib.Core.List.{Memᴰ}
use Rattle.maps.specs.Label.{Label, ◌≼◌}
use Rattle.maps.specs.Sheet.{Sheet, Difference, node, size}
use Rattle.relax.specs.Guard.{Forced}
use Rattle.relax.specs.Settle.{Pass}

-- b pushes v: forced, at a level of a label of v, and late enough for the differences into v, where v is heeded
pub record Pushes (S : Sheet) (heeded : ℕ → Type 0) (L : ℕ → Label) (v : ℕ) (b : Label) : Type 0 where
  pub up : L v ≼ b
  pub forced : Forced S L v b
  pub low : (node S v).delay ≤ b.level
  pub high : b.level ≤ S.top
  pub into : heeded v → (d : Difference) → Memᴰ d S.differences → d.to ≡ v → (L d.from).step + d.plus ≤ b.step + d.minus

-- nodes n - 1, .. k pushed in turn, from L: labels only rise, and from k on every heeded node is late enough for what the differences into it
-- asked of L
pub record Sweeping (S : Sheet) (bound : ℕ → ℕ) (heeded : ℕ → Type 0) (L : ℕ → Label) (k : ℕ) (R : ℕ → Label) : Type 0 where
  pub pass : Pass S bound R 0
  pub grows : (u : ℕ) → u < size S → L u ≼ R u
  pub heeds : (d : Difference) → Memᴰ d S.differences → heeded d.to → k ≤ d.to → (L d.from).step + d.plus ≤ (R d.to).step + d.minus
