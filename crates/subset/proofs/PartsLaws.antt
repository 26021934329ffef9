-- The names of a line as parts of its words after the first, and how many inputs its cover has.
use Prim.Native.Nat.{ℕ, suc, ◌-◌, ◌≤◌}
use mathlib.Core.Path.{◌≡◌, refl, sym, subst, ap, ◌∙◌}
use mathlib.Core.List.{List, [], ◌∷◌, append-nil}
use mathlib.Core.Logic.{inl, inr}
use native.Mathlib.Omega.{arith}
use lib.Dec.{leb}
use lib.ListN.{length, take, drop, length-map}
use lib.Seq.{take-length}
use Rattle.blif.specs.Words.{Word}
use Rattle.blif.specs.Subset.{cover, inputs, init_of, last_of, names_line, Stage, stage_after}
use Rattle.blif.specs.Names.{definition, inputs_of, names_of, reads_of}
use Rattle.maps.specs.Sheet.{input}
use Rattle.maps.specs.Limits.{operands_most}
use Rattle.blif.proofs.Grammars.{init-last}
use Rattle.subset.specs.Meant.{PartsOf}
use Rattle.subset.specs.declared.Parts.{Parts}

abbrev parts : ℕ → ℕ → ℕ → Parts
parts r d n = record { reads = r; defines = d; names = n }

-- the words of `.names`: its inputs, and last its output
pub init-take : (w : Word) (ws : List Word) → init_of w ws ≡ take (length ws) (w ∷ ws)
init-take w [] = refl
init-take w (x ∷ ws) = ap (λ ys. w ∷ ys) (init-take x ws)

last-drop : (w : Word) (ws : List Word) → last_of w ws ∷ [] ≡ drop (length ws) (w ∷ ws)
last-drop w [] = refl
last-drop w (x ∷ ws) = last-drop x ws

pub init-length : (w : Word) (ws : List Word) → length (init_of w ws) ≡ length ws
init-length w [] = refl
init-length w (x ∷ ws) = ap suc (init-length x ws)

-- what `.inputs` defines
pub inputs-names : (ns : List Word) → names_of (inputs_of ns) ≡ ns
inputs-names [] = refl
inputs-names (n ∷ ns) = ap (λ ys. n ∷ ys) (inputs-names ns)

inputs-reads : (ns : List Word) → reads_of (inputs_of ns) ≡ []
inputs-reads [] = refl
inputs-reads (n ∷ ns) = inputs-reads ns

pub parts-inputs : (ws : List Word) → PartsOf (inputs ws) ws (parts 0 (length ws) (length ws))
parts-inputs ws = record {
  reads = inputs-reads ws;
  defines = inputs-names ws ∙ sym (take-length ws);
  names = sym (take-length ws);
  few = refl;
  enough = omega arith;
  named-enough = omega arith;
  count = length-map ws (λ (n : Word). definition n input []);
  alone = inr (omega arith);
}

parts-some : (w : Word) (ws : List Word) → PartsOf (names_line (w ∷ ws)) (w ∷ ws) (parts (length ws) 1 (suc (length ws)))
parts-some w ws = record {
  reads = append-nil (init_of w ws) ∙ init-take w ws;
  defines = ap (take 1) (last-drop w ws);
  names = init-last w ws ∙ sym (take-length (w ∷ ws));
  few = ap (λ n. leb n operands_most) (init-length w ws);
  enough = omega arith;
  named-enough = omega arith;
  count = refl;
  alone = inl (omega arith);
}

pub parts-names : (ws : List Word) → 1 ≤ length ws → PartsOf (names_line ws) ws (parts (length ws - 1) 1 (length ws))
parts-names [] l = absurd (omega (arith, l))
parts-names (w ∷ ws) l = let e : length ws ≡ suc (length ws) - 1 = omega arith in subst (λ n. PartsOf (names_line (w ∷ ws)) (w ∷ ws) (parts n 1 (suc (length ws)))) e (parts-some w ws)

-- the cover after a `.names` has as many inputs as it has words but one
pub stage-names : (at : Stage) (ws : List Word) → 1 ≤ length ws → cover (length ws - 1) ≡ stage_after at (names_line ws)
stage-names at [] l = absurd (omega (arith, l))
stage-names at (w ∷ ws) l = let e : suc (length ws) - 1 ≡ length (init_of w ws) = omega (arith, init-length w ws) in ap cover e
