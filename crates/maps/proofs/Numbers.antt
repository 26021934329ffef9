-- Laws for code that writes a sheet part by part: numbers one part after another, and rows of a table in id order.
use Prim.Native.Nat.{ℕ, zero, suc, ◌+◌, ◌≤◌, ◌<◌}
use mathlib.Core.Path.{◌≡◌, refl, sym, ap, ◌∙◌}
use mathlib.Core.List.{List, [], ◌∷◌, ◌++◌, map, append-nil, append_assoc, map-append}
use native.Mathlib.Omega.{arith}
use native.Mathlib.Nat.{add-zero}
use lib.ListN.{length, get_or, take, drop, length-append, length-drop, length-map}
use lib.Seq.{take-suc, get_or-drop}
use Rattle.maps.specs.Lists.{All, below, concat}
use Rattle.maps.specs.Number.{encoded}
use Rattle.maps.specs.Write.{Entry, each_numbers, spelled, Passes, First}
use Rattle.maps.proofs.Over.{length-below}
use Rattle.maps.proofs.Member.{All-join}

-- numbers one after the other
pub spelled-append : (ns ms : List ℕ) → spelled (ns ++ ms) ≡ spelled ns ++ spelled ms
spelled-append [] ms = refl
spelled-append (n ∷ ns) ms = rw (spelled-append ns ms) (sym (append_assoc (encoded n) (spelled ns) (spelled ms)))

-- the first fault after numbers that pass, and before any others
pub first-later : (es ds : List Entry) (k j : ℕ) → All Passes es → First ds k j → First (es ++ ds) k (length es + j)
first-later es ds k j p f =
    record {
      before = es ++ f.before;
      faulty = f.faulty;
      after = f.after;
      listed = rw f.listed (sym (append_assoc es f.before (f.faulty ∷ f.after)));
      place = length-append es f.before ∙ ap (λ n. length es + n) f.place;
      good = All-join Passes es f.before p f.good;
      fails = f.fails;
      number = f.number;
    }

pub first-sooner : (es ds : List Entry) (k j : ℕ) → First es k j → First (es ++ ds) k j
first-sooner es ds k j f =
    record {
      before = f.before;
      faulty = f.faulty;
      after = f.after ++ ds;
      listed = rw f.listed (append_assoc f.before (f.faulty ∷ f.after) ds);
      place = f.place;
      good = f.good;
      fails = f.fails;
      number = f.number;
    }

-- one more row
pub concat-snoc : {A : Type 0} (f : A → List Entry) (xs : List A) (y : A) → concat (map f (xs ++ (y ∷ []))) ≡ concat (map f xs) ++ f y
concat-snoc f [] y = append-nil (f y)
concat-snoc f (x ∷ xs) y = rw (concat-snoc f xs y) (sym (append_assoc (f x) (concat (map f xs)) (f y)))

each_snoc : {A : Type 0} (f : ℕ → A → List Entry) (i : ℕ) (xs : List A) (y : A)
    → each_numbers f i (xs ++ (y ∷ [])) ≡ each_numbers f i xs ++ f (i + length xs) y
each_snoc f i [] y = rw (add-zero i) (append-nil (f i y))
each_snoc f i (x ∷ xs) y =
    let q : i + suc (length xs) ≡ i + 1 + length xs = omega arith in
    rw (q, each_snoc f (i + 1) xs y) (sym (append_assoc (f i x) (each_numbers f (i + 1) xs) (f (i + 1 + length xs) y)))

-- nodes that stand in a table: node j in row j
pub each_below : {A : Type 0} (f : ℕ → A → List Entry) (row : ℕ → A) (n : ℕ)
    → each_numbers f 0 (map row (below n)) ≡ concat (map (λ j. f j (row j)) (below n))
each_below f row zero = refl
each_below f row (suc n) =
    let q : 0 + length (map row (below n)) ≡ n = omega (arith, length-map (below n) row, length-below n) in
    rw (map-append row (below n) (n ∷ []), each_snoc f 0 (map row (below n)) (row n), q, each_below f row n, concat-snoc (λ j. f j (row j)) (below n) n)

-- operands that stand in one list: those of a node are k of them from place a on
pub slice-below : (f : ℕ → Entry) (xs : List ℕ) (a k : ℕ) → a + k ≤ length xs
    → map f (take k (drop a xs)) ≡ concat (map (λ j. f (get_or xs (a + j) 0) ∷ []) (below k))
slice-below f xs a zero l = refl
slice-below f xs a (suc k) l =
    let h : k < length (drop a xs) = omega (arith, length-drop a xs) in
    rw (
      take-suc (drop a xs) k 0 h,
      map-append f (take k (drop a xs)) (get_or (drop a xs) k 0 ∷ []),
      get_or-drop a xs k 0,
      slice-below f xs a k (omega arith),
      concat-snoc (λ j. f (get_or xs (a + j) 0) ∷ []) (below k) k,
    )
