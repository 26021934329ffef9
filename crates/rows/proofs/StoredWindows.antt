-- What stands in a table of nodes into which windows are stored, each in the row of its node.
use Prim.Native.Nat.{ℕ, ◌+◌, ◌≤◌, ◌<◌}
use mathlib.Core.Path.{◌≡◌, refl, sym, ap, ◌∙◌}
use mathlib.Core.Bool.{Bool, true, false, cond}
use mathlib.Core.List.{List, [], ◌∷◌}
use native.Mathlib.Omega.{arith}
use native.Mathlib.Nat.{add-zero}
use lib.Dec.{eqb, ltb}
use lib.ListN.{length, get_or}
use borrow.Author.Tests.{eqb-true, eqb-false, ne_eqb, ltb-true, ltb-false}
use Rattle.maps.specs.Lists.{All}
use Rattle.maps.specs.Sheet.{Window, whole, window_in}
use Rattle.maps.specs.WellFormed.{WellEntry, Rising}
use Rattle.rows.specs.Table.{nodes_wide, node_place, window_place, window_row, store_from, store_windows, open_in, close_in, closing}
use Rattle.rows.proofs.StoredRows.{store_length, store-before, store-after, store_at}

pub windows-length : (g : List ℕ) (ws : List Window) → length (store_windows g ws) ≡ length g
unfolding store_windows
windows-length g [] = refl
windows-length g (w ∷ ws) = windows-length (store_from g (window_place w.id) (window_row w.from w.to)) ws ∙ store_length g (window_place w.id) (window_row w.from w.to)

-- a window in the row of another node, or another column
store_other : (g : List ℕ) (u f t q : ℕ) → (q ≡ window_place u → ⊥) → (q ≡ window_place u + 1 → ⊥) → get_or (store_from g (window_place u) (window_row f t)) q 0 ≡ get_or g q 0
store_other g u f t q a b = go (eqb q (window_place u)) (eqb q (window_place u + 1)) refl refl (ltb q (window_place u)) refl
  where
    go : (x y : Bool) → eqb q (window_place u) ≡ x → eqb q (window_place u + 1) ≡ y → (z : Bool) → ltb q (window_place u) ≡ z
        → get_or (store_from g (window_place u) (window_row f t)) q 0 ≡ get_or g q 0
    go true y e h z k = absurd (a (eqb-true _ _ e))
    go false true e h z k = absurd (b (eqb-true _ _ h))
    go false false e h true k = store-before g (window_place u) (window_row f t) q (ltb-true _ _ k)
    go false false e h false k =
        store-after g (window_place u) (window_row f t) q (omega (arith, eqb-false q (window_place u) e, eqb-false q (window_place u + 1) h, ltb-false q (window_place u) k))

-- the columns before that of windows are as they were
pub windows-beside : (g : List ℕ) (ws : List Window) (v j : ℕ) → j < 12 → get_or (store_windows g ws) (node_place v + j) 0 ≡ get_or g (node_place v + j) 0
unfolding store_windows
windows-beside g [] v j l = refl
windows-beside g (w ∷ ws) v j l =
    windows-beside (store_from g (window_place w.id) (window_row w.from w.to)) ws v j l
    ∙ store_other g w.id w.from w.to (node_place v + j) (λ e. omega arith) (λ e. omega arith)

-- the window that the row of v gives
abbrev slot : (g : List ℕ) (p v : ℕ) → Window
slot g p v = record { id = v; from = open_in g v; to = closing g p v }

-- the entry of v, or another window
abbrev found : (other : Window) (v : ℕ) → List Window → Window
found o v [] = o
found o v (w ∷ ws) = cond (eqb w.id v) w (found o v ws)

found-whole : (p v : ℕ) (ws : List Window) → window_in p v ws ≡ found (whole p v) v ws
found-whole p v [] = refl
found-whole p v (w ∷ ws) = ap (cond (eqb w.id v) w) (found-whole p v ws)

-- no entry from low on is that of a node below it
found-risen : (o : Window) (v low : ℕ) (ws : List Window) → Rising low ws → v < low → found o v ws ≡ o
found-risen o v low [] r l = refl
found-risen o v low (w ∷ ws) r l =
    rw (ne_eqb w.id v (λ e. omega (arith, r.0))) (found-risen o v (w.id + 1) ws r.1 (omega (arith, r.0)))

module _ (n : ℕ) (is_box : ℕ → Bool) (p : ℕ) (few : n ≤ 256) where
  -- one window stored
  slot-here : (g : List ℕ) (w : Window) (v : ℕ) → length g ≡ nodes_wide → WellEntry n is_box p w → w.id ≡ v → slot (store_from g (window_place w.id) (window_row w.from w.to)) p v ≡ w
  slot-here g w v wide h e =
      let room : window_place w.id + 2 ≤ length g = omega (arith, h.inside) in
      let a : open_in (store_from g (window_place w.id) (window_row w.from w.to)) w.id ≡ w.from =
      rw (add-zero (window_place w.id)) at (store_at g (window_place w.id) (window_row w.from w.to) 0 room (omega arith)) in
      let b : close_in (store_from g (window_place w.id) (window_row w.from w.to)) w.id ≡ w.to =
      store_at g (window_place w.id) (window_row w.from w.to) 1 room (omega arith) in
      rw (sym e, a, b, ne_eqb w.to 0 (λ z. omega (arith, h.well.some)))

  slot-there : (g : List ℕ) (w : Window) (v : ℕ) → (w.id ≡ v → ⊥) → slot (store_from g (window_place w.id) (window_row w.from w.to)) p v ≡ slot g p v
  slot-there g w v f =
      rw (
        store_other g w.id w.from w.to (window_place v) (λ e. f (omega arith)) (λ e. omega arith),
        store_other g w.id w.from w.to (window_place v + 1) (λ e. omega arith) (λ e. f (omega arith)),
      )

  pub slot-stored : (g : List ℕ) (low : ℕ) (ws : List Window) (v : ℕ) → length g ≡ nodes_wide → All (WellEntry n is_box p) ws → Rising low ws
      → slot (store_windows g ws) p v ≡ found (slot g p v) v ws
  unfolding store_windows
  slot-stored g low [] v wide h r = refl
  slot-stored g low (w ∷ ws) v wide h r =
      slot-stored more (w.id + 1) ws v (store_length g (window_place w.id) (window_row w.from w.to) ∙ wide) h.1 r.1 ∙ go (eqb w.id v) refl
    where
      more : List ℕ
      more = store_from g (window_place w.id) (window_row w.from w.to)

      go : (t : Bool) → eqb w.id v ≡ t → found (slot more p v) v ws ≡ cond t w (found (slot g p v) v ws)
      go true e =
          let q : w.id ≡ v = eqb-true _ _ e in
          ap (λ o. found o v ws) (slot-here g w v wide h.0 q) ∙ found-risen w v (w.id + 1) ws r.1 (omega arith)
      go false e = ap (λ o. found o v ws) (slot-there g w v (eqb-false _ _ e))

  -- the windows of a table that had none
  pub window-stored : (g : List ℕ) (ws : List Window) (v : ℕ) → length g ≡ nodes_wide → All (WellEntry n is_box p) ws → Rising 0 ws
      → open_in g v ≡ 0 → close_in g v ≡ 0 → slot (store_windows g ws) p v ≡ window_in p v ws
  window-stored g ws v wide h r a b =
      let e : slot g p v ≡ whole p v = rw (a, b) in
      slot-stored g 0 ws v wide h r ∙ ap (λ o. found o v ws) e ∙ sym (found-whole p v ws)

-- where a window closes, at each outcome of the code's test
pub close-none : (g : List ℕ) (p v : ℕ) → close_in g v ≡ 0 → p ≡ closing g p v
close-none g p v e = sym (rw e)

pub close-some : (g : List ℕ) (p v : ℕ) → (close_in g v ≡ 0 → ⊥) → close_in g v ≡ closing g p v
close-some g p v f = sym (rw (ne_eqb (close_in g v) 0 f))
