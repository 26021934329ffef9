-- The numbers of a whole sheet from the rows, and what a sheet made, or not made, says of the outcome.
use Prim.Native.Nat.{ℕ, ◌+◌, ◌*◌, ◌≤◌}
use mathlib.Core.Path.{◌≡◌, refl, ap, ◌∙◌}
use mathlib.Core.List.{List, [], ◌∷◌, ◌++◌, map}
use native.Mathlib.Omega.{arith}
use native.Mathlib.Nat.{mul-le-mul_right}
use lib.ListN.{length, take, length-map, length-take}
use Rattle.maps.specs.Lists.{below, concat}
use Rattle.maps.specs.Limits.{top_range, size_range, count_range}
use Rattle.maps.specs.Outcome.{refusal, within}
use Rattle.maps.specs.Records.{Records}
use Rattle.maps.specs.Write.{Entry, header_entries, numbers, node_numbers, difference_numbers, cycle_numbers, writing}
use Rattle.maps.specs.Sizes.{header_bytes_most, node_bytes_most, difference_bytes_most, cycle_bytes_most, sheet_most}
use Rattle.maps.proofs.Over.{length-below}
use Rattle.maps.proofs.Parse.{in-range}
use Rattle.maps.proofs.Numbers.{each_below}
use Rattle.maps.proofs.Written.{passes-writing, first-refused}
use Rattle.types.specs.Code.{number_of, place_of}
use Rattle.types.specs.declared.Refusal.{Refusal}
use Rattle.records.specs.Rows.{node_place, difference_place, rows_in, node_in, difference_in, windows_in, node_entries, difference_entries, box_at, records_in}
use Rattle.records.proofs.WindowLaws.{boxes-are}
use Rattle.fields.specs.Wrote.{start, Room, Wrote, passed, failed}
use Rattle.std.specs.Prelude.{Ok, Err}
use Rattle.fields.specs.declared.Position.{Position}

-- a header whose numbers pass
pub record Limited (t n m : ℕ) : Type 0 where
  pub top : t ≤ top_range.high
  pub some : 1 ≤ n
  pub nodes : n ≤ size_range.high
  pub differences : m ≤ count_range.high

pub limited : (k t h n m : ℕ) {a b : List ℕ} {p next : Position} → Wrote (header_entries k t h n m) a b p (Ok next) → Limited t n m
limited k t h n m (passed good f e) =
    let size = in-range size_range n good.1.1.1.0 in
    record { top = (in-range top_range t good.1.0).most; some = size.least; nodes = size.most; differences = (in-range count_range m good.1.1.1.1.0).most }

-- no sheet exceeds the bytes of the longest
pub parts-most : {t n m : ℕ} → Limited t n m → header_bytes_most + n * node_bytes_most + m * difference_bytes_most + cycle_bytes_most ≤ sheet_most
parts-most l = omega (arith, mul-le-mul_right node_bytes_most l.nodes, mul-le-mul_right difference_bytes_most l.differences)

-- there is room for a whole sheet
pub room_whole : {bytes : List ℕ} → length bytes ≡ sheet_most → Room sheet_most bytes start
room_whole e = record { space = omega (arith, e); counted = omega arith }

rows-map : {A : Type 0} (f : A → List Entry) (row : ℕ → A) (xs : List ℕ) → concat (map f (map row xs)) ≡ concat (map (λ j. f (row j)) xs)
rows-map f row [] = refl
rows-map f row (x ∷ xs) = ap (λ t. f (row x) ++ t) (rows-map f row xs)

count-rows : {A : Type 0} (row : ℕ → A) (n : ℕ) → length (map row (below n)) ≡ n
count-rows row n = length-map (below n) row ∙ length-below n

-- the numbers of the records in rows, part by part
pub numbers-in : (k t h : ℕ) (nodes operands differences : List ℕ) (p : ℕ) (windows : List ℕ) (n m : ℕ) → n ≡ rows_in node_place nodes → m ≡ rows_in difference_place differences
    → numbers (records_in k t h nodes operands differences p windows)
    ≡ header_entries k t h n m
    ++ (concat (map (node_entries t nodes operands) (below n))
    ++ (concat (map (difference_entries n differences) (below m)) ++ cycle_numbers n (box_at nodes) p (windows_in windows)))
unfolding numbers
numbers-in k t h nodes operands differences p windows n m en em =
    rw (
      boxes-are nodes operands k t h differences p windows,
      ← en,
      ← em,
      count-rows (node_in nodes operands) n,
      count-rows (difference_in differences) m,
      each_below (node_numbers t) (node_in nodes operands) n,
      rows-map (difference_numbers n) (difference_in differences) (below m),
    )

module _ (R : Records) {before after : List ℕ} where
  -- a sheet that was made is what is to be handed over
  pub made : {position : Position} → Wrote (numbers R) before after start (Ok position) → (room : ℕ) → writing R room ≡ within room (take position.at after)
  made (passed good f e) room = rw f.front (passes-writing R room good)

  -- and lies within the bytes
  pub made-within : (position : Position) → Wrote (numbers R) before after start (Ok position) → position.at ≤ length after
  made-within position (passed good f e) = omega (arith, f.end, length-take position.at after, ap length f.front)

  pub not_made : {w : Refusal} → Wrote (numbers R) before after start (Err w) → (room : ℕ) → writing R room ≡ refusal (number_of w) (place_of w)
  not_made (failed {w = w} j f p l) room = let q : place_of w ≡ j = omega arith in rw q (first-refused R room (number_of w) j f)
