-- How many rows a split gives at most.
use Rattle.std.proofs.Common.{ℕ, ◌≤◌, ◌+◌, List, [], ◌∷◌, length, map, max, Bool, true, false, ◌&&◌, ◌||◌, arith}
use Rattle.std.specs.Prelude.{zip}
use Rattle.scan_values.specs.DataType.{DataType}
use Rattle.scan_values.specs.Marked.{Marked, is_true}
use Rattle.scan_segments.specs.Source.{Store}
use Rattle.scan_plans.specs.Futures.{FutureData, future_damage, future_dtype, future_overflow, items_of, known_rows, rows_of}
use Rattle.scan_plans.specs.Masks.{Filter, filtered, kept}
use Rattle.scan_plans.specs.Meaning.{true_rows, value_at}
use Rattle.scan_plans.specs.PlanTree.{PlanTree}
use Rattle.scan_drive.specs.Files.{Item}
use Rattle.scan_file.specs.FileRows.{unless_lost}
use Rattle.scan_file.specs.FileSplits.{split_state}

-- a filter leaves rows out and adds none
kept_fewer : (p : PlanTree) (store : Store) (i j k : ℕ) (bits : List Bool) → length (true_rows i (kept p store k bits)) ≤ length (true_rows j bits)
kept_fewer p store i j k [] = omega arith
kept_fewer p store i j k (true ∷ bits) = by (is_true (value_at p store k)) (kept_fewer p store (i + 1) (j + 1) (k + 1) bits)
  where
    by : (b : Bool) → length (true_rows (i + 1) (kept p store (k + 1) bits)) ≤ length (true_rows (j + 1) bits) → length (true_rows i (b ∷ kept p store (k + 1) bits)) ≤ length (j ∷ true_rows (j + 1) bits)
    by true h = omega (arith, h)
    by false h = omega (arith, h)
kept_fewer p store i j k (false ∷ bits) = kept_fewer p store (i + 1) (j + 1) (k + 1) bits

filtered_fewer : (store : Store) (first : ℕ) (bits : List Bool) (fs : List Filter) → length (true_rows first (filtered store bits fs)) ≤ length (true_rows first bits)
filtered_fewer store first bits [] = omega arith
filtered_fewer store first bits (f ∷ fs) =
    let x = filtered_fewer store first (kept f.0 store f.1 bits) fs in
    let y = kept_fewer f.0 store first first f.1 bits in
    omega (arith, x, y)

zip_fewer : {A B : Type 0} (xs : List A) (ys : List B) → length (zip xs ys) ≤ length xs
zip_fewer [] ys = omega arith
zip_fewer (x ∷ xs) [] = omega arith
zip_fewer (x ∷ xs) (y ∷ ys) = let h = zip_fewer xs ys in omega (arith, h)

lost_one : (b : Bool) (d : DataType) (rows : List Item) (n : ℕ) → length rows ≤ n → length (unless_lost b d rows) ≤ max n 1
lost_one true d rows n h = omega arith
lost_one false d rows n h = omega (arith, h)

pub rows_most : (f : FutureData) (store : Store) → length ((split_state f).rows store) ≤ max (length (known_rows f)) 1
rows_most f store =
    let x = filtered_fewer store f.first (f.mask).known (f.mask).filters in
    let cells : List (DataType × Marked) = map {B = DataType × Marked} (λ m. (future_dtype f, m)) (items_of f store) in
    let y = zip_fewer (rows_of f store) cells in
    lost_one (future_damage f store || future_overflow f store) (future_dtype f) (zip (rows_of f store) cells) (length (known_rows f)) (omega (arith, x, y))
