-- What prunes, filters and projections of a reader's plans mean, in the words of the reader.
use Rattle.std.specs.Prelude.{◌≡◌, ◌+◌, ◌||◌, ◌&&◌, ℕ, Bool, true, false, List, [], ◌∷◌, length, map, if◌then◌else◌}
use Rattle.std.specs.List.{list_any}
use Rattle.scan_values.specs.Marked.{is_true}
use Rattle.scan_values.specs.Masks.{both_true}
use Rattle.scan_segments.specs.Source.{Store}
use Rattle.scan_expr.specs.Bound.{Bound}
use Rattle.scan_expr.specs.Infer.{infer}
use Rattle.scan_plans.specs.Came.{Came, Holds}
use Rattle.scan_plans.specs.Futures.{FutureData, items_of, future_dtype, future_overflow, future_wanted, future_spoiled}
use Rattle.scan_plans.specs.Masks.{MaskData, mask_of, mask_overflow, mask_wanted, mask_spoiled}
use Rattle.scan_plans.specs.Meaning.{true_rows}
use Rattle.scan_plans.specs.Pruning.{IsWithin}
use Rattle.scan_plans.specs.Wants.{names_id}
use Rattle.scan_readers.specs.PlanOf.{may_want, may_spoil}
use Rattle.scan_readers.specs.Readers.{ReaderState, numbers_alone, value_of, overflows_at}

-- the rows of a mask, which begins at a row, at which an expression is true
abbrev pub rows_true : ReaderState → Bound → Store → ℕ → List Bool → List Bool
rows_true s e store i [] = []
rows_true s e store i (b ∷ bits) = (b && is_true (value_of s e store i)) ∷ rows_true s e store (i + 1) bits

-- an expression overflows at some true row of a mask that begins at a row
abbrev pub overflows_on : ReaderState → Bound → Store → ℕ → List Bool → Bool
overflows_on s e store first bits = list_any (overflows_at s e store) (true_rows first bits)

-- a mask future after an expression is to be true on the rows of another, which begins at a row of a reader
pub record Filters (s : ReaderState) (e : Bound) (first : ℕ) (old new : MaskData) : Type 0 where
  pub size : length new.known ≡ length old.known
  pub mask : (store : Store) → mask_of new store ≡ rows_true s e store first (mask_of old store)
  pub overflow : (store : Store) → mask_overflow new store ≡ (mask_overflow old store || overflows_on s e store first (mask_of old store))
  pub wants : (store : Store) (here : Came) (id : ℕ) → Holds store here → names_id id (mask_wanted new here) ≡ true
      → (names_id id (mask_wanted old here) || may_want s e store first (first + length old.known) id) ≡ true
  pub spoils : (store : Store) (here : Came) (id : ℕ) → Holds store here → mask_spoiled new here id ≡ true
      → (mask_spoiled old here id || may_spoil s e store first (first + length old.known) id) ≡ true

-- an array future of the values of an expression at the rows of a mask, which begins at a row of a reader
pub record Projects (s : ReaderState) (e : Bound) (first : ℕ) (m : MaskData) (f : FutureData) : Type 0 where
  pub dtype : future_dtype f ≡ infer e.scope e.expr
  pub items : (store : Store) → items_of f store ≡ map (value_of s e store) (true_rows first (mask_of m store))
  pub overflow : (store : Store) → future_overflow f store ≡ (mask_overflow m store || overflows_on s e store first (mask_of m store))
  pub wants : (store : Store) (here : Came) (id : ℕ) → Holds store here → names_id id (future_wanted f here) ≡ true
      → (names_id id (mask_wanted m here) || may_want s e store first (first + length m.known) id) ≡ true
  pub spoils : (store : Store) (here : Came) (id : ℕ) → Holds store here → future_spoiled f here id ≡ true
      → (mask_spoiled m here id || may_spoil s e store first (first + length m.known) id) ≡ true

-- A mask future after bits, which begin at a row of a reader, are pruned by an expression: where the expression reads
-- row numbers alone the rows of the bits at which it is true, else the bits.
pub record Prunes (s : ReaderState) (e : Bound) (first : ℕ) (bits : List Bool) (m : MaskData) : Type 0 where
  pub size : length m.known ≡ length bits
  pub mask : (store : Store) → mask_of m store ≡ (if numbers_alone s e.expr then rows_true s e store first bits else bits)
  -- no row of the bits is dropped at which it is true
  pub drops : (store : Store) → IsWithin (rows_true s e store first bits) (mask_of m store)
  -- under the bits and what is left of them the expression is true where it is under the bits
  pub alike : (store : Store) → rows_true s e store first (both_true bits (mask_of m store)) ≡ rows_true s e store first bits
  -- by row numbers alone: a filter by it leaves that as it is
  pub again : numbers_alone s e.expr ≡ true → (store : Store) → rows_true s e store first (mask_of m store) ≡ mask_of m store
  pub overflow : (store : Store) → mask_overflow m store ≡ (numbers_alone s e.expr && overflows_on s e store first bits)
  pub wants : (here : Came) → mask_wanted m here ≡ []
  pub spoils : (here : Came) (id : ℕ) → mask_spoiled m here id ≡ false
