-- The rows of a file under another dtype.
use Rattle.std.specs.Prelude.{◌≡◌, ℕ, ◌+◌, ◌<◌, ◌≤◌, ◌^◌, length, List, [], ◌∷◌, map, true, Option, Some, slice_get}
use Rattle.scan_values.specs.DataType.{DataType}
use Rattle.scan_values.specs.Kinds.{is_scalar_type}
use Rattle.scan_values.specs.Marked.{Marked}
use Rattle.scan_segments.specs.Source.{Store}
use Rattle.scan_spelling.specs.declared.spelling.Spelling.{Spelling}
use Rattle.scan_layout.specs.Layout.{Layout, dtype_of, rows_of}
use Rattle.scan_layout.specs.Form.{HasForm}
use Rattle.scan_spelling.specs.Places.{places_of}
use Rattle.scan_layout.specs.RowValue.{leaf_value, row_value}
use Rattle.scan_widen.specs.declared.behind.Behind.{Behind}
use Rattle.scan_widen.specs.FitsUnder.{fits_under}
use Rattle.scan_widen.specs.Wide.{scalar_as, wide}
use Rattle.scan_widen.specs.Under.{numbered, segment_behind, spelling_under, behind, under}
use Rattle.scan_widen.specs.Stores.{bytes_behind, store_under}

-- these stand one after another from a number on
abbrev pub StandAt : List Behind → ℕ → List Behind → Type 0
StandAt all k [] = Unit {0}
StandAt all k (b ∷ bs) = (slice_get all k ≡ Some b) × StandAt all (k + 1) bs

-- a store has the segments behind which these stand
abbrev pub Shows : Store → List Behind → Store → Type 0
Shows u all s = (id : ℕ) (b : Behind) → slice_get all id ≡ Some b → u id ≡ bytes_behind s b

-- the rows of a leaf
abbrev pub LeavesWiden : Type 0
LeavesWiden = (from to : DataType) (sp : Spelling) (k : ℕ) (segments : List (ℕ × ℕ)) (all : List Behind) (s u : Store) (i : ℕ)
    → is_scalar_type from ≡ true → fits_under from to ≡ true → Shows u all s → StandAt all k (map (segment_behind from to sp) segments)
    → leaf_value to u (places_of to (spelling_under from to sp) (numbered k segments)) i ≡ scalar_as to (leaf_value from s (places_of from sp segments) i)

-- the rows of a layout: those of the layout under the dtype, over the widened segments, are its own, widened
abbrev pub RowsWiden : Type 0
RowsWiden = (to : DataType) (k : ℕ) (l : Layout) (all : List Behind) (s u : Store) (i : ℕ)
    → HasForm l (dtype_of l) → fits_under (dtype_of l) to ≡ true → Shows u all s → StandAt all k (behind to l) → i < rows_of l
    → row_value (under k to l) u i ≡ wide (dtype_of l) to (row_value l s i)

-- the same over the segments that stand behind, and nothing else
abbrev pub RowsUnderDType : Type 0
RowsUnderDType = (to : DataType) (l : Layout) (s : Store) (i : ℕ) → HasForm l (dtype_of l) → fits_under (dtype_of l) to ≡ true → i < rows_of l
    → row_value (under 0 to l) (store_under (behind to l) s) i ≡ wide (dtype_of l) to (row_value l s i)
