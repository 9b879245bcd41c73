-- A layout's rows under another dtype, over its own segments.
use Rattle.std.proofs.Common.{◌≡◌, ℕ, zero, suc, ◌<◌, ◌≤◌, ◌^◌, ◌+◌, ◌-◌, List, [], ◌∷◌, ◌++◌, length, arith, refl, sym, subst, ap, ◌∙◌, Bool, true, false, Option, Some, None, length-append, append_assoc}
use Rattle.std.specs.Prelude.{nat_lt, slice_get, option_and_then}
use Rattle.scan_values.specs.DataType.{DataType}
use Rattle.scan_segments.specs.Source.{Store}
use Rattle.scan_layout.specs.Layout.{Layout, dtype_of, rows_of}
use Rattle.scan_layout.specs.Form.{HasForm}
use Rattle.scan_layout.specs.RowValue.{row_value}
use Rattle.scan_widen.specs.declared.behind.Behind.{Behind}
use Rattle.scan_widen.specs.FitsUnder.{fits_under}
use Rattle.scan_widen.specs.Wide.{wide}
use Rattle.scan_widen.specs.Under.{behind, under}
use Rattle.scan_widen.specs.Stores.{bytes_behind, store_under}
use Rattle.scan_widen.specs.Rows.{StandAt, Shows}
use Rattle.scan_widen.proofs.RowsAll.{rows_widen}

at_seam : (pre bs : List Behind) (b : Behind) → slice_get (pre ++ b ∷ bs) (length pre) ≡ Some b
at_seam [] bs b = refl
at_seam (x ∷ pre) bs b = at_seam pre bs b

stand_from : (pre bs : List Behind) → StandAt (pre ++ bs) (length pre) bs
stand_from pre [] = tt
stand_from pre (b ∷ bs) =
    let more = stand_from (pre ++ b ∷ []) bs in
    let all : (pre ++ b ∷ []) ++ bs ≡ pre ++ b ∷ bs = append_assoc pre (b ∷ []) bs in
    let many : length (pre ++ b ∷ []) ≡ length pre + 1 = length-append pre (b ∷ []) in
    (at_seam pre bs b, subst (λ n. StandAt (pre ++ b ∷ bs) n bs) many (subst (λ xs. StandAt xs (length (pre ++ b ∷ [])) bs) all more))

shows_under : (all : List Behind) (s : Store) → Shows (store_under all s) all s
shows_under all s id b e = rw e refl

pub rows_under_dtype : (to : DataType) (l : Layout) (s : Store) (i : ℕ) → HasForm l (dtype_of l) → fits_under (dtype_of l) to ≡ true → i < rows_of l
    → row_value (under 0 to l) (store_under (behind to l) s) i ≡ wide (dtype_of l) to (row_value l s i)
rows_under_dtype to l s i form f within =
    rows_widen to 0 l (behind to l) s (store_under (behind to l) s) i form f (shows_under (behind to l) s) (stand_from [] (behind to l)) within
