-- One row of a plan is that row of the layout that it is over.
use Rattle.std.proofs.Common.{◌≡◌, ◌<◌, ◌+◌, ◌||◌, ℕ, Bool, true, false, [], ◌∷◌, refl, sym, ap, ◌∙◌, arith}
use Rattle.scan_expr.specs.Bound.{Bound}
use Rattle.scan_expr.specs.Overflow.{overflows}
use Rattle.scan_layout.specs.Layout.{Layout, rows_of}
use Rattle.scan_layout.specs.RowValue.{row_value}
use Rattle.scan_segments.specs.Source.{Store}
use Rattle.scan_plans.specs.Came.{Came, Holds}
use Rattle.scan_plans.specs.Futures.{future_overflow, future_spoiled, future_wanted}
use Rattle.scan_plans.specs.PlanData.{PlanData}
use Rattle.scan_plans.specs.Wants.{names_id}
use Rattle.scan_seek.specs.KeptView.{IsPlanOver}
use Rattle.scan_seek.specs.Reads.{touches, spoils, overflows_at}
use Rattle.scan_seek.specs.Rows.{one_row}

or_false : (b : Bool) → (b || false) ≡ true → b ≡ true
or_false true h = refl
or_false false h = h

false_or : (b : Bool) → (b || false) ≡ false → b ≡ false
false_or true h = h
false_or false h = refl

-- rows are numbered from 0 on
pub from_zero : (row : ℕ) → 0 + row ≡ row
from_zero row = omega arith

module _ (l : Layout) (e : Bound) (p : PlanData) (over : IsPlanOver l e p) (store : Store) where
  -- what it wants the row touches, where the expression needs it
  pub wants : (here : Came) (row id : ℕ) → row < rows_of l → Holds store here → names_id id (future_wanted (one_row p row) here) ≡ true → touches l e store row id ≡ true
  wants here row id low holds h = over.wants store here row (true ∷ []) id holds (omega (arith, low)) h

  -- what it finds no good is so
  pub spoiled : (here : Came) (row id : ℕ) → row < rows_of l → Holds store here → future_spoiled (one_row p row) here id ≡ true → spoils l e store row id ≡ true
  spoiled here row id low holds h = over.spoils store here row (true ∷ []) id holds (omega (arith, low)) h

  -- it overflows where the expression does
  pub overflow : (row : ℕ) → row < rows_of l → future_overflow (one_row p row) store ≡ true → overflows_at l e store row ≡ true
  overflow row low h = ap (overflows e.scope e.expr (row_value l store row)) (sym (from_zero row)) ∙ sym (over.overflow store row low) ∙ or_false _ h

  pub within : (row : ℕ) → row < rows_of l → future_overflow (one_row p row) store ≡ false → overflows_at l e store row ≡ false
  within row low h = ap (overflows e.scope e.expr (row_value l store row)) (sym (from_zero row)) ∙ sym (over.overflow store row low) ∙ false_or _ h
