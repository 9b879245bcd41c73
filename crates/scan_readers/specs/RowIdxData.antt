-- What a reader that numbers rows is.
use Rattle.std.specs.Prelude.{◌+◌, ◌<◌, ◌^◌, ℕ, List, Some, if◌then◌else◌, refl}
use Rattle.std.specs.Coded.{Coded, code_by, coded×, coded_list, coded_ℕ}
use Rattle.scan_expr.specs.Expr.{uses_row_index}
use Rattle.scan_plans.specs.PlanData.{PlanData, plan_data_code, EachPlan}
use Rattle.scan_readers.specs.Kept.{Kept, find_plan}
use Rattle.scan_readers.specs.PlanOf.{IsPlanOf}
use Rattle.scan_readers.specs.Readers.{ReaderState}

-- the number of the first row, the reader of the rows, and the plans that are kept of expressions with row numbers
pub record RowIdxData (R : Type 0) : Type 0 where
  pub offset : ℕ
  pub child : R
  pub kept : List PlanData

abbrev pub row_idx_data : {R : Type 0} → ℕ → R → List PlanData → RowIdxData R
row_idx_data offset child kept = record { offset = offset; child = child; kept = kept }

abbrev pub row_idx_code : {R : Type 0} → Coded R → Coded (RowIdxData R)
row_idx_code {R} r = code_by (ℕ × (R × List PlanData)) (coded× coded_ℕ (coded× r (coded_list plan_data_code)))
    (λ a. (a.offset, (a.child, a.kept))) (λ p. record { offset = p.0; child = p.1.0; kept = p.1.1 }) (λ _. refl)

-- it has the other's rows, numbered from the offset on
abbrev pub numbered_state : ℕ → ReaderState → ReaderState
numbered_state offset s = record {
  name = s.name;
  dtype = s.dtype;
  rows = s.rows;
  first_number = Some offset;
  value = s.value;
  touched = s.touched;
  flawed = s.flawed;
  holding = s.holding;
  edges = s.edges;
  misses = s.misses;
}

-- plans of expressions with row numbers are kept here, others by the other reader
abbrev pub kept_by_numbers : Kept → List PlanData → Kept
kept_by_numbers child plans e = if uses_row_index e.expr then find_plan plans e else child e

-- each row's number is a u64, and the plans that are kept are plans of it
pub record IsRowIdx (offset : ℕ) (s : ReaderState) (plans : List PlanData) : Type 0 where
  pub numbers : offset + s.rows < 2 ^ 64
  pub kept : EachPlan (λ p. IsPlanOf (numbered_state offset s) p.expr p) plans
