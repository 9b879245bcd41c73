-- What a reader of an array in memory is.
use Rattle.std.specs.Prelude.{List, [], ◌∷◌, Some, None, false, length, get_or, refl}
use Rattle.std.specs.Coded.{Coded, code_by, coded×, coded_list, coded_ℕ}
use Rattle.scan_values.specs.Arrays.{ArrayData, array_code}
use Rattle.scan_values.specs.DataType.{Name}
use Rattle.scan_values.specs.Val.{null_val, marked}
use Rattle.scan_plans.specs.PlanData.{PlanData, plan_data_code}
use Rattle.scan_readers.specs.Readers.{ReaderState}

-- a name, the array, and the plans that are kept
pub record RowsData : Type 0 where
  pub name : Name
  pub array : ArrayData
  pub kept : List PlanData

abbrev pub rows_code : Coded RowsData
rows_code = code_by (Name × (ArrayData × List PlanData))
    (coded× (coded_list coded_ℕ) (coded× array_code (coded_list plan_data_code))) (λ a. (a.name, (a.array, a.kept)))
    (λ p. record { name = p.0; array = p.1.0; kept = p.1.1 }) (λ _. refl)

abbrev pub rows_data : Name → ArrayData → List PlanData → RowsData
rows_data name array kept = record { name = name; array = array; kept = kept }

-- it has the items, touches nothing, and is split at the end of a range alone
abbrev pub rows_state : Name → ArrayData → ReaderState
rows_state name a = record {
  name = name;
  dtype = a.dtype;
  rows = length a.items;
  first_number = None;
  value = λ store i. marked (get_or a.items i null_val);
  touched = λ store start end. [];
  flawed = λ store p. false;
  holding = Some (λ is. []);
  edges = λ masks start end. end ∷ [];
  misses = λ masks. false;
}
