-- What a contract sees of an array.
use Rattle.std.specs.Prelude.{List, refl}
use Rattle.std.specs.Coded.{Coded, code_by, coded_list, coded×}
use Rattle.scan_values.specs.DataType.{DataType, data_type_code}
use Rattle.scan_values.specs.Val.{Val, val_code}

pub record ArrayData : Type 0 where
  pub dtype : DataType
  pub items : List Val

abbrev pub array_code : Coded ArrayData
array_code =
    code_by (DataType × List Val) (coded× data_type_code (coded_list val_code)) (λ a. (a.dtype, a.items)) (λ p. record { dtype = p.0; items = p.1 }) (λ _. refl)

abbrev pub of_parts : DataType → List Val → ArrayData
of_parts d vs = record { dtype = d; items = vs }
