-- The places of leaves below a dtype.
use Rattle.std.specs.Prelude.{List}
use Rattle.scan_values.specs.DataType.{Name}

-- one step down: to a field of a struct, to the validity of a struct or a list, or to the offsets or the elements of a list
pub data Step : Type 0 where
  to_field : Name → Step
  to_validity : Step
  to_offsets : Step
  to_elements : Step

abbrev pub Path : Type 0
Path = List Step
