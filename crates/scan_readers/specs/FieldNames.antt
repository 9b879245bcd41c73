-- The fields that masks name.
use Rattle.std.specs.Prelude.{Bool, List, [], ◌∷◌, Option, Some, is_some, option_and_then, map}
use Rattle.std.specs.List.{list_all}
use Rattle.scan_values.specs.DataType.{DataType, Name}
use Rattle.scan_values.specs.FieldLists.{dtype_named}
use Rattle.scan_values.specs.declared.field_path.FieldMask.{FieldMask}
use Rattle.scan_expr.specs.Infer.{struct_fields}
use Rattle.scan_layout.specs.Laws.{path_of}

-- the dtype of the field that names lead to, each the name of a field of the struct before
abbrev pub dtype_at : List Name → DataType → Option DataType
dtype_at [] d = Some d
dtype_at (n ∷ ns) d = option_and_then (dtype_at ns) (dtype_named n (struct_fields d))

-- paths that each lead to a field of a dtype
abbrev pub all_lead : DataType → List (List Name) → Bool
all_lead d paths = list_all (λ p. is_some (dtype_at p d)) paths

-- each mask matches all, or its path leads to a field of a dtype
abbrev pub name_fields : DataType → List FieldMask → Bool
name_fields d masks = all_lead d (map path_of masks)
