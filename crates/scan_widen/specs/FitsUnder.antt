-- Which dtype's values can be read as values of another.
use Rattle.std.specs.Prelude.{ℤ, pos, negsuc, Bool, true, false, ◌&&◌, [], Option, None, Some}
use Rattle.std.specs.Option.{is_none}
use Rattle.scan_values.specs.declared.ptype.Nullability.{Nullability}
use Rattle.scan_values.specs.declared.ptype.Nullability.TheVariants.{NonNullable, Nullable}
use Rattle.scan_values.specs.declared.ptype.PType.{PType}
use Rattle.scan_values.specs.declared.ptype.PType.TheVariants.{U8, U16, U32, U64, I8, I16, I32, I64}
use Rattle.scan_values.specs.declared.dtype.DTypeKind.{DTypeKind}
use Rattle.scan_values.specs.DataType.{DataType, Fields, bool_type, int_type, utf8_type, list_type, struct_type, no_fields, field, is_nullable}
use Rattle.scan_values.specs.FieldLists.{dtype_named}
use Rattle.scan_values.specs.NameFaults.{names_fault, field_names}
use Rattle.scan_values.specs.Ranges.{in_range}

-- null only where the other has it
abbrev pub null_fits : Nullability → Nullability → Bool
null_fits NonNullable m = true
null_fits Nullable Nullable = true
null_fits Nullable NonNullable = false

-- the least and the greatest number of an integer type
abbrev pub least_of : PType → ℤ
least_of U8 = pos 0
least_of U16 = pos 0
least_of U32 = pos 0
least_of U64 = pos 0
least_of I8 = negsuc 127
least_of I16 = negsuc 32767
least_of I32 = negsuc 2147483647
least_of I64 = negsuc 9223372036854775807

abbrev pub greatest_of : PType → ℤ
greatest_of U8 = pos 255
greatest_of U16 = pos 65535
greatest_of U32 = pos 4294967295
greatest_of U64 = pos 18446744073709551615
greatest_of I8 = pos 127
greatest_of I16 = pos 32767
greatest_of I32 = pos 2147483647
greatest_of I64 = pos 9223372036854775807

-- each number of one integer type is one of the other
abbrev pub holds_all : PType → PType → Bool
holds_all p q = in_range q (least_of p) && in_range q (greatest_of p)

-- the names of fields are neither repeated nor reserved
abbrev pub are_lawful : Fields → Bool
are_lawful fs = is_none (names_fault [] (field_names fs))

-- what is found passes a test, or nothing is found and this holds
abbrev pub passes_or : {T : Type 0} → Bool → (T → Bool) → Option T → Bool
passes_or otherwise test None = otherwise
passes_or otherwise test (Some x) = test x

-- values of the first dtype can be read as values of the second
abbrev mutual
  pub fits_under : DataType → DataType → Bool
  fits_under (bool_type n) (bool_type m) = null_fits n m
  fits_under (int_type p n) (int_type q m) = null_fits n m && holds_all p q
  fits_under (utf8_type n) (utf8_type m) = null_fits n m
  fits_under (list_type d n) (list_type e m) = null_fits n m && fits_under d e
  fits_under (struct_type fs n) (struct_type gs m) = null_fits n m && (are_lawful fs && fields_fit fs gs)
  fits_under from to = false

  -- each of the second fields is one of the first that fits, or absent and nullable
  pub fields_fit : Fields → Fields → Bool
  fields_fit fs no_fields = true
  fields_fit fs (field n t gs) = passes_or (is_nullable t) (λ d. fits_under d t) (dtype_named n fs) && fields_fit fs gs

-- a kind of dtype fits another, whatever the parts are
abbrev pub kinds_fit : DTypeKind → DTypeKind → Bool
kinds_fit DTypeKind.Bool DTypeKind.Bool = true
kinds_fit (DTypeKind.Primitive p) (DTypeKind.Primitive q) = holds_all p q
kinds_fit DTypeKind.Utf8 DTypeKind.Utf8 = true
kinds_fit DTypeKind.List DTypeKind.List = true
kinds_fit DTypeKind.Struct DTypeKind.Struct = true
kinds_fit from to = false

-- a list by its elements, and a struct by its fields
abbrev pub elements_fit : Option DataType → Option DataType → Bool
elements_fit None to = false
elements_fit (Some d) None = false
elements_fit (Some d) (Some e) = fits_under d e

abbrev pub structs_fit : Option Fields → Option Fields → Bool
structs_fit None to = false
structs_fit (Some fs) None = false
structs_fit (Some fs) (Some gs) = are_lawful fs && fields_fit fs gs
