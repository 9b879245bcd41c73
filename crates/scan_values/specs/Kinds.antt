-- The data type that a kind and a nullability make, and the parts of a data type.
use Rattle.std.specs.Prelude.{Option, Some, None, Bool as Truth, true, false, List as Items}
use Rattle.scan_values.specs.declared.ptype.PType.{PType}
use Rattle.scan_values.specs.DataType.{DataType, Name, bool_type, int_type, utf8_type, list_type, struct_type, Fields, fields_of}
use Rattle.scan_values.specs.declared.ptype.Nullability.{Nullability}
use Rattle.scan_values.specs.declared.dtype.DTypeKind.{DTypeKind}
use Rattle.scan_values.specs.declared.dtype.DTypeKind.TheVariants as kinds
use Rattle.scan_values.specs.declared.dtype.Held.{Held}
use Rattle.scan_values.specs.declared.dtype.Held.TheVariants.{Shared, Alone}
use Rattle.scan_values.specs.declared.dtype.Kind.{Kind}
use Rattle.scan_values.specs.declared.dtype.Kind.TheVariants.{Bool, Primitive, Utf8, List as Listed, Struct}

abbrev pub fields_held : Held → Items (Name × DataType)
fields_held (Shared a) = a.value
fields_held (Alone l) = l

abbrev pub data_type_of : Kind → Nullability → DataType
data_type_of Bool n = bool_type n
data_type_of (Primitive p) n = int_type p n
data_type_of Utf8 n = utf8_type n
data_type_of (Listed e) n = list_type e.value n
data_type_of (Struct fs) n = struct_type (fields_of fs) n

-- what a list's elements are
abbrev pub element_of : DataType → Option DataType
element_of (bool_type n) = None
element_of (int_type p n) = None
element_of (utf8_type n) = None
element_of (list_type d n) = Some d
element_of (struct_type fs n) = None

abbrev pub struct_fields_of : DataType → Option Fields
struct_fields_of (bool_type n) = None
struct_fields_of (int_type p n) = None
struct_fields_of (utf8_type n) = None
struct_fields_of (list_type d n) = None
struct_fields_of (struct_type fs n) = Some fs

abbrev pub ptype_of : DataType → Option PType
ptype_of (bool_type n) = None
ptype_of (int_type p n) = Some p
ptype_of (utf8_type n) = None
ptype_of (list_type d n) = None
ptype_of (struct_type fs n) = None

abbrev pub is_scalar_type : DataType → Truth
is_scalar_type (bool_type n) = true
is_scalar_type (int_type p n) = true
is_scalar_type (utf8_type n) = true
is_scalar_type (list_type d n) = false
is_scalar_type (struct_type fs n) = false

abbrev pub kind_of : DataType → DTypeKind
kind_of (bool_type n) = kinds.Bool
kind_of (int_type p n) = kinds.Primitive p
kind_of (utf8_type n) = kinds.Utf8
kind_of (list_type d n) = kinds.List
kind_of (struct_type fs n) = kinds.Struct
