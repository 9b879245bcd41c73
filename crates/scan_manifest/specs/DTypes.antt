-- The dtype that a JSON value says.
use Rattle.std.specs.Prelude.{ℕ, zero, suc, List, Option, None, Some, option_map, option_and_then, nat_le, if◌then◌else◌, Bool, false, codes}
use Rattle.std.specs.Str.{bytes_eq}
use Rattle.serde_json.specs.Data.{Data}
use Rattle.serde_json.specs.Find.{get, as_str, as_array}
use Rattle.scan_values.specs.declared.ptype.PType.{PType}
use Rattle.scan_values.specs.declared.ptype.PType.TheVariants.{U8, U16, U32, U64, I8, I16, I32, I64}
use Rattle.scan_values.specs.declared.ptype.Nullability.{Nullability}
use Rattle.scan_values.specs.declared.ptype.Nullability.TheVariants.{NonNullable, Nullable}
use Rattle.scan_values.specs.DataType.{DataType, Name, bool_type, int_type, utf8_type, list_type, struct_type, fields_of, depth_of}
use Rattle.scan_manifest.specs.declared.json.Form.TheVariants.{ListDType, StructDType}
use Rattle.scan_manifest.specs.Json.{has_form, flag_at, pair_in, each, both}

abbrev pub ptype_named : List ℕ → Option PType
ptype_named k =
    if bytes_eq k (codes "u8") then Some U8 else
    (if bytes_eq k (codes "u16") then Some U16 else
    (if bytes_eq k (codes "u32") then Some U32 else
    (if bytes_eq k (codes "u64") then Some U64 else
    (if bytes_eq k (codes "i8") then Some I8 else
    (if bytes_eq k (codes "i16") then Some I16 else
    (if bytes_eq k (codes "i32") then Some I32 else
    (if bytes_eq k (codes "i64") then Some I64 else None)))))))

-- the same, with the mark of a nullable one
abbrev pub nullable_ptype_named : List ℕ → Option PType
nullable_ptype_named k =
    if bytes_eq k (codes "u8?") then Some U8 else
    (if bytes_eq k (codes "u16?") then Some U16 else
    (if bytes_eq k (codes "u32?") then Some U32 else
    (if bytes_eq k (codes "u64?") then Some U64 else
    (if bytes_eq k (codes "i8?") then Some I8 else
    (if bytes_eq k (codes "i16?") then Some I16 else
    (if bytes_eq k (codes "i32?") then Some I32 else
    (if bytes_eq k (codes "i64?") then Some I64 else None)))))))

-- an integer dtype
abbrev pub integer_from : Option PType → Option PType → Option DataType
integer_from (Some p) o = Some (int_type p NonNullable)
integer_from None o = option_map (λ p. int_type p Nullable) o

abbrev pub scalar_named : List ℕ → Option DataType
scalar_named k =
    if bytes_eq k (codes "bool") then Some (bool_type NonNullable) else
    (if bytes_eq k (codes "bool?") then Some (bool_type Nullable) else
    (if bytes_eq k (codes "utf8") then Some (utf8_type NonNullable) else
    (if bytes_eq k (codes "utf8?") then Some (utf8_type Nullable) else integer_from (ptype_named k) (nullable_ptype_named k))))

abbrev pub nullability : Bool → Nullability
nullability b = if b then Nullable else NonNullable

abbrev pub nullability_in : Data → Option Nullability
nullability_in d = option_map nullability (flag_at (codes "nullable") false d)

-- a dtype that is no deeper than dtypes may be
abbrev pub shallow : DataType → Option DataType
shallow d = if nat_le (depth_of d) 66 then Some d else None

-- a field, as `[name, dtype]`
abbrev pub field_in : (Data → Option DataType) → Data → Option (Name × DataType)
field_in inner d = option_and_then (λ p. both (λ n t. Some (n, t)) (as_str p.0) (inner p.1)) (pair_in d)

abbrev pub list_dtype : (Data → Option DataType) → Data → Data → Option DataType
list_dtype inner d element = if has_form ListDType d then both (λ e n. shallow (list_type e n)) (inner element) (nullability_in d) else None

abbrev pub struct_dtype : (Data → Option DataType) → Data → Data → Option DataType
struct_dtype inner d fields = if has_form StructDType d then both (λ fs n. shallow (struct_type (fields_of fs) n))
    (option_and_then (each (field_in inner)) (as_array fields)) (nullability_in d) else None

abbrev pub struct_dtype_in : (Data → Option DataType) → Data → Option Data → Option DataType
struct_dtype_in inner d None = None
struct_dtype_in inner d (Some fields) = struct_dtype inner d fields

abbrev pub nested_dtype : (Data → Option DataType) → Data → Option Data → Option DataType
nested_dtype inner d (Some element) = list_dtype inner d element
nested_dtype inner d None = struct_dtype_in inner d (get (codes "struct") d)

-- by its text, if it is one
abbrev pub dtype_from : (Data → Option DataType) → Data → Option (List ℕ) → Option DataType
dtype_from inner d (Some k) = scalar_named k
dtype_from inner d None = nested_dtype inner d (get (codes "list") d)

-- of a value that nests no deeper than so much
abbrev pub dtype_within : ℕ → Data → Option DataType
dtype_within zero d = None
dtype_within (suc n) d = dtype_from (dtype_within n) d (as_str d)

-- no JSON value that is read nests deeper
abbrev pub most_levels : ℕ
most_levels = 128

abbrev pub dtype_in : Data → Option DataType
dtype_in d = dtype_within most_levels d
