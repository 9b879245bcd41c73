-- Dtypes and values as a person reads them.
use Rattle.std.specs.Prelude.{ℕ, ◌++◌, Bool, true, false, List, [], codes}
use Rattle.std.specs.Fmt.{signed_decimal}
use Rattle.scan_values.specs.DataType.{DataType, bool_type, int_type, utf8_type, list_type, struct_type, Fields, no_fields, field, Name}
use Rattle.scan_values.specs.Val.{Val, null_val, bool_val, int_val, text_val, list_val, struct_val, Vals, no_vals, val}
use Rattle.scan_values.specs.declared.ptype.Nullability.{Nullability}
use Rattle.scan_values.specs.declared.ptype.Nullability.TheVariants.{NonNullable, Nullable}
use Rattle.scan_values.specs.declared.ptype.PType.{PType}
use Rattle.scan_values.specs.declared.ptype.PType.TheVariants.{U8, U16, U32, U64, I8, I16, I32, I64}

-- the name of an integer type
abbrev pub shown_ptype : PType → List ℕ
shown_ptype U8 = codes "u8"
shown_ptype U16 = codes "u16"
shown_ptype U32 = codes "u32"
shown_ptype U64 = codes "u64"
shown_ptype I8 = codes "i8"
shown_ptype I16 = codes "i16"
shown_ptype I32 = codes "i32"
shown_ptype I64 = codes "i64"

-- a question mark behind what may be null
abbrev pub shown_null : Nullability → List ℕ
shown_null NonNullable = []
shown_null Nullable = codes "?"

-- what stands before an item: a comma, but not before the first
abbrev pub comma : Bool → List ℕ
comma true = []
comma false = codes ", "

-- a dtype, as `{a=i32, b=list(utf8?)}?`
abbrev mutual
  pub shown_dtype : DataType → List ℕ
  shown_dtype (bool_type n) = codes "bool" ++ shown_null n
  shown_dtype (int_type p n) = shown_ptype p ++ shown_null n
  shown_dtype (utf8_type n) = codes "utf8" ++ shown_null n
  shown_dtype (list_type d n) = (codes "list(" ++ (shown_dtype d ++ codes ")")) ++ shown_null n
  shown_dtype (struct_type fs n) = (codes "{" ++ (shown_fields true fs ++ codes "}")) ++ shown_null n

  -- its fields, behind others or not
  pub shown_fields : Bool → Fields → List ℕ
  shown_fields first no_fields = []
  shown_fields first (field n d fs) = (comma first ++ (n ++ (codes "=" ++ shown_dtype d))) ++ shown_fields false fs

-- a dtype without its question mark
abbrev pub shown_kind : DataType → List ℕ
shown_kind (bool_type n) = codes "bool"
shown_kind (int_type p n) = shown_ptype p
shown_kind (utf8_type n) = codes "utf8"
shown_kind (list_type d n) = codes "list(" ++ (shown_dtype d ++ codes ")")
shown_kind (struct_type fs n) = codes "{" ++ (shown_fields true fs ++ codes "}")

-- a field behind others or not
abbrev pub shown_field : Bool → Name → DataType → List ℕ
shown_field first n d = comma first ++ (n ++ (codes "=" ++ shown_dtype d))

-- whether it is true or false
abbrev pub shown_bool : Bool → List ℕ
shown_bool true = codes "true"
shown_bool false = codes "false"

-- a value, as `{5, "text", [true, null]}`
abbrev mutual
  pub shown_val : Val → List ℕ
  shown_val null_val = codes "null"
  shown_val (bool_val b) = shown_bool b
  shown_val (int_val z) = signed_decimal z
  shown_val (text_val s) = codes "\"" ++ (s ++ codes "\"")
  shown_val (list_val vs) = codes "[" ++ (shown_vals true vs ++ codes "]")
  shown_val (struct_val vs) = codes "{" ++ (shown_vals true vs ++ codes "}")

  -- values one after the other, behind others or not
  pub shown_vals : Bool → Vals → List ℕ
  shown_vals first no_vals = []
  shown_vals first (val v vs) = (comma first ++ shown_val v) ++ shown_vals false vs
