-- The dtype of an expression over a scope, by the typing table without its conditions: true where these hold.
use Rattle.std.specs.Prelude.{cond, List, [], ◌∷◌, Option, Some, None}
use Rattle.scan_values.specs.DataType.{DataType, bool_type, int_type, struct_type, Fields, no_fields, field, Name, nullability_of, with_nullability}
use Rattle.scan_values.specs.FieldLists.{dtype_named}
use Rattle.scan_values.specs.Kinds.{struct_fields_of, ptype_of}
use Rattle.scan_values.specs.NameFaults.{has_name}
use Rattle.scan_values.specs.declared.ptype.PType.{PType}
use Rattle.scan_values.specs.declared.ptype.PType.TheVariants.{U64}
use Rattle.scan_values.specs.declared.ptype.Nullability.{Nullability}
use Rattle.scan_values.specs.declared.ptype.Nullability.TheVariants.{NonNullable, Nullable}
use Rattle.scan_expr.specs.declared.op.Unary.{Unary}
use Rattle.scan_expr.specs.declared.op.Unary.TheVariants.{GetItem, Select, Exclude, Not, IsNull, IsNotNull, ListLength}
use Rattle.scan_expr.specs.declared.op.Binary.{Binary}
use Rattle.scan_expr.specs.declared.op.Binary.TheVariants.{Mask, And, Or, Equal, NotEqual, Less, LessOrEqual, Greater, GreaterOrEqual, CheckedAdd, CheckedSub}
use Rattle.scan_expr.specs.Expr.{Expr, root, row_index, literal, unary, binary, pack, Parts, no_parts, part}

-- nullable by either
abbrev pub either : Nullability → Nullability → Nullability
either NonNullable n = n
either Nullable n = Nullable

abbrev pub fields_or_none : Option Fields → Fields
fields_or_none None = no_fields
fields_or_none (Some fs) = fs

-- the fields of a struct, none of anything else
abbrev pub struct_fields : DataType → Fields
struct_fields d = fields_or_none (struct_fields_of d)

abbrev pub type_or_bool : Option DataType → DataType
type_or_bool None = bool_type Nullable
type_or_bool (Some d) = d

-- the dtype of the first field of this name; a nullable Bool where there is none
abbrev pub field_type : Name → Fields → DataType
field_type n fs = type_or_bool (dtype_named n fs)

-- a field's dtype, nullable by the struct too
abbrev pub raised : Nullability → DataType → DataType
raised n d = with_nullability (either n (nullability_of d)) d

-- the fields of these names, in the order written
abbrev pub chosen : List Name → Fields → Fields
chosen [] fs = no_fields
chosen (n ∷ ns) fs = field n (field_type n fs) (chosen ns fs)

-- the fields of other names
abbrev pub without : List Name → Fields → Fields
without ns no_fields = no_fields
without ns (field n d fs) = cond (has_name n ns) (without ns fs) (field n d (without ns fs))

abbrev pub unary_type : Unary → DataType → DataType
unary_type (GetItem n) d = raised (nullability_of d) (field_type n (struct_fields d))
unary_type (Select ns) d = struct_type (chosen ns (struct_fields d)) (nullability_of d)
unary_type (Exclude ns) d = struct_type (without ns (struct_fields d)) (nullability_of d)
unary_type Not d = bool_type (nullability_of d)
unary_type IsNull d = bool_type NonNullable
unary_type IsNotNull d = bool_type NonNullable
unary_type ListLength d = int_type U64 (nullability_of d)

-- a Bool, nullable by both
abbrev pub joint_bool : DataType → DataType → DataType
joint_bool d e = bool_type (either (nullability_of d) (nullability_of e))

abbrev pub ptype_or_u64 : Option PType → PType
ptype_or_u64 None = U64
ptype_or_u64 (Some p) = p

-- the integer type of the left side, nullable by both
abbrev pub sum_type : DataType → DataType → DataType
sum_type d e = int_type (ptype_or_u64 (ptype_of d)) (either (nullability_of d) (nullability_of e))

abbrev pub binary_type : Binary → DataType → DataType → DataType
binary_type Mask d e = with_nullability Nullable d
binary_type And d e = joint_bool d e
binary_type Or d e = joint_bool d e
binary_type Equal d e = joint_bool d e
binary_type NotEqual d e = joint_bool d e
binary_type Less d e = joint_bool d e
binary_type LessOrEqual d e = joint_bool d e
binary_type Greater d e = joint_bool d e
binary_type GreaterOrEqual d e = joint_bool d e
binary_type CheckedAdd d e = sum_type d e
binary_type CheckedSub d e = sum_type d e

abbrev mutual
  pub infer : DataType → Expr → DataType
  infer s root = s
  infer s row_index = int_type U64 NonNullable
  infer s (literal d v) = d
  infer s (unary u e) = unary_type u (infer s e)
  infer s (binary b x y) = binary_type b (infer s x) (infer s y)
  infer s (pack ps n) = struct_type (infer_all s ps) n

  pub infer_all : DataType → Parts → Fields
  infer_all s no_parts = no_fields
  infer_all s (part n e ps) = field n (infer s e) (infer_all s ps)
