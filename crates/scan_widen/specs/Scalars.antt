-- Scalar dtypes.
use Rattle.std.specs.Prelude.{◌≡◌, refl}
use Rattle.scan_values.specs.declared.ptype.Nullability.{Nullability}
use Rattle.scan_values.specs.declared.ptype.Nullability.TheVariants.{NonNullable}
use Rattle.scan_values.specs.DataType.{DataType, bool_type, int_type, utf8_type, list_type, struct_type, nullability_of}
use Rattle.scan_widen.specs.declared.scalar.ScalarKind.{ScalarKind}
use Rattle.scan_widen.specs.declared.scalar.ScalarKind.TheVariants.{Bool, Int, Utf8}

abbrev pub scalar_type : ScalarKind → Nullability → DataType
scalar_type Bool n = bool_type n
scalar_type (Int p) n = int_type p n
scalar_type Utf8 n = utf8_type n

-- the kind of a scalar dtype
abbrev pub scalar_kind : DataType → ScalarKind
scalar_kind (bool_type n) = Bool
scalar_kind (int_type p n) = Int p
scalar_kind (utf8_type n) = Utf8
scalar_kind (list_type d n) = Bool
scalar_kind (struct_type fs n) = Bool

pub same_kind : (k : ScalarKind) (n : Nullability) → scalar_kind (scalar_type k n) ≡ k
same_kind Bool n = refl
same_kind (Int p) n = refl
same_kind Utf8 n = refl

pub same_nullability : (k : ScalarKind) (n : Nullability) → nullability_of (scalar_type k n) ≡ n
same_nullability Bool n = refl
same_nullability (Int p) n = refl
same_nullability Utf8 n = refl

-- truth values that are never null
abbrev pub flags : DataType
flags = bool_type NonNullable
