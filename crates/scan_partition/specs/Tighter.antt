-- Dtypes that may be null at fewer places than others.
use Rattle.std.specs.Prelude.{◌≡◌}
use Rattle.scan_values.specs.DataType.{DataType, bool_type, int_type, utf8_type, list_type, struct_type, Fields, no_fields, field}
use Rattle.scan_values.specs.declared.ptype.Nullability.{Nullability}
use Rattle.scan_values.specs.declared.ptype.Nullability.TheVariants.{NonNullable, Nullable}

-- nullable only where the other is
abbrev pub IsStricter : Nullability → Nullability → Type 0
IsStricter NonNullable m = Unit {0}
IsStricter Nullable NonNullable = ⊥
IsStricter Nullable Nullable = Unit {0}

-- of the same kinds at each depth, and nullable only where the other is
abbrev mutual
  pub IsTighter : DataType → DataType → Type 0
  IsTighter (bool_type n) (bool_type m) = IsStricter n m
  IsTighter (int_type p n) (int_type q m) = (p ≡ q) × IsStricter n m
  IsTighter (utf8_type n) (utf8_type m) = IsStricter n m
  IsTighter (list_type d n) (list_type e m) = IsTighter d e × IsStricter n m
  IsTighter (struct_type fs n) (struct_type gs m) = AreTighter fs gs × IsStricter n m
  IsTighter _ _ = ⊥

  pub AreTighter : Fields → Fields → Type 0
  AreTighter no_fields no_fields = Unit {0}
  AreTighter (field n d fs) (field m e gs) = (n ≡ m) × IsTighter d e × AreTighter fs gs
  AreTighter _ _ = ⊥
