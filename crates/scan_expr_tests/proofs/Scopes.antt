-- Scopes that are structs, and the scope of what was bound.
use Rattle.std.proofs.Common.{◌≡◌, Some, refl, ap, sym}
use Rattle.scan_values.specs.DataType.{DataType, bool_type, int_type, utf8_type, list_type, struct_type, Fields}
use Rattle.scan_values.specs.Kinds.{struct_fields_of}
use Rattle.scan_expr.specs.Expr.{Expr}
use Rattle.scan_expr.specs.Bound.{Bound, bound_of}
use Rattle.scan_partition.specs.Conditions.{IsStruct}

pub is_struct_by : (d : DataType) (fs : Fields) → Some fs ≡ struct_fields_of d → IsStruct d
is_struct_by (bool_type n) fs h = cc
is_struct_by (int_type p n) fs h = cc
is_struct_by (utf8_type n) fs h = cc
is_struct_by (list_type d n) fs h = cc
is_struct_by (struct_type gs n) fs h = refl

pub scope_is : (b : Bound) (s : DataType) (e : Expr) → b ≡ bound_of s e → s ≡ b.scope
scope_is b s e h = sym (ap (λ (x : Bound). x.scope) h)
