-- Expanded, an expression is the whole, on each value of the struct.
use Rattle.std.proofs.Common.{subst}
use Rattle.scan_values.specs.DataType.{DataType, nullability_of}
use Rattle.scan_expr.specs.Bound.{Bound, bound_of}
use Rattle.scan_expr.specs.Expr.{Expr, root}
use Rattle.scan_expr.specs.Infer.{struct_fields}
use Rattle.scan_partition.specs.Conditions.{IsStruct, IsOverStruct}
use Rattle.scan_partition.specs.Expand.{expand, expanded_struct_root}
use Rattle.scan_partition.specs.Rows.{Distinct}
use Rattle.scan_partition.specs.Split.{IsWhole}
use Rattle.scan_partition.proofs.ExpandOverflows.{expanded_overflows}
use Rattle.scan_partition.proofs.Pushed.{expand_like}

whole_of : (s : DataType) (e : Expr) → IsStruct s → Distinct (struct_fields s) → IsWhole (bound_of s e) (bound_of s (expand s e))
whole_of s e st d = subst (λ (t : DataType). IsWhole (bound_of t e) (bound_of t (expand t e))) st (record {
  values = λ v k r. (expand_like (struct_fields s) (nullability_of s) v k d r e).value;
  overflow = λ v k r. expanded_overflows (struct_fields s) (nullability_of s) v k d r e;
})

pub expand_whole : (b : Bound) → IsOverStruct b → IsWhole b (bound_of b.scope (expand b.scope b.expr))
expand_whole b o = whole_of b.scope b.expr o.structure o.distinct

pub root_whole : (s : DataType) → IsStruct s → Distinct (struct_fields s) → IsWhole (bound_of s root) (bound_of s (expanded_struct_root s))
root_whole s st d = whole_of s root st d
