-- What expansion gives may be partitioned.
use Rattle.std.proofs.Common.{refl}
use Rattle.scan_values.specs.DataType.{DataType}
use Rattle.scan_expr.specs.Bound.{Bound, bound_of}
use Rattle.scan_expr.specs.Expr.{root}
use Rattle.scan_partition.specs.Conditions.{IsStruct}
use Rattle.scan_partition.specs.Expand.{expand, expanded_struct_root}
use Rattle.scan_partition.specs.Partable.{IsScope, IsPartable, CanPart}
use Rattle.scan_partition.proofs.Expanded.{expand-expanded}
use Rattle.scan_partition.proofs.Had.{expanded_had}
use Rattle.scan_partition.proofs.Partable.{expanded_partable}

pub can_part : (b : Bound) → IsPartable b → IsStruct b.scope → CanPart (bound_of b.scope (expand b.scope b.expr))
can_part b p st = record {
  structure = st;
  partable = expanded_partable b p st;
  expanded = expand-expanded b.scope b.expr;
  items = expanded_had b p st;
}

pub root_can_part : (s : DataType) → IsStruct s → IsScope s → CanPart (bound_of s (expanded_struct_root s))
root_can_part s st h = can_part (bound_of s root) (record { names = h.0; scope = h.1; typed = refl; nodes = h.1 }) st
