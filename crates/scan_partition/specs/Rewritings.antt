-- The rules of each rewriting, over a scope.
use Rattle.std.specs.Prelude.{Option, Some, None}
use Rattle.scan_values.specs.DataType.{DataType}
use Rattle.scan_expr.specs.declared.op.Unary.{Unary}
use Rattle.scan_expr.specs.declared.op.Unary.TheVariants.{GetItem, Select, Exclude, Not, IsNull, IsNotNull, ListLength}
use Rattle.scan_expr.specs.Expr.{Expr, root, row_index, unary}
use Rattle.scan_partition.specs.Items.{root_item}
use Rattle.scan_partition.specs.Expand.{expanded_struct_root, expand_at}
use Rattle.scan_partition.specs.Lift.{row_name, child_name}
use Rattle.scan_partition.specs.Rewrite.{Rules}
use Rattle.scan_partition.specs.declared.rewrite.Rewriting.{Rewriting}
use Rattle.scan_partition.specs.declared.rewrite.Rewriting.TheVariants.{Keep, StepIn, Expand, Validity, Lengths, Number, Lift}

abbrev pub root_if : {A : Type 0} → Option A → Option Expr
root_if None = None
root_if (Some i) = Some root

abbrev pub validity_operator : Unary → Option Expr
validity_operator (GetItem n) = None
validity_operator (Select ns) = None
validity_operator (Exclude ns) = None
validity_operator Not = None
validity_operator IsNull = Some (unary Not root)
validity_operator IsNotNull = Some root
validity_operator ListLength = None

abbrev pub length_operator : Unary → Option Expr
length_operator (GetItem n) = None
length_operator (Select ns) = None
length_operator (Exclude ns) = None
length_operator Not = None
length_operator IsNull = None
length_operator IsNotNull = None
length_operator ListLength = Some root

abbrev pub rules_of : Rewriting → DataType → Rules
rules_of Keep s = record { on_root = root; on_row = row_index; on_operator = λ u. None }
rules_of StepIn s = record { on_root = root; on_row = row_index; on_operator = λ u. root_if (root_item u) }
rules_of Expand s = record { on_root = expanded_struct_root s; on_row = row_index; on_operator = λ u. Some (expand_at s u) }
rules_of Validity s = record { on_root = root; on_row = row_index; on_operator = validity_operator }
rules_of Lengths s = record { on_root = root; on_row = row_index; on_operator = length_operator }
rules_of Number s = record { on_root = root; on_row = root; on_operator = λ u. None }
rules_of Lift s = record { on_root = unary (GetItem child_name) root; on_row = unary (GetItem row_name) root; on_operator = λ u. None }
