-- Expressions that only choose fields of the scope.
use Rattle.std.specs.Prelude.{cond, List, Option, None, Some}
use Rattle.scan_values.specs.DataType.{Name}
use Rattle.scan_expr.specs.declared.op.Unary.{Unary}
use Rattle.scan_expr.specs.declared.op.Unary.TheVariants.{GetItem, Select, Exclude, Not, IsNull, IsNotNull, ListLength}
use Rattle.scan_expr.specs.Expr.{Expr, root, row_index, literal, unary, binary, pack}
pub use Rattle.scan_expr.specs.Expr.{is_root}

abbrev pub select_names : Unary → Option (List Name)
select_names (GetItem n) = None
select_names (Select ns) = Some ns
select_names (Exclude ns) = None
select_names Not = None
select_names IsNull = None
select_names IsNotNull = None
select_names ListLength = None

-- the names of an including select of `$`
abbrev pub root_select : Expr → Option (List Name)
root_select root = None
root_select row_index = None
root_select (literal d v) = None
root_select (unary u e) = cond (is_root e) (select_names u) None
root_select (binary b x y) = None
root_select (pack ps n) = None
