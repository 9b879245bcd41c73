-- The expression that a node is.
use Rattle.std.specs.Prelude.{◌≡◌, length}
use Rattle.scan_values.specs.Values.{val_of}
use Rattle.scan_expr.specs.Expr.{Expr, root, row_index, literal, unary, binary, pack, parts_of}
use Rattle.scan_expr.specs.declared.expression.Node.{Node}
use Rattle.scan_expr.specs.declared.expression.Node.TheVariants.{Root, RowIdx, Literal, Unary, Binary, Pack}

abbrev pub expr_of : Node → Expr
expr_of Root = root
expr_of RowIdx = row_index
expr_of (Literal d v) = literal d (val_of v)
expr_of (Unary u e) = unary u e.value
expr_of (Binary b x y) = binary b x.value y.value
expr_of (Pack ns es n) = pack (parts_of ns es.items) n

-- a pack has a name for each part
abbrev pub IsEven : Node → Type 0
IsEven Root = Unit {0}
IsEven RowIdx = Unit {0}
IsEven (Literal d v) = Unit {0}
IsEven (Unary u e) = Unit {0}
IsEven (Binary b x y) = Unit {0}
IsEven (Pack ns es n) = length es.items ≡ length ns
