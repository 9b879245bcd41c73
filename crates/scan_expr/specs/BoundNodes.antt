-- What a bound expression is at its top, with its parts.
use Rattle.std.specs.Prelude.{◌≡◌, length, All}
use Rattle.scan_values.specs.Values.{val_of}
use Rattle.scan_values.specs.DataType.{DataType}
use Rattle.scan_expr.specs.Expr.{Expr, root, row_index, literal, unary, binary, pack, parts_of}
use Rattle.scan_expr.specs.Bound.{exprs_of}
use Rattle.scan_expr.specs.declared.bound.BoundNode.{BoundNode}
use Rattle.scan_expr.specs.declared.bound.BoundNode.TheVariants.{Root, RowIdx, Literal, Unary, Binary, Pack}

abbrev pub node_expr : BoundNode → Expr
node_expr Root = root
node_expr RowIdx = row_index
node_expr (Literal d v) = literal d.now (val_of v.now)
node_expr (Unary u e) = unary u.now e.now.expr
node_expr (Binary b x y) = binary b x.now.expr y.now.expr
node_expr (Pack ns es n) = pack (parts_of ns.now (exprs_of es.now)) n

-- its parts have this scope, and a pack has a name for each
abbrev pub IsOver : DataType → BoundNode → Type 0
IsOver s Root = Unit {0}
IsOver s RowIdx = Unit {0}
IsOver s (Literal d v) = Unit {0}
IsOver s (Unary u e) = e.now.scope ≡ s
IsOver s (Binary b x y) = (x.now.scope ≡ s) × (y.now.scope ≡ s)
IsOver s (Pack ns es n) = All (λ b. b.scope ≡ s) es.now × (length es.now ≡ length ns.now)
