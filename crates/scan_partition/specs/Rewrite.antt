-- Expressions written again: what becomes of `$`, of the row number and of operators on `$`.
use Rattle.std.specs.Prelude.{◌≡◌, ◌≤◌, cond, Option, Some, None}
use Rattle.scan_values.specs.DataType.{DataType, depth_of}
use Rattle.scan_expr.specs.declared.op.Unary.{Unary}
use Rattle.scan_expr.specs.Infer.{infer}
use Rattle.scan_expr.specs.Typing.{literal_fault, unary_fault, binary_fault}
use Rattle.scan_expr.specs.Expr.{is_root, Expr, root, row_index, literal, unary, binary, pack, Parts, no_parts, part}

-- an operator on `$` may be kept
pub record Rules : Type 0 where
  pub on_root : Expr
  pub on_row : Expr
  pub on_operator : Unary → Option Expr

abbrev pub or_kept : Option Expr → Expr → Expr
or_kept None e = e
or_kept (Some x) e = x

abbrev mutual
  pub rewritten : Rules → Expr → Expr
  rewritten r root = r.on_root
  rewritten r row_index = r.on_row
  rewritten r (literal d v) = literal d v
  rewritten r (unary u e) = or_kept (cond (is_root e) (r.on_operator u) None) (unary u (rewritten r e))
  rewritten r (binary b x y) = binary b (rewritten r x) (rewritten r y)
  rewritten r (pack ps n) = pack (all_rewritten r ps) n

  pub all_rewritten : Rules → Parts → Parts
  all_rewritten r no_parts = no_parts
  all_rewritten r (part n e ps) = part n (rewritten r e) (all_rewritten r ps)

-- the conditions of each node hold, and no pack gets deeper than a dtype may be
abbrev mutual
  pub NodesHold : DataType → Expr → Type 0
  NodesHold s root = Unit {0}
  NodesHold s row_index = Unit {0}
  NodesHold s (literal d v) = literal_fault d v ≡ None
  NodesHold s (unary u e) = (unary_fault u (infer s e) ≡ None) × NodesHold s e
  NodesHold s (binary b x y) = (binary_fault b (infer s x) (infer s y) ≡ None) × NodesHold s x × NodesHold s y
  NodesHold s (pack ps n) = (depth_of (infer s (pack ps n)) ≤ 66) × AllNodesHold s ps

  pub AllNodesHold : DataType → Parts → Type 0
  AllNodesHold s no_parts = Unit {0}
  AllNodesHold s (part n e ps) = NodesHold s e × AllNodesHold s ps
