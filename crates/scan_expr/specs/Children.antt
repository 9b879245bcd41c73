-- The parts of a bound expression.
use Rattle.std.specs.Prelude.{◌≡◌, ℕ, Bool, true, false, List, [], ◌∷◌, map}
use Rattle.scan_expr.specs.Expr.{Expr, root, row_index, literal, unary, binary, pack, Parts, no_parts, part}
use Rattle.scan_expr.specs.Bound.{Bound, bound_of}
use Rattle.scan_expr.specs.Ops.{apply_op, HasArity, node_places}
use Rattle.scan_expr.specs.declared.bound.Op.{Op}
use Rattle.scan_expr.specs.declared.bound.Op.TheVariants.{Root, RowIdx, Literal, Unary, Binary, Pack}

abbrev pub parts_list : Parts → List Expr
parts_list no_parts = []
parts_list (part n e ps) = e ∷ parts_list ps

abbrev pub children_of : Expr → List Expr
children_of root = []
children_of row_index = []
children_of (literal d v) = []
children_of (unary u e) = e ∷ []
children_of (binary b x y) = x ∷ y ∷ []
children_of (pack ps n) = parts_list ps

-- each over the same scope
abbrev pub bound_children : Bound → List Bound
bound_children b = map (bound_of b.scope) (children_of b.expr)

-- ---- operators, besides their parts
abbrev pub is_row_op : Op → Bool
is_row_op Root = false
is_row_op RowIdx = true
is_row_op (Literal d v) = false
is_row_op (Unary u) = false
is_row_op (Binary b) = false
is_row_op (Pack ns n) = false

-- an operator that makes the same of its parts
pub record IsLike (p q : Op) : Type 0 where
  pub same : (es : List Expr) → apply_op p es ≡ apply_op q es
  pub arity : (k : ℕ) → HasArity q k → HasArity p k
  pub places : (bs : List Bound) → node_places bs p ≡ node_places bs q
