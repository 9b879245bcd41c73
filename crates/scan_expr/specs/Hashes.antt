-- What of an expression is fed to a hasher: all that equality compares, node by node, and the scope.
use Rattle.std.specs.Prelude.{◌++◌, []}
use Rattle.std.specs.Hash as fed
use Rattle.std.specs.Hash.{HashWrites, Alike, same_Alike}
use Rattle.scan_values.specs.DataType.{is_null_kind}
use Rattle.scan_values.specs.Same.{type_fed, names_fed}
use Rattle.scan_values.specs.SameVal.{val_fed}
use Rattle.scan_expr.specs.declared.op.Unary.{Unary}
use Rattle.scan_expr.specs.declared.op.Unary.TheVariants.{GetItem, Select, Exclude, Not, IsNull, IsNotNull, ListLength}
use Rattle.scan_expr.specs.Bound.{Bound}
use Rattle.scan_expr.specs.Expr.{Expr, root, row_index, literal, unary, binary, pack, Parts, no_parts, part}
use Rattle.scan_expr.specs.Heads.{Head, root_head, row_head, literal_head, unary_head, binary_head, pack_head, part_names, head_number}
use Rattle.scan_expr.specs.Same.{same_bound, same_bound-Decides}

-- the names that an operator writes
abbrev pub unary_fed : Unary → HashWrites
unary_fed (GetItem n) = fed.str n
unary_fed (Select ns) = names_fed ns
unary_fed (Exclude ns) = names_fed ns
unary_fed Not = []
unary_fed IsNull = []
unary_fed IsNotNull = []
unary_fed ListLength = []

-- what a node says besides its number and its parts
abbrev pub content_fed : Head → HashWrites
content_fed root_head = []
content_fed row_head = []
content_fed (literal_head d v) = type_fed d ++ val_fed v
content_fed (unary_head u) = unary_fed u
content_fed (binary_head b) = []
content_fed (pack_head ns n) = names_fed ns ++ fed.bool (is_null_kind n)

abbrev pub head_fed : Head → HashWrites
head_fed h = fed.u8 (head_number h) ++ content_fed h

-- each node before its parts, these from left to right
abbrev mutual
  pub expr_fed : Expr → HashWrites
  expr_fed root = head_fed root_head
  expr_fed row_index = head_fed row_head
  expr_fed (literal d v) = head_fed (literal_head d v)
  expr_fed (unary u e) = head_fed (unary_head u) ++ expr_fed e
  expr_fed (binary b x y) = head_fed (binary_head b) ++ (expr_fed x ++ expr_fed y)
  expr_fed (pack ps n) = head_fed (pack_head (part_names ps) n) ++ parts_fed ps

  pub parts_fed : Parts → HashWrites
  parts_fed no_parts = []
  parts_fed (part n e ps) = expr_fed e ++ parts_fed ps

abbrev pub bound_fed : Bound → HashWrites
bound_fed b = expr_fed b.expr ++ type_fed b.scope

pub bound_Alike : Alike same_bound bound_fed
bound_Alike = same_Alike bound_fed same_bound-Decides
