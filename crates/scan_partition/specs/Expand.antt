-- `$` over a struct, written by its items.
use Rattle.std.specs.Prelude.{true, false, cond, List, [], ◌∷◌}
use Rattle.scan_values.specs.DataType.{DataType, bool_type, Name, nullability_of}
use Rattle.scan_values.specs.declared.ptype.Nullability.{Nullability}
use Rattle.scan_values.specs.declared.ptype.Nullability.TheVariants.{NonNullable, Nullable}
use Rattle.scan_expr.specs.Infer.{struct_fields}
use Rattle.scan_values.specs.NameFaults.{field_names, has_name}
use Rattle.scan_values.specs.Val.{bool_val}
use Rattle.scan_expr.specs.Needs.{other_names}
use Rattle.scan_expr.specs.Expr.{is_root, Expr, root, row_index, literal, unary, binary, pack, Parts, no_parts, part}
use Rattle.scan_expr.specs.declared.op.Unary.{Unary}
use Rattle.scan_expr.specs.declared.op.Unary.TheVariants.{GetItem, Select, Exclude, Not, IsNull, IsNotNull, ListLength}
use Rattle.scan_expr.specs.declared.op.Binary.TheVariants.{Mask}

abbrev pub is_here : Expr
is_here = unary IsNotNull root

abbrev pub masked : Nullability → Expr → Expr
masked NonNullable e = e
masked Nullable e = binary Mask e is_here

abbrev pub items_of : List Name → Parts
items_of [] = no_parts
items_of (n ∷ ns) = part n (unary (GetItem n) root) (items_of ns)

-- the names that are not among others
abbrev pub unnamed : List Name → List Name → List Name
unnamed others [] = []
unnamed others (n ∷ ns) = cond (has_name n others) (unnamed others ns) (n ∷ unnamed others ns)

abbrev pub expanded_fields : Nullability → List Name → Expr
expanded_fields n ns = masked n (pack (items_of ns) NonNullable)

abbrev pub expanded_struct_root : DataType → Expr
expanded_struct_root s = expanded_fields (nullability_of s) (field_names (struct_fields s))

abbrev pub null_root : Nullability → Expr
null_root NonNullable = literal (bool_type NonNullable) (bool_val false)
null_root Nullable = unary Not is_here

abbrev pub here_root : Nullability → Expr
here_root NonNullable = literal (bool_type NonNullable) (bool_val true)
here_root Nullable = is_here

-- an operator on `$`
abbrev pub expand_at : DataType → Unary → Expr
expand_at s (GetItem n) = masked (nullability_of s) (unary (GetItem n) root)
expand_at s (Select ns) = expanded_fields (nullability_of s) ns
expand_at s (Exclude ns) = expanded_fields (nullability_of s) (other_names ns (struct_fields s))
expand_at s Not = unary Not (expanded_struct_root s)
expand_at s IsNull = null_root (nullability_of s)
expand_at s IsNotNull = here_root (nullability_of s)
expand_at s ListLength = unary ListLength (expanded_struct_root s)

abbrev mutual
  pub expand : DataType → Expr → Expr
  expand s root = expanded_struct_root s
  expand s row_index = row_index
  expand s (literal d m) = literal d m
  expand s (unary u e) = cond (is_root e) (expand_at s u) (unary u (expand s e))
  expand s (binary b x y) = binary b (expand s x) (expand s y)
  expand s (pack ps n) = pack (expand_all s ps) n

  pub expand_all : DataType → Parts → Parts
  expand_all s no_parts = no_parts
  expand_all s (part n e ps) = part n (expand s e) (expand_all s ps)
