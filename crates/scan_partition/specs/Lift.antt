-- Row numbers and the scope, as two items.
use Rattle.std.specs.Prelude.{ℕ, pos, cond, bytes_eq, codes}
use Rattle.std.specs.Prelude.{true}
use Rattle.scan_values.specs.DataType.{DataType, bool_type, int_type, Name}
use Rattle.scan_values.specs.declared.ptype.Nullability.TheVariants.{NonNullable}
use Rattle.scan_values.specs.declared.ptype.PType.TheVariants.{U64}
use Rattle.scan_values.specs.Marked.{Marked, boolean, integer}
use Rattle.scan_partition.specs.declared.item.Item.{Item}
use Rattle.scan_partition.specs.declared.item.Item.TheVariants.{Field, Validity}
use Rattle.scan_expr.specs.declared.op.Unary.TheVariants.{GetItem}
use Rattle.scan_expr.specs.Expr.{Expr, root, row_index, literal, unary, binary, pack, Parts, no_parts, part}

abbrev pub row_name : Name
row_name = codes "row_idx"

abbrev pub child_name : Name
child_name = codes "child"

-- over a struct of the row's number and the scope's value
abbrev mutual
  pub lift : Expr → Expr
  lift root = unary (GetItem child_name) root
  lift row_index = unary (GetItem row_name) root
  lift (literal d m) = literal d m
  lift (unary u e) = unary u (lift e)
  lift (binary b x y) = binary b (lift x) (lift y)
  lift (pack ps n) = pack (lift_all ps) n

  pub lift_all : Parts → Parts
  lift_all no_parts = no_parts
  lift_all (part n e ps) = part n (lift e) (lift_all ps)

abbrev pub row_item_type : DataType → Item → DataType
row_item_type s (Field n) = cond (bytes_eq n row_name) (int_type U64 NonNullable) s
row_item_type s Validity = bool_type NonNullable

abbrev pub row_item_value : Marked → ℕ → Item → Marked
row_item_value v k (Field n) = cond (bytes_eq n row_name) (integer (pos k)) v
row_item_value v k Validity = boolean true
