-- What an expression is at its top, besides its parts.
use Rattle.std.specs.Prelude.{ℕ, ◌+◌, Bool, true, false, ◌&&◌, List, [], ◌∷◌}
use Rattle.scan_values.specs.DataType.{DataType, Name}
use Rattle.scan_values.specs.Val.{Val}
use Rattle.scan_values.specs.Values.{val_of}
use Rattle.scan_values.specs.Same.{same_names, same_nullability, same_type}
use Rattle.scan_values.specs.SameVal.{same_val}
use Rattle.scan_values.specs.declared.ptype.Nullability.{Nullability}
use Rattle.scan_expr.specs.Expr.{Expr, root, row_index, literal, unary, binary, pack, Parts, no_parts, part}
use Rattle.scan_expr.specs.Same.{same_unary, same_binary, unary_number, binary_number}
use Rattle.scan_expr.specs.declared.op.Unary as the_unary
use Rattle.scan_expr.specs.declared.op.Binary as the_binary
use Rattle.scan_expr.specs.declared.bound.Op.{Op}
use Rattle.scan_expr.specs.declared.bound.Op.TheVariants.{Root, RowIdx, Literal, Unary, Binary, Pack}

pub data Head : Type 0 where
  root_head : Head
  row_head : Head
  literal_head : DataType → Val → Head
  unary_head : the_unary.Unary → Head
  binary_head : the_binary.Binary → Head
  pack_head : List Name → Nullability → Head

abbrev pub part_names : Parts → List Name
part_names no_parts = []
part_names (part n e ps) = n ∷ part_names ps

abbrev pub head_of : Expr → Head
head_of root = root_head
head_of row_index = row_head
head_of (literal d v) = literal_head d v
head_of (unary u e) = unary_head u
head_of (binary b x y) = binary_head b
head_of (pack ps n) = pack_head (part_names ps) n

abbrev pub op_head : Op → Head
op_head Root = root_head
op_head RowIdx = row_head
op_head (Literal d v) = literal_head d (val_of v)
op_head (Unary u) = unary_head u
op_head (Binary b) = binary_head b
op_head (Pack ns n) = pack_head ns n

abbrev pub same_head : Head → Head → Bool
same_head root_head root_head = true
same_head row_head row_head = true
same_head (literal_head d v) (literal_head e w) = same_type d e && same_val v w
same_head (unary_head u) (unary_head w) = same_unary u w
same_head (binary_head b) (binary_head c) = same_binary b c
same_head (pack_head ns n) (pack_head ms m) = same_nullability n m && same_names ns ms
same_head _ _ = false

-- a number for each kind
abbrev pub head_number : Head → ℕ
head_number root_head = 0
head_number row_head = 1
head_number (literal_head d v) = 2
head_number (unary_head u) = 3 + unary_number u
head_number (binary_head b) = 10 + binary_number b
head_number (pack_head ns n) = 21
