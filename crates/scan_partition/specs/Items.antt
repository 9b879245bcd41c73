-- The items of a struct that an expression uses.
use Rattle.std.specs.Prelude.{◌≡◌, Bool, true, false, cond, Option, Some, None, bytes_eq, codes}
use Rattle.scan_values.specs.DataType.{Name}
use Rattle.scan_partition.specs.declared.item.Item.{Item}
use Rattle.scan_partition.specs.declared.item.Item.TheVariants.{Field, Validity}
use Rattle.scan_expr.specs.declared.op.Unary.{Unary}
use Rattle.scan_expr.specs.declared.op.Unary.TheVariants.{GetItem, Select, Exclude, Not, IsNull, IsNotNull, ListLength}
use Rattle.scan_expr.specs.Expr.{is_root, Expr, root, row_index, literal, unary, binary, pack, Parts, no_parts, part}

abbrev pub validity_name : Name
validity_name = codes "#validity"

abbrev pub item_name : Item → Name
item_name (Field n) = n
item_name Validity = validity_name

abbrev pub same_item : Item → Item → Bool
same_item (Field n) (Field m) = bytes_eq n m
same_item (Field n) Validity = false
same_item Validity (Field m) = false
same_item Validity Validity = true

-- the item's expression: `$.f`, or `is_not_null($)`
abbrev pub spelled : Item → Expr
spelled (Field n) = unary (GetItem n) root
spelled Validity = unary IsNotNull root

abbrev pub root_item : Unary → Option Item
root_item (GetItem n) = Some (Field n)
root_item (Select ns) = None
root_item (Exclude ns) = None
root_item Not = None
root_item IsNull = None
root_item IsNotNull = Some Validity
root_item ListLength = None

-- the item that an operator on an expression is
abbrev pub item_of : Unary → Expr → Option Item
item_of u e = cond (is_root e) (root_item u) None

-- how many distinct items an expression uses
pub data Use : Type 0 where
  no_use : Use
  one : Item → Use
  many : Use

abbrev pub both : Use → Use → Use
both no_use u = u
both (one i) no_use = one i
both (one i) (one j) = cond (same_item i j) (one i) many
both (one i) many = many
both many u = many

abbrev pub or_use : Option Item → Use → Use
or_use None u = u
or_use (Some i) u = one i

abbrev mutual
  pub use_of : Expr → Use
  use_of root = no_use
  use_of row_index = no_use
  use_of (literal d m) = no_use
  use_of (unary u e) = or_use (item_of u e) (use_of e)
  use_of (binary b x y) = both (use_of x) (use_of y)
  use_of (pack ps n) = uses_of ps

  pub uses_of : Parts → Use
  uses_of no_parts = no_use
  uses_of (part n e ps) = both (use_of e) (uses_of ps)

abbrev pub ItemOr : Option Item → Type 0 → Type 0
ItemOr None P = P
ItemOr (Some i) P = Unit {0}

-- `$` stands only in `$.f` and `is_not_null($)`
abbrev mutual
  pub IsExpanded : Expr → Type 0
  IsExpanded root = ⊥
  IsExpanded row_index = Unit {0}
  IsExpanded (literal d m) = Unit {0}
  IsExpanded (unary u e) = ItemOr (item_of u e) (IsExpanded e)
  IsExpanded (binary b x y) = IsExpanded x × IsExpanded y
  IsExpanded (pack ps n) = AreExpanded ps

  pub AreExpanded : Parts → Type 0
  AreExpanded no_parts = Unit {0}
  AreExpanded (part n e ps) = IsExpanded e × AreExpanded ps

-- at most one item, and this one
abbrev pub AtMost : Item → Use → Type 0
AtMost i no_use = Unit {0}
AtMost i (one j) = i ≡ j
AtMost i many = ⊥
