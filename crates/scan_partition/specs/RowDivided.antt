-- An expression by what it reads: the row's number, and the child.
use Rattle.std.specs.Prelude.{◌≡◌, ℕ, zero, suc, Bool, true, false, cond, ◌||◌, List, map, bytes_eq, refl}
use Rattle.std.specs.Coded.{Coded, code_by, coded×, coded_list, coded_ℕ}
use Rattle.scan_values.specs.DataType.{DataType, int_type, struct_type, no_fields, field, Name}
use Rattle.scan_values.specs.declared.ptype.Nullability.TheVariants.{NonNullable}
use Rattle.scan_values.specs.declared.ptype.PType.TheVariants.{U64}
use Rattle.scan_expr.specs.Bound.{Bound, bound_code}
use Rattle.scan_expr.specs.Expr.{Expr, root, row_index, literal, unary, binary, pack, Parts, no_parts, part}
use Rattle.scan_partition.specs.declared.item.Item.{Item}
use Rattle.scan_partition.specs.declared.item.Item.TheVariants.{Field, Validity}
use Rattle.scan_partition.specs.declared.row_idx.Partition.{Partition}
use Rattle.scan_partition.specs.declared.row_idx.Partition.TheVariants.{RowIdx, Child}
use Rattle.scan_partition.specs.Lift.{row_name, child_name, lift}
use Rattle.scan_partition.specs.Divided.{Divided, divided, stepped}

abbrev pub partition_name : Partition → Name
partition_name RowIdx = row_name
partition_name Child = child_name

abbrev pub partition_tree : Partition → ℕ
partition_tree RowIdx = 0
partition_tree Child = 1

abbrev pub tree_partition : ℕ → Partition
tree_partition zero = RowIdx
tree_partition (suc n) = Child

pub tree_partition-partition_tree : (p : Partition) → tree_partition (partition_tree p) ≡ p
tree_partition-partition_tree RowIdx = refl
tree_partition-partition_tree Child = refl

abbrev pub partition_code : Coded Partition
partition_code = code_by ℕ coded_ℕ partition_tree tree_partition tree_partition-partition_tree

-- what is read, a part for each, and the root over the parts
pub record RowDivided : Type 0 where
  pub items : List Partition
  pub parts : List Bound
  pub root : Bound

abbrev pub row_divided_code : Coded RowDivided
row_divided_code =
    code_by (List Partition × (List Bound × Bound))
    (coded× (coded_list partition_code) (coded× (coded_list bound_code) bound_code))
    (λ d. (d.items, (d.parts, d.root))) (λ p. record { items = p.0; parts = p.1.0; root = p.1.1 }) (λ _. refl)

-- ---- what an expression reads
abbrev mutual
  pub uses_root : Expr → Bool
  uses_root root = true
  uses_root row_index = false
  uses_root (literal d v) = false
  uses_root (unary u e) = uses_root e
  uses_root (binary b x y) = uses_root x || uses_root y
  uses_root (pack ps n) = any_uses_root ps

  pub any_uses_root : Parts → Bool
  any_uses_root no_parts = false
  any_uses_root (part n e ps) = uses_root e || any_uses_root ps

-- the dtype of a row's number
abbrev pub number_type : DataType
number_type = int_type U64 NonNullable

-- the row's number becomes `$`
abbrev mutual
  pub over_number : Expr → Expr
  over_number root = root
  over_number row_index = root
  over_number (literal d v) = literal d v
  over_number (unary u e) = unary u (over_number e)
  over_number (binary b x y) = binary b (over_number x) (over_number y)
  over_number (pack ps n) = pack (all_over_number ps) n

  pub all_over_number : Parts → Parts
  all_over_number no_parts = no_parts
  all_over_number (part n e ps) = part n (over_number e) (all_over_number ps)

-- ---- by both
-- the row's number beside the child
abbrev pub numbered_scope : DataType → DataType
numbered_scope s = struct_type (field row_name number_type (field child_name s no_fields)) NonNullable

abbrev pub partition_of : Item → Partition
partition_of (Field n) = cond (bytes_eq n row_name) RowIdx Child
partition_of Validity = Child

abbrev pub by_partitions : Divided → RowDivided
by_partitions d = record { items = map partition_of d.items; parts = d.parts; root = d.root }

abbrev pub row_divided : DataType → Expr → RowDivided
row_divided s e = by_partitions (divided (stepped (numbered_scope s)) (lift e))
