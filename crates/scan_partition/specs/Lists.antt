-- What an expression needs of a list, and the same over its validity or its lengths.
use Rattle.std.specs.Prelude.{◌≡◌, cond}
use Rattle.scan_values.specs.declared.ptype.Nullability.{Nullability}
use Rattle.scan_values.specs.declared.ptype.Nullability.TheVariants.{Nullable}
use Rattle.scan_values.specs.Marked.{Marked, lost, null, list}
use Rattle.scan_expr.specs.Expr.{is_root, Expr, root, row_index, literal, unary, binary, pack, Parts, no_parts, part}
use Rattle.scan_partition.specs.declared.list_.ListChildrenNeeded.{ListChildrenNeeded}
use Rattle.scan_partition.specs.declared.list_.ListChildrenNeeded.TheVariants.{Validity, OffsetsAndValidity, All}
use Rattle.scan_expr.specs.declared.op.Unary.{Unary}
use Rattle.scan_expr.specs.declared.op.Unary.TheVariants.{GetItem, Select, Exclude, Not, IsNull, IsNotNull, ListLength}

abbrev pub greater_of : ListChildrenNeeded → ListChildrenNeeded → ListChildrenNeeded
greater_of Validity c = c
greater_of OffsetsAndValidity Validity = OffsetsAndValidity
greater_of OffsetsAndValidity OffsetsAndValidity = OffsetsAndValidity
greater_of OffsetsAndValidity All = All
greater_of All c = All

abbrev pub children_at : Unary → ListChildrenNeeded
children_at (GetItem n) = All
children_at (Select ns) = All
children_at (Exclude ns) = All
children_at Not = All
children_at IsNull = Validity
children_at IsNotNull = Validity
children_at ListLength = OffsetsAndValidity

abbrev mutual
  pub necessary : Expr → ListChildrenNeeded
  necessary root = All
  necessary row_index = Validity
  necessary (literal d m) = Validity
  necessary (unary u e) = cond (is_root e) (children_at u) (necessary e)
  necessary (binary b x y) = greater_of (necessary x) (necessary y)
  necessary (pack ps n) = all_necessary ps

  pub all_necessary : Parts → ListChildrenNeeded
  all_necessary no_parts = Validity
  all_necessary (part n e ps) = greater_of (necessary e) (all_necessary ps)

-- over a Bool column
abbrev pub at_validity : Unary → Expr
at_validity IsNotNull = root
at_validity IsNull = unary Not root
at_validity u = unary u root

abbrev mutual
  pub rewrite_validity : Expr → Expr
  rewrite_validity root = root
  rewrite_validity row_index = row_index
  rewrite_validity (literal d m) = literal d m
  rewrite_validity (unary u e) = cond (is_root e) (at_validity u) (unary u (rewrite_validity e))
  rewrite_validity (binary b x y) = binary b (rewrite_validity x) (rewrite_validity y)
  rewrite_validity (pack ps n) = pack (rewrite_validity_all ps) n

  pub rewrite_validity_all : Parts → Parts
  rewrite_validity_all no_parts = no_parts
  rewrite_validity_all (part n e ps) = part n (rewrite_validity e) (rewrite_validity_all ps)

-- over the lengths
abbrev pub at_offsets : Unary → Expr
at_offsets ListLength = root
at_offsets u = unary u root

abbrev mutual
  pub rewrite_offsets : Expr → Expr
  rewrite_offsets root = root
  rewrite_offsets row_index = row_index
  rewrite_offsets (literal d m) = literal d m
  rewrite_offsets (unary u e) = cond (is_root e) (at_offsets u) (unary u (rewrite_offsets e))
  rewrite_offsets (binary b x y) = binary b (rewrite_offsets x) (rewrite_offsets y)
  rewrite_offsets (pack ps n) = pack (rewrite_offsets_all ps) n

  pub rewrite_offsets_all : Parts → Parts
  rewrite_offsets_all no_parts = no_parts
  rewrite_offsets_all (part n e ps) = part n (rewrite_offsets e) (rewrite_offsets_all ps)

abbrev pub IsClass : ListChildrenNeeded → ListChildrenNeeded → Type 0
IsClass Validity Validity = Unit {0}
IsClass Validity c = ⊥
IsClass OffsetsAndValidity All = ⊥
IsClass OffsetsAndValidity c = Unit {0}
IsClass All c = Unit {0}

-- a value of the dtype, known where it is a list
abbrev pub IsListRow : Nullability → Marked → Type 0
IsListRow n (list ms) = Unit {0}
IsListRow n null = n ≡ Nullable
IsListRow n lost = n ≡ Nullable
IsListRow n _ = ⊥
