-- What may be parted, and what its parts are again, each over what it reads.
use Rattle.std.specs.Prelude.{◌≡◌, ◌≤◌, List, [], ◌∷◌, None, Ok}
use Rattle.scan_values.specs.DataType.{DataType, bool_type, depth_of}
use Rattle.scan_values.specs.NameFaults.{dtype_fault}
use Rattle.scan_values.specs.declared.ptype.Nullability.TheVariants.{NonNullable}
use Rattle.scan_expr.specs.declared.op.Unary.TheVariants.{ListLength}
use Rattle.scan_expr.specs.Bound.{Bound, bound_of}
use Rattle.scan_expr.specs.Expr.{Expr, root, unary}
use Rattle.scan_expr.specs.Infer.{infer}
use Rattle.scan_expr.specs.Typing.{typing_fault, bind_type}
use Rattle.scan_partition.specs.declared.list_.ListChildrenNeeded.TheVariants.{Validity, OffsetsAndValidity}
use Rattle.scan_partition.specs.declared.row_idx.Partitioning.{Partitioning}
use Rattle.scan_partition.specs.declared.row_idx.Partitioning.TheVariants.{RowIdx, Child, Both}
use Rattle.scan_partition.specs.declared.struct_.Partitioned.{Partitioned}
use Rattle.scan_partition.specs.declared.struct_.Partitioned.TheVariants.{Direct, Single, Multi}
use Rattle.scan_partition.specs.Conditions.{IsStruct}
use Rattle.scan_partition.specs.Divided.{divided, kept}
use Rattle.scan_partition.specs.Expand.{expand}
use Rattle.scan_partition.specs.Had.{ReadsItemsOf}
use Rattle.scan_partition.specs.Items.{IsExpanded, AtMost, use_of, spelled}
use Rattle.scan_partition.specs.declared.item.Item.{Item}
use Rattle.scan_partition.specs.Partition.{step_into}
use Rattle.scan_partition.specs.Tighter.{IsTighter}
use Rattle.scan_partition.specs.Lists.{IsClass, necessary, rewrite_validity, rewrite_offsets}
use Rattle.scan_partition.specs.RowSplit.{row_split}
use Rattle.scan_partition.specs.Shallow.{IsPart}
use Rattle.scan_partition.specs.Split.{split}

-- the names of a scope stand once and none is reserved, at each depth; it is not deep
abbrev pub IsScope : DataType → Type 0
IsScope d = (dtype_fault d ≡ None) × (depth_of d ≤ 64)

-- the same of the scope; the nodes' conditions hold, which is so of each bound expression; it is a part
pub record IsPartable (b : Bound) : Type 0 where
  pub names : dtype_fault b.scope ≡ None
  pub scope : depth_of b.scope ≤ 64
  pub typed : typing_fault b.scope b.expr ≡ None
  pub nodes : IsPart b.scope b.expr

abbrev pub ArePartable : List Bound → Type 0
ArePartable [] = Unit {0}
ArePartable (b ∷ bs) = IsPartable b × ArePartable bs

-- over a struct and expanded, so that `partition` may take it, with items that the struct has
pub record CanPart (b : Bound) : Type 0 where
  pub structure : IsStruct b.scope
  pub partable : IsPartable b
  pub expanded : IsExpanded b.expr
  pub items : ReadsItemsOf b.scope b.expr

-- each part over what it reads
abbrev pub PartsPartable : Partitioned → Type 0
PartsPartable (Direct p) = Unit {0}
PartsPartable (Single i p) = IsPartable p
PartsPartable (Multi d) = ArePartable d.parts

abbrev pub RowPartsPartable : Partitioning → Type 0
RowPartsPartable (RowIdx p) = IsPartable p
RowPartsPartable (Child p) = IsPartable p
RowPartsPartable (Both d) = ArePartable d.parts

-- ---- the laws
-- stepped into an item, over its dtype or a tighter one
abbrev pub SteppedIsPartable : Type 0
SteppedIsPartable = (b : Bound) (i : Item) (d : DataType) → IsPartable b → IsExpanded b.expr
    → AtMost i (use_of b.expr) → IsTighter d (infer b.scope (spelled i)) → IsPartable (bound_of d (step_into b.expr))

-- what binds
abbrev pub BoundIsPartable : Type 0
BoundIsPartable = (s : DataType) (e : Expr) (d : DataType) → bind_type s e ≡ Ok d → IsPartable (bound_of s e)

-- its parts, over what they read
abbrev pub StructPartsPartable : Type 0
StructPartsPartable = (b : Bound) → IsPartable b → IsStruct b.scope → PartsPartable (split b.scope b.expr)

abbrev pub KeptPartsPartable : Type 0
KeptPartsPartable = (b : Bound) → IsPartable b → IsExpanded b.expr → ArePartable (divided (kept b.scope) b.expr).parts

abbrev pub RowPartsArePartable : Type 0
RowPartsArePartable = (b : Bound) → IsPartable b → RowPartsPartable (row_split b.scope b.expr)

-- expanded, and over a list's validity or its lengths
abbrev pub ExpandedIsPartable : Type 0
ExpandedIsPartable = (b : Bound) → IsPartable b → IsStruct b.scope → IsPartable (bound_of b.scope (expand b.scope b.expr))

abbrev pub ValidityIsPartable : Type 0
ValidityIsPartable = (b : Bound) → IsPartable b → IsClass Validity (necessary b.expr) → IsPartable (bound_of (bool_type NonNullable) (rewrite_validity b.expr))

abbrev pub LengthsArePartable : Type 0
LengthsArePartable = (b : Bound) (d : DataType) → IsPartable b → IsClass OffsetsAndValidity (necessary b.expr)
    → IsTighter d (infer b.scope (unary ListLength root)) → IsPartable (bound_of d (rewrite_offsets b.expr))
