-- What expanded expressions and parts need.
use Rattle.std.specs.Prelude.{◌≡◌, true, List, [], ◌∷◌, ◌++◌, map}
use Rattle.scan_values.specs.DataType.{DataType, struct_type, Fields}
use Rattle.scan_values.specs.declared.ptype.Nullability.{Nullability}
use Rattle.scan_values.specs.Paths.{Step, to_field, to_validity, Path}
use Rattle.scan_expr.specs.Bound.{Bound}
use Rattle.scan_expr.specs.Expr.{Expr}
use Rattle.scan_expr.specs.Infer.{struct_fields}
use Rattle.scan_expr.specs.Needs.{whole, needs, needed, is_leaf_of_any}
use Rattle.scan_partition.specs.declared.item.Item.{Item}
use Rattle.scan_partition.specs.declared.item.Item.TheVariants.{Field, Validity}
use Rattle.scan_partition.specs.declared.struct_.Partitioned.{Partitioned}
use Rattle.scan_partition.specs.declared.struct_.Partitioned.TheVariants.{Direct, Single, Multi}
use Rattle.scan_partition.specs.declared.row_idx.Partition.{Partition}
use Rattle.scan_partition.specs.declared.row_idx.Partition.TheVariants.{RowIdx as TheRowIdx, Child as TheChild}
use Rattle.scan_partition.specs.declared.row_idx.Partitioning.{Partitioning}
use Rattle.scan_partition.specs.declared.row_idx.Partitioning.TheVariants.{RowIdx, Child, Both}
use Rattle.scan_partition.specs.Items.{IsExpanded}
use Rattle.scan_partition.specs.Conditions.{IsStruct}
use Rattle.scan_partition.specs.Partable.{IsPartable}
use Rattle.scan_partition.specs.Divided.{divided, kept}
use Rattle.scan_partition.specs.Expand.{expand}
use Rattle.scan_partition.specs.Rows.{Distinct}
use Rattle.scan_partition.specs.RowSplit.{row_split}
use Rattle.scan_partition.specs.Split.{split, name_at}

-- where an item's leaves lie
abbrev pub item_step : Item → Step
item_step (Field f) = to_field f
item_step Validity = to_validity

abbrev pub item_path : Item → Path
item_path i = item_step i ∷ []

-- each leaf that an expression needs of its scope, another needs of its own, below these steps
abbrev pub LiesUnder : DataType → Expr → Path → DataType → Expr → Type 0
LiesUnder t x steps s e = (p : Path) → (needs t x whole p ≡ true → needs s e whole (steps ++ p) ≡ true) × (needed t x p ≡ true → needed s e (steps ++ p) ≡ true)

abbrev pub ExpansionNeedsNoMore : Type 0
ExpansionNeedsNoMore = (fs : Fields) (n : Nullability) (e : Expr) → Distinct fs → let s = struct_type fs n in LiesUnder s (expand s e) [] s e

-- each part, under what it reads
abbrev pub EachLiesUnder : (Item → Path) → Bound → List Item → List Bound → Type 0
EachLiesUnder steps b [] ps = Unit {0}
EachLiesUnder steps b (i ∷ is) [] = ⊥
EachLiesUnder steps b (i ∷ is) (p ∷ ps) = LiesUnder p.scope p.expr (steps i) b.scope b.expr × EachLiesUnder steps b is ps

-- the fields that are chosen are needed whole, and nothing else; what a part needs of its item, the whole needs under that item
abbrev pub SplitNeedsNoMore : Bound → Partitioned → Type 0
SplitNeedsNoMore b (Direct p) = (q : Path) → needed b.scope b.expr q ≡ is_leaf_of_any (struct_fields b.scope) (map (name_at (struct_fields b.scope)) p.fields) q
SplitNeedsNoMore b (Single i p) = LiesUnder p.scope p.expr (item_path i) b.scope b.expr
SplitNeedsNoMore b (Multi d) = EachLiesUnder item_path b d.items d.parts

abbrev pub PartsNeedNoMore : Type 0
PartsNeedNoMore = (b : Bound) → IsPartable b → IsStruct b.scope → SplitNeedsNoMore b (split b.scope b.expr)

-- parts that are kept over the struct
abbrev pub KeptPartsNeedNoMore : Type 0
KeptPartsNeedNoMore = (b : Bound) → IsExpanded b.expr → let d = divided (kept b.scope) b.expr in EachLiesUnder (λ i. []) b d.items d.parts

-- ---- by the row's number and the child
abbrev pub OfChild : Partition → Type 0 → Type 0
OfChild TheRowIdx P = Unit {0}
OfChild TheChild P = P

abbrev pub EachOfChild : Bound → List Partition → List Bound → Type 0
EachOfChild b [] ps = Unit {0}
EachOfChild b (i ∷ is) [] = ⊥
EachOfChild b (i ∷ is) (p ∷ ps) = OfChild i (LiesUnder p.scope p.expr [] b.scope b.expr) × EachOfChild b is ps

-- over the row's number nothing of the child is read
abbrev pub RowSplitNeedsNoMore : Bound → Partitioning → Type 0
RowSplitNeedsNoMore b (RowIdx p) = Unit {0}
RowSplitNeedsNoMore b (Child p) = LiesUnder p.scope p.expr [] b.scope b.expr
RowSplitNeedsNoMore b (Both d) = EachOfChild b d.items d.parts

abbrev pub RowPartsNeedNoMore : Type 0
RowPartsNeedNoMore = (b : Bound) → RowSplitNeedsNoMore b (row_split b.scope b.expr)
