-- Plans over the children of a list.
use Rattle.std.specs.Prelude.{◌≡◌, ℕ, List, Option, Some, None}
use Rattle.scan_values.specs.DataType.{DataType, Name, int_type, list_type}
use Rattle.scan_values.specs.declared.ptype.Nullability.{Nullability}
use Rattle.scan_values.specs.declared.ptype.Nullability.TheVariants.{NonNullable, Nullable}
use Rattle.scan_values.specs.declared.ptype.PType.{PType}
use Rattle.scan_layout.specs.declared.node.LayoutKind.TheVariants.{Leaf, Struct, List as List'}
use Rattle.scan_spelling.specs.declared.spelling.Spelling.{Spelling}
use Rattle.scan_layout.specs.Layout.{Layout, Nodes, node, no_nodes, child, rows_of}
use Rattle.scan_expr.specs.Bound.{Bound, bound_of}
use Rattle.scan_expr.specs.Expr.{root}
use Rattle.scan_layout.specs.Form.{HasForm}
use Rattle.scan_partition.specs.Stepped.{IsOverLengths}
use Rattle.scan_plans.specs.PlanData.{plan_data}
use Rattle.scan_plans.specs.OffsetsData.{OffsetsData, offsets_data}
use Rattle.scan_plans.specs.PlanTree.{PlanTree, leaf, evaluate, lists, lengths, valid, by_lengths}
use Rattle.scan_readers.specs.LeafPlans.{leaf_layout, layout_state}
use Rattle.scan_readers.specs.PlanOf.{IsPlanOf}
use Rattle.scan_readers.specs.KindView.{leaf_of}
use Rattle.scan_readers.specs.declared.leaf.LeafReader.{LeafReader}

-- a list's layout: so many lists, the elements, the segments of the offsets, and what stands after these
abbrev pub list_layout : DataType → Nullability → ℕ → PType → Layout → Spelling → List (ℕ × ℕ) → Nodes → Layout
list_layout t n rows q elements spelling segments others =
    node (list_type t n) rows (List' q) (child elements (child (leaf_layout (int_type q NonNullable) spelling segments) others))

-- its offsets
abbrev pub list_offsets : PType → Layout → Spelling → List (ℕ × ℕ) → OffsetsData
list_offsets q elements spelling segments = offsets_data (int_type q NonNullable) spelling segments (rows_of elements)

-- the plan of its validity, where it may be null
abbrev pub list_validity : Nullability → Nodes → Option PlanTree
list_validity NonNullable ls = None
list_validity Nullable no_nodes = None
list_validity Nullable (child (node t rows (Leaf segments spelling) kids) ls) = Some (leaf t spelling segments)
list_validity Nullable (child (node t rows Struct kids) ls) = None
list_validity Nullable (child (node t rows (List' p) kids) ls) = None

-- values under a validity, where there is one
abbrev pub valid_under : PlanTree → Option PlanTree → PlanTree
valid_under p None = p
valid_under p (Some v) = valid p v

-- an expression over the lists themselves, by the plan of all elements
abbrev pub over_lists : Bound → DataType → PlanTree → OffsetsData → Option PlanTree → PlanTree
over_lists e t p o v = evaluate e.scope e.expr (valid_under (lists (list_type t NonNullable) p o) v)

-- an expression over how many elements they have, by the same over lengths
abbrev pub over_lengths : Bound → Bound → OffsetsData → Option PlanTree → PlanTree
over_lengths e f o v = by_lengths e.scope e.expr f.scope f.expr (valid_under (lengths o) v)

-- lists, of any elements or of these
abbrev pub IsListType : DataType → Type 0
IsListType d = (t : DataType) × (n : Nullability) × (d ≡ list_type t n)

abbrev pub IsListTypeOf : DataType → DataType → Type 0
IsListTypeOf t d = (n : Nullability) × (d ≡ list_type t n)

-- an expression by another over the lengths of its lists, which means the same
abbrev pub IsByLengthsOf : Bound → PlanTree → PlanTree → Type 0
IsByLengthsOf e l p = (f : Bound) × IsOverLengths e f × (p ≡ by_lengths e.scope e.expr f.scope f.expr l)

-- lists that are never null
abbrev pub IsNeverNull : DataType → Type 0
IsNeverNull d = (t : DataType) × (d ≡ list_type t NonNullable)

-- a plan of an expression over lists that are never null, whatever stands in their leaves
abbrev pub IsNeverNullPlan : Bound → PlanTree → Type 0
IsNeverNullPlan e p = (name : Name) (t : DataType) (rows : ℕ) (q : PType) (el : Layout) (sp : Spelling)
    (gs : List (ℕ × ℕ)) (ls : Nodes) → e.scope ≡ list_type t NonNullable
    → IsPlanOf (layout_state name (list_layout t NonNullable rows q el sp gs ls)) e (plan_data e p)

-- a plan of an expression over lists of this validity, whatever stands in their other leaves
abbrev pub IsNullsPlan : Bound → LeafReader → PlanTree → Type 0
IsNullsPlan e v p = (name : Name) (t : DataType) (rows : ℕ) (q : PType) (el : Layout) (sp : Spelling)
    (gs : List (ℕ × ℕ)) (ls : Nodes) → e.scope ≡ list_type t Nullable
    → HasForm (list_layout t Nullable rows q el sp gs (child (leaf_of v) ls)) (list_type t Nullable)
    → IsPlanOf (layout_state name (list_layout t Nullable rows q el sp gs (child (leaf_of v) ls))) e
    (plan_data e p)

-- lists that may be null
abbrev pub IsMaybeNull : DataType → Type 0
IsMaybeNull d = (t : DataType) × (d ≡ list_type t Nullable)

-- a plan of an expression over how many elements lists have, by these offsets over so many elements
abbrev pub IsLengthsPlan : Bound → LeafReader → ℕ → PlanTree → Type 0
IsLengthsPlan e o count p = (name : Name) (t : DataType) (rows : ℕ) (q : PType) (el : Layout) (ls : Nodes)
    → e.scope ≡ list_type t NonNullable → o.dtype.value ≡ int_type q NonNullable → rows_of el ≡ count
    → HasForm (list_layout t NonNullable rows q el o.spelling o.runs.value ls) (list_type t NonNullable)
    → IsPlanOf (layout_state name (list_layout t NonNullable rows q el o.spelling o.runs.value ls)) e (plan_data e p)

-- the same under this validity
abbrev pub IsValidLengthsPlan : Bound → LeafReader → ℕ → LeafReader → PlanTree → Type 0
IsValidLengthsPlan e o count v p = (name : Name) (t : DataType) (rows : ℕ) (q : PType) (el : Layout) (ls : Nodes)
    → e.scope ≡ list_type t Nullable → o.dtype.value ≡ int_type q NonNullable → rows_of el ≡ count
    → HasForm (list_layout t Nullable rows q el o.spelling o.runs.value (child (leaf_of v) ls)) (list_type t Nullable)
    → IsPlanOf (layout_state name (list_layout t Nullable rows q el o.spelling o.runs.value (child (leaf_of v) ls))) e (plan_data e p)

-- a plan of an expression over lists, by this plan of all their elements and these offsets
abbrev pub IsListsPlan : Bound → PlanTree → LeafReader → ℕ → PlanTree → Type 0
IsListsPlan e k o count p = (name : Name) (t : DataType) (rows : ℕ) (q : PType) (el : Layout) (ls : Nodes)
    → e.scope ≡ list_type t NonNullable → o.dtype.value ≡ int_type q NonNullable → rows_of el ≡ count
    → HasForm (list_layout t NonNullable rows q el o.spelling o.runs.value ls) (list_type t NonNullable)
    → IsPlanOf (layout_state name el) (bound_of t root) (plan_data (bound_of t root) k)
    → IsPlanOf (layout_state name (list_layout t NonNullable rows q el o.spelling o.runs.value ls)) e (plan_data e p)

-- the same under this validity
abbrev pub IsValidListsPlan : Bound → PlanTree → LeafReader → ℕ → LeafReader → PlanTree → Type 0
IsValidListsPlan e k o count v p = (name : Name) (t : DataType) (rows : ℕ) (q : PType) (el : Layout) (ls : Nodes)
    → e.scope ≡ list_type t Nullable → o.dtype.value ≡ int_type q NonNullable → rows_of el ≡ count
    → HasForm (list_layout t Nullable rows q el o.spelling o.runs.value (child (leaf_of v) ls)) (list_type t Nullable)
    → IsPlanOf (layout_state name el) (bound_of t root) (plan_data (bound_of t root) k)
    → IsPlanOf (layout_state name (list_layout t Nullable rows q el o.spelling o.runs.value (child (leaf_of v) ls))) e (plan_data e p)
