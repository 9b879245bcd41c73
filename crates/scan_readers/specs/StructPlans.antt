-- The items of a struct's rows, and plans over a struct's children.
use Rattle.std.specs.Prelude.{◌≡◌, ℕ, Some, List, [], ◌∷◌, false}
use Rattle.scan_values.specs.DataType.{Fields, no_fields, field, struct_type, Name}
use Rattle.scan_values.specs.Marked.{Marked, Markeds, none, more}
use Rattle.scan_values.specs.declared.ptype.Nullability.{Nullability}
use Rattle.scan_values.specs.declared.ptype.Nullability.TheVariants.{NonNullable, Nullable}
use Rattle.scan_segments.specs.Source.{Store}
use Rattle.scan_expr.specs.Bound.{Bound, bound_of}
use Rattle.scan_expr.specs.Eval.{pick, null_test}
use Rattle.scan_expr.specs.Expr.{root, uses_row_index}
use Rattle.scan_expr.specs.Infer.{infer}
use Rattle.scan_layout.specs.Layout.{Layout, Nodes, dtype_of, kids_of}
use Rattle.scan_layout.specs.RowValue.{row_values, struct_value}
use Rattle.scan_layout.specs.Slots.{nth_kid}
use Rattle.scan_partition.specs.declared.item.Item.{Item}
use Rattle.scan_partition.specs.declared.item.Item.TheVariants.{Field, Validity}
use Rattle.scan_partition.specs.declared.struct_.Partitioned.{Partitioned}
use Rattle.scan_partition.specs.declared.struct_.Partitioned.TheVariants.{Direct, Single, Multi}
use Rattle.scan_partition.specs.Partable.{IsPartable}
use Rattle.scan_plans.specs.PlanData.{plan_data}
use Rattle.scan_plans.specs.PlanTree.{PlanTree, PlanTrees, no_plans, plan, plans, over}
use Rattle.scan_readers.specs.LeafPlans.{layout_state}
use Rattle.scan_readers.specs.PlanOf.{IsPlanOf}
use Rattle.scan_readers.specs.Reached.{item_child, item_part, ChildPart, child_parts, parts_reached, MakesWithin, MakesAll}
use Rattle.scan_readers.specs.StructData.{StructData}

-- of the values of a struct's children those of its fields
abbrev pub field_values : Nullability → Markeds → Markeds
field_values NonNullable all = all
field_values Nullable none = none
field_values Nullable (more validity fields) = fields

-- what is read of an item in a row
abbrev pub item_value : Fields → Nullability → Nodes → Store → ℕ → Item → Marked
item_value fs n kids store i (Field f) = pick f fs (field_values n (row_values kids store i))
item_value fs n kids store i Validity = null_test false (struct_value n (row_values kids store i))

-- a plan of an expression over the child of an item
pub record IsChildPlan (fs : Fields) (n : Nullability) (kids : Nodes) (item : Item) (e : Bound) (p : PlanTree) : Type 0 where
  pub index : ℕ
  pub layout : Layout
  pub child : item_child fs n item ≡ Some index
  pub kid : nth_kid kids index ≡ Some layout
  pub plan : (name : Name) → IsPlanOf (layout_state name layout) e (plan_data e p)

-- one for each part
abbrev pub AreChildPlans : Fields → Nullability → Nodes → List Item → List Bound → PlanTrees → Type 0
AreChildPlans fs n kids [] [] no_plans = Unit {0}
AreChildPlans fs n kids (i ∷ is) (e ∷ es) (plan p ps) = IsChildPlan fs n kids i e p × AreChildPlans fs n kids is es ps
AreChildPlans fs n kids _ _ _ = ⊥

-- a plan of a part, over its child
pub record IsPartPlan (kids : Nodes) (e : ChildPart) (p : PlanTree) : Type 0 where
  pub layout : Layout
  pub kid : nth_kid kids e.0 ≡ Some layout
  pub plan : (name : Name) → IsPlanOf (layout_state name layout) e.1 (plan_data e.1 p)

-- one for each part
abbrev pub ArePartPlans : Nodes → List ChildPart → List PlanTree → Type 0
ArePartPlans kids [] [] = Unit {0}
ArePartPlans kids (e ∷ es) (p ∷ ps) = IsPartPlan kids e p × ArePartPlans kids es ps
ArePartPlans kids _ _ = ⊥

-- an expression over the child of an index
pub record IsOverChild (l : Layout) (e : ChildPart) : Type 0 where
  pub layout : Layout
  pub kid : nth_kid (kids_of l) e.0 ≡ Some layout
  pub scope : (e.1).scope ≡ dtype_of layout
  pub partable : IsPartable e.1
  pub unnumbered : uses_row_index (e.1).expr ≡ false

abbrev pub AreOverChildren : Layout → List ChildPart → Type 0
AreOverChildren l [] = Unit {0}
AreOverChildren l (e ∷ es) = IsOverChild l e × AreOverChildren l es

-- fields of the dtypes of parts
abbrev pub AreFieldsOf : Fields → List ChildPart → Type 0
AreFieldsOf no_fields [] = Unit {0}
AreFieldsOf (field n d fs) (e ∷ es) = (d ≡ infer (e.1).scope (e.1).expr) × AreFieldsOf fs es
AreFieldsOf _ _ = ⊥

-- a root over structs of the parts' values
pub record IsRootOver (root : Bound) (es : List ChildPart) : Type 0 where
  pub fields : Fields
  pub scope : root.scope ≡ struct_type fields NonNullable
  pub each : AreFieldsOf fields es
  pub unnumbered : uses_row_index root.expr ≡ false

-- the root of the fields that an expression chooses: the struct of them as it stands
abbrev pub chosen_root : Bound → Bound
chosen_root e = bound_of (infer e.scope e.expr) root

abbrev pub HasRoot : Bound → Partitioned → Type 0
HasRoot e (Direct p) = IsRootOver (chosen_root e) (child_parts e.scope (Direct p))
HasRoot e (Single i p) = Unit {0}
HasRoot e (Multi d) = IsRootOver d.root (child_parts e.scope (Multi d))

-- the parts of an expression are over children of its struct, and the root is over the parts
pub record IsParted (l : Layout) (e : Bound) (p : Partitioned) : Type 0 where
  pub scope : e.scope ≡ dtype_of l
  pub parts : AreOverChildren l (child_parts e.scope p)
  pub root : HasRoot e p

-- a root over plans of parts
pub record IsOverParts (root : Bound) (kids : Nodes) (es : List ChildPart) (n : PlanTree) : Type 0 where
  pub nodes : List PlanTree
  pub is : n ≡ over root.scope root.expr (plans nodes)
  pub parts : ArePartPlans kids es nodes

-- a plan of an expression by its parts
abbrev pub IsPartedPlan : Nodes → Bound → Partitioned → PlanTree → Type 0
IsPartedPlan kids e (Direct p) n = IsOverParts (chosen_root e) kids (child_parts e.scope (Direct p)) n
IsPartedPlan kids e (Single i p) n = IsPartPlan kids (item_part e.scope i p) n
IsPartedPlan kids e (Multi d) n = IsOverParts d.root kids (child_parts e.scope (Multi d)) n

-- of a struct's children no more is made than parts reach
pub record Asks (es : List ChildPart) (old new : StructData) : Type 0 where
  pub layout : new.layout ≡ old.layout
  pub made : MakesWithin (parts_reached (kids_of old.layout) es) old.made new.made

-- and all that they reach
abbrev pub AsksAll : List ChildPart → StructData → StructData → Type 0
AsksAll es old new = MakesAll (parts_reached (kids_of old.layout) es) old.made new.made
