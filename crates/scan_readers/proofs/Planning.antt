-- Plans of the parts of an expression over a struct make a plan of the expression.
use Rattle.std.proofs.Common.{◌≡◌, ℕ, ◌<◌, ◌≤◌, Bool, true, false, ◌||◌, List, [], ◌∷◌, length, map, Some, Result, Ok, Err, refl, ap, sym, subst, ◌∙◌, arith}
use Rattle.std.specs.Prelude.{IfOk}
use Rattle.std.specs.List.{AllByRecursion}
use Rattle.std.proofs.lemmas.List.Elements.{recursion_from_All}
use Rattle.scan_values.specs.declared.ptype.Nullability.{Nullability}
use Rattle.scan_values.specs.DataType.{DataType, bool_type, int_type, utf8_type, list_type, struct_type, Fields, field_list, Name, fields_depth}
use Rattle.scan_values.specs.FieldLists.{dtypes_of as field_types}
use Rattle.scan_values.specs.Fits.{fits}
use Rattle.scan_values.specs.NameFaults.{field_names, fields_fault, names_fault}
use Rattle.scan_segments.specs.Source.{Store}
use Rattle.scan_expr.specs.Bound.{Bound, bound_of}
use Rattle.scan_expr.specs.Expr.{Expr}
use Rattle.scan_layout.specs.declared.node.LayoutKind.{LayoutKind}
use Rattle.scan_layout.specs.declared.node.LayoutKind.TheVariants.{Leaf, Struct, List as List'}
use Rattle.scan_layout.specs.Check.{with_validity}
use Rattle.scan_layout.specs.Form.{HasForm, HaveForms, AllHaveRows}
use Rattle.scan_layout.specs.Layout.{Layout, Nodes, node, dtype_of, kids_of, kind_of}
use Rattle.scan_layout.specs.RowValue.{row_value}
use Rattle.scan_layout.specs.Slots.{nth_kid}
use Rattle.scan_plans.specs.PlanData.{plan_data}
use Rattle.scan_plans.specs.PlanTree.{PlanTree, plans}
use Rattle.scan_partition.specs.declared.item.Item.{Item}
use Rattle.scan_partition.specs.declared.struct_.Partitioned.{Partitioned}
use Rattle.scan_partition.specs.declared.struct_.Partitioned.TheVariants.{Direct, Single, Multi}
use Rattle.scan_partition.specs.Conditions.{IsStruct, IsOverStruct}
use Rattle.scan_partition.specs.Had.{IsItemOf, AreItemsOf, HasItems}
use Rattle.scan_partition.specs.Needing.{SplitNeedsNoMore, PartsNeedNoMore}
use Rattle.scan_partition.specs.Partable.{IsPartable, PartsPartable}
use Rattle.scan_partition.specs.Rows.{Distinct}
use Rattle.scan_partition.specs.Split.{split, KeepsWhole}
use Rattle.scan_partition.specs.Unnumbered.{SplitUnnumbered}
use Rattle.scan_readers.specs.LeafPlans.{layout_state}
use Rattle.scan_readers.specs.Made.{Made, is_made}
use Rattle.scan_readers.specs.PlanOf.{IsPlanOf}
use Rattle.scan_readers.specs.Reached.{item_part, item_parts, field_part, child_parts, reached, parts_reached, MakesWithin, MakesAll}
use Rattle.scan_readers.specs.StructData.{StructData}
use Rattle.scan_readers.specs.StructPlans.{IsChildPlan, AreChildPlans, IsPartPlan, ArePartPlans, IsPartedPlan, IsParted, Asks, AsksAll}
use Rattle.scan_readers.proofs.StructKids.{EachOver, item_kid, place_kid, index_of, either_none}
use Rattle.scan_readers.proofs.StructParts.{single_plan, over_plan, each_below}
use Rattle.scan_readers.proofs.StructSplits.{SplitForms, split_forms, is_parted, chosen_items, chosen_parts, chosen_whole, keeps_chosen, below_chosen}

-- the values of rows fit
abbrev pub RowsFitTypes : Type 0
RowsFitTypes = (l : Layout) (t : DataType) (store : Store) (i : ℕ) → HasForm l t → fits (row_value l store i) t ≡ true

abbrev pub StructsAreOver : Type 0
StructsAreOver = (b : Bound) → IsPartable b → IsStruct b.scope → IsOverStruct b

module _ (fs : Fields) (n : Nullability) (rows : ℕ) (kids : Nodes) (x : Expr) (fit : RowsFitTypes) (even : AllHaveRows rows kids) (forms : HaveForms kids (with_validity n (field_types (field_list fs)))) (distinct : Distinct fs) where
  abbrev the_struct : DataType
  the_struct = struct_type fs n

  abbrev the_layout : Layout
  the_layout = node (struct_type fs n) rows Struct kids

  abbrev the_expr : Bound
  the_expr = bound_of (struct_type fs n) x

  child_plan : (i : Item) (p : Bound) (q : PlanTree) → IsItemOf fs n i → IsPartPlan kids (item_part the_struct i p) q → IsChildPlan fs n kids i p q
  child_plan i p q has is =
      let k = item_kid fs n kids i has forms in
      record { index = k.index; layout = is.layout; child = k.child; kid = subst (λ (j : ℕ). nth_kid kids j ≡ Some is.layout) (index_of fs n i k.index k.child) is.kid; plan = is.plan }

  child_plans : (is : List Item) (ps : List Bound) (ns : List PlanTree) → AreItemsOf the_struct is → EachOver fs is ps → ArePartPlans kids (item_parts the_struct is ps) ns → AreChildPlans fs n kids is ps (plans ns)
  child_plans [] [] [] has each h = tt
  child_plans [] [] (q ∷ ns) has each h = absurd h
  child_plans [] (p ∷ ps) ns has each h = absurd each
  child_plans (i ∷ is) [] ns has each h = absurd each
  child_plans (i ∷ is) (p ∷ ps) [] has each h = absurd h
  child_plans (i ∷ is) (p ∷ ps) (q ∷ ns) has each h = (child_plan i p q has.0 h.0, child_plans is ps ns has.1 each.1 h.1)

  field_plans : (ks : List ℕ) (ns : List PlanTree) → AllByRecursion (λ k. k < length (field_names fs)) ks → ArePartPlans kids (map (field_part the_struct) ks) ns → AreChildPlans fs n kids (chosen_items fs ks) (chosen_parts fs ks) (plans ns)
  field_plans [] [] within h = tt
  field_plans [] (q ∷ ns) within h = absurd h
  field_plans (k ∷ ks) [] within h = absurd h
  field_plans (k ∷ ks) (q ∷ ns) within h =
      let own = place_kid fs n kids k distinct within.0 forms in
      (record { index = (field_part the_struct k).0; layout = (h.0).layout; child = own.child; kid = (h.0).kid; plan = (h.0).plan }, field_plans ks ns within.1 h.1)

  pub parted_plan : (name : Name) (p : Partitioned) (q : PlanTree) → SplitForms the_struct p → KeepsWhole the_expr p → SplitNeedsNoMore the_expr p → HasItems the_struct p → IsPartedPlan kids the_expr p q → IsPlanOf (layout_state name the_layout) the_expr (plan_data the_expr q)
  parted_plan name (Direct p) q form keeps no_more has is =
      let d = chosen_whole the_expr p in
      let made = over_plan name fs n rows kids x fit even forms d (plans is.nodes) (field_plans p.fields is.nodes (recursion_from_All _ p.fields keeps.0) is.parts) (keeps_chosen the_expr p keeps.1) (below_chosen the_expr p distinct keeps.0 no_more) in
      subst (λ (t : PlanTree). IsPlanOf (layout_state name the_layout) the_expr (plan_data the_expr t)) (sym is.is) made
  parted_plan name (Single i p) q form keeps no_more has is = single_plan name fs n rows kids x fit even forms i p q (child_plan i p q has is) keeps (λ path h. (no_more path).1 h)
  parted_plan name (Multi d) q form keeps no_more has is =
      let made = over_plan name fs n rows kids x fit even forms d (plans is.nodes) (child_plans d.items d.parts is.nodes has form.0 is.parts) keeps (each_below d.items d.parts the_expr no_more) in
      subst (λ (t : PlanTree). IsPlanOf (layout_state name the_layout) the_expr (plan_data the_expr t)) (sym is.is) made

-- ---- over any layout of a struct
-- what holds of the layout of a struct of these fields, and of an expression over it
abbrev ForStructs : (Layout → Bound → Type 0) → Type 0
ForStructs P =
    (fs : Fields) (n : Nullability) (rows : ℕ) (kids : Nodes) (x : Expr) → AllHaveRows rows kids → HaveForms kids (with_validity n (field_types (field_list fs))) → IsPartable (bound_of (struct_type fs n) x) → P (node (struct_type fs n) rows Struct kids) (bound_of (struct_type fs n) x)

by_scope : (P : Layout → Bound → Type 0) → ForStructs P → (t : DataType) (rows : ℕ) (kids : Nodes) (e : Bound) → HasForm (node t rows Struct kids) t → e.scope ≡ t → IsPartable e → P (node t rows Struct kids) e
by_scope P f (bool_type n) rows kids e form scope partable = absurd (let z : false ≡ true = form.1 in cc)
by_scope P f (int_type p n) rows kids e form scope partable = absurd (let z : false ≡ true = form.1 in cc)
by_scope P f (utf8_type n) rows kids e form scope partable = absurd (let z : false ≡ true = form.1 in cc)
by_scope P f (list_type d n) rows kids e form scope partable = absurd (let z : false ≡ true = form.1 in cc)
by_scope P f (struct_type fs n) rows kids e form scope partable =
    let same : e ≡ bound_of (struct_type fs n) e.expr = λ i. bound_of (scope i) e.expr in
    subst (λ (b : Bound). P (node (struct_type fs n) rows Struct kids) b) (sym same) (f fs n rows kids e.expr form.2 form.3 (subst IsPartable same partable))

by_kind : (P : Layout → Bound → Type 0) → ForStructs P → (t : DataType) (rows : ℕ) (kind : LayoutKind) (kids : Nodes) (e : Bound) → kind ≡ Struct → HasForm (node t rows kind kids) t → e.scope ≡ t → IsPartable e → P (node t rows kind kids) e
by_kind P f t rows Struct kids e is form scope partable = by_scope P f t rows kids e form scope partable
by_kind P f t rows (Leaf segments spelling) kids e is form scope partable = absurd (let z : Leaf segments spelling ≡ Struct = is in cc)
by_kind P f t rows (List' p) kids e is form scope partable = absurd (let z : List' p ≡ Struct = is in cc)

pub for_structs : (P : Layout → Bound → Type 0) → ForStructs P → (l : Layout) (e : Bound) → HasForm l (dtype_of l) → kind_of l ≡ Struct → e.scope ≡ dtype_of l → IsPartable e → P l e
for_structs P f (node t rows kind kids) e form is scope partable = by_kind P f t rows kind kids e is form scope partable

module _ (fit : RowsFitTypes) (no_more : PartsNeedNoMore) (are_over : StructsAreOver) where
  pub can_part : (l : Layout) (e : Bound) (p : Partitioned) → HasForm l (dtype_of l) → kind_of l ≡ Struct → e.scope ≡ dtype_of l → IsPartable e → p ≡ split e.scope e.expr → KeepsWhole e p → PartsPartable p → HasItems e.scope p → SplitUnnumbered p → IsParted l e p
  can_part l e p form kind scope partable exact keeps parts has numbers =
      for_structs (λ m b. p ≡ split b.scope b.expr → KeepsWhole b p → HasItems b.scope p → IsParted m b p)
      (λ fs n rows kids x even forms whole is keep own.
      let names = (either_none (names_fault [] (field_names fs)) (fields_fault fs) whole.names).1 in
      let deep : fields_depth fs ≤ 64 = omega (arith, whole.scope) in
      is_parted fs n (node (struct_type fs n) rows Struct kids) x refl forms (are_over (bound_of (struct_type fs n) x) whole refl).distinct names deep p (subst (SplitForms (struct_type fs n)) (sym is) (split_forms (struct_type fs n) x)) keep parts own numbers)
      l e form kind scope partable exact keeps has

  plan_of_parts : (l : Layout) (e : Bound) (p : Partitioned) (q : PlanTree) → HasForm l (dtype_of l) → kind_of l ≡ Struct → e.scope ≡ dtype_of l → IsPartable e
      → p ≡ split e.scope e.expr → KeepsWhole e p → HasItems e.scope p → IsPartedPlan (kids_of l) e p q → (name : Name)
      → IsPlanOf (layout_state name l) e (plan_data e q)
  plan_of_parts l e p q form kind scope partable exact keeps has is =
      for_structs (λ m b. p ≡ split b.scope b.expr → KeepsWhole b p → HasItems b.scope p → IsPartedPlan (kids_of m) b p q → (name : Name) → IsPlanOf (layout_state name m) b (plan_data b q))
      (λ fs n rows kids x even forms whole same keep own made name.
      parted_plan fs n rows kids x fit even forms (are_over (bound_of (struct_type fs n) x) whole refl).distinct name p q
      (subst (SplitForms (struct_type fs n)) (sym same) (split_forms (struct_type fs n) x)) keep
      (subst (SplitNeedsNoMore (bound_of (struct_type fs n) x)) (sym same) (no_more (bound_of (struct_type fs n) x) whole refl)) own made)
      l e form kind scope partable exact keeps has is

  pub plan_from_parts : {E : Type 0} (l : Layout) (e : Bound) (p : Partitioned) (r : Result PlanTree E) → HasForm l (dtype_of l) → kind_of l ≡ Struct
      → e.scope ≡ dtype_of l → IsPartable e → p ≡ split e.scope e.expr → KeepsWhole e p → HasItems e.scope p → IfOk r (IsPartedPlan (kids_of l) e p)
      → IfOk r (λ q. (name : Name) → IsPlanOf (layout_state name l) e (plan_data e q))
  plan_from_parts l e p (Ok q) form kind scope partable exact keeps has is = plan_of_parts l e p q form kind scope partable exact keeps has is
  plan_from_parts l e p (Err f) form kind scope partable exact keeps has is = tt

-- ---- what is reached
pub reached_parts : (l : Layout) (e : Bound) (p : Partitioned) → HasForm l (dtype_of l) → kind_of l ≡ Struct → e.scope ≡ dtype_of l → IsPartable e → p ≡ split e.scope e.expr → (path : List ℕ) → parts_reached (kids_of l) (child_parts e.scope p) path ≡ reached l e path
reached_parts l e p form kind scope partable exact =
    for_structs (λ m b. p ≡ split b.scope b.expr → (path : List ℕ) → parts_reached (kids_of m) (child_parts b.scope p) path ≡ reached m b path)
    (λ fs n rows kids x even forms whole same. by fs n rows kids x same)
    l e form kind scope partable exact
  where
    by : (fs : Fields) (n : Nullability) (rows : ℕ) (kids : Nodes) (x : Expr) → p ≡ split (struct_type fs n) x → (path : List ℕ) → parts_reached kids (child_parts (struct_type fs n) p) path ≡ reached (node (struct_type fs n) rows Struct kids) (bound_of (struct_type fs n) x) path
    by fs n rows kids x same [] = refl
    by fs n rows kids x same (k ∷ path) = ap (λ (z : Partitioned). parts_reached kids (child_parts (struct_type fs n) z) (k ∷ path)) same

pub within_same : (s t : List ℕ → Bool) (old new : Made) → ((path : List ℕ) → s path ≡ t path) → MakesWithin s old new → MakesWithin t old new
within_same s t old new same w = record { stay = w.stay; only = λ path h. ap (λ b. is_made old path || b) (sym (same path)) ∙ w.only path h }

pub reached_within : (e : Bound) (p : Partitioned) (old new : StructData) → HasForm old.layout (dtype_of old.layout) → kind_of old.layout ≡ Struct
    → e.scope ≡ dtype_of old.layout → IsPartable e → p ≡ split e.scope e.expr → Asks (child_parts e.scope p) old new
    → MakesWithin (reached old.layout e) old.made new.made
reached_within e p old new form kind scope partable exact asks = within_same (parts_reached (kids_of old.layout) (child_parts e.scope p)) (reached old.layout e) old.made new.made (reached_parts old.layout e p form kind scope partable exact) asks.made

pub reached_all : {A E : Type 0} (e : Bound) (p : Partitioned) (old new : StructData) (r : Result A E) → HasForm old.layout (dtype_of old.layout)
    → kind_of old.layout ≡ Struct → e.scope ≡ dtype_of old.layout → IsPartable e → p ≡ split e.scope e.expr
    → IfOk r (λ _. AsksAll (child_parts e.scope p) old new) → IfOk r (λ _. MakesAll (reached old.layout e) old.made new.made)
reached_all e p old new (Ok x) form kind scope partable exact all = λ path. all path ∙ ap (λ b. is_made old.made path || b) (reached_parts old.layout e p form kind scope partable exact path)
reached_all e p old new (Err f) form kind scope partable exact all = tt

-- the dtype of the layout of a struct is one
struct_by : (t : DataType) (rows : ℕ) (kind : LayoutKind) (kids : Nodes) → HasForm (node t rows kind kids) t → kind ≡ Struct → IsStruct t
struct_by t rows (Leaf segments spelling) kids form is = absurd (let z : Leaf segments spelling ≡ Struct = is in cc)
struct_by t rows (List' p) kids form is = absurd (let z : List' p ≡ Struct = is in cc)
struct_by (bool_type n) rows Struct kids form is = absurd (let z : false ≡ true = form.1 in cc)
struct_by (int_type p n) rows Struct kids form is = absurd (let z : false ≡ true = form.1 in cc)
struct_by (utf8_type n) rows Struct kids form is = absurd (let z : false ≡ true = form.1 in cc)
struct_by (list_type d n) rows Struct kids form is = absurd (let z : false ≡ true = form.1 in cc)
struct_by (struct_type fs n) rows Struct kids form is = refl

pub struct_scope : (l : Layout) → HasForm l (dtype_of l) → kind_of l ≡ Struct → IsStruct (dtype_of l)
struct_scope (node t rows kind kids) form is = struct_by t rows kind kids form is
