use Rattle.std.proofs.Common.{rules, arith, ◌≡◌, ◌<◌, ◌≤◌, ◌+◌, List, map, length, get_or, Some, ap, sym, subst, ◌∙◌}
use Rattle.std.specs.Prelude.{slice_get, IfOk}
use Rattle.std.proofs.lemmas.Option.{slice_get-get_or}
use Rattle.std.proofs.lemmas.List.{length-map}
use Rattle.scan_values.specs.DataType.{Name, nullability_of}
use Rattle.scan_expr.specs.Bound.{Bound}
use Rattle.scan_expr.specs.Expr.{uses_row_index}
use Rattle.scan_expr.specs.Infer.{infer}
use Rattle.scan_layout.specs.Layout.{Layout, dtype_of, kids_of, count, layout_size}
use Rattle.scan_layout.specs.Slots.{one_where}
use Rattle.scan_layout.proofs.RowFits.{row_fits}
use Rattle.scan_partition.specs.declared.item.Item.{Item}
use Rattle.scan_partition.specs.declared.struct_.Partitioned.TheVariants.{Direct, Multi}
use Rattle.scan_partition.specs.Conditions.{IsStruct}
use Rattle.scan_partition.proofs.PartNeeds.{parts_need}
use Rattle.scan_partition.proofs.Partable.{partable_over}
use Rattle.scan_plans.specs.PlanData.{plan_data}
use Rattle.scan_plans.specs.PlanTree.{PlanTree}
use Rattle.scan_readers.specs.declared.kind.ReaderKind.{ReaderKind}
use Rattle.scan_readers.specs.KindView.{layout_of}
use Rattle.scan_readers.specs.LeafPlans.{layout_state}
use Rattle.scan_readers.specs.PlanOf.{IsPlanOf}
use Rattle.scan_readers.specs.Reached.{ChildPart, field_part, item_part, item_parts, child_parts}
use Rattle.scan_readers.specs.StructData.{StructData}
use Rattle.scan_readers.specs.StructPlans.{IsOverChild, ArePartPlans}
use Rattle.scan_readers.proofs.ListKids.{over_elements, elements_plan, elements_type, never_null, maybe_null, numbers, all_plan, valid_all_plan, struct_kind, element_below}
use Rattle.std.specs.Prelude.{option_map}
use Rattle.std.proofs.Common.{◌∷◌}
use Rattle.scan_values.specs.declared.ptype.Nullability.TheVariants.{NonNullable, Nullable}
use Rattle.scan_layout.specs.Layout.{rows_of}
use Rattle.scan_layout.specs.Slots.{nth_kid}
use Rattle.scan_partition.specs.declared.list_.ListChildrenNeeded.{ListChildrenNeeded}
use Rattle.scan_partition.specs.declared.list_.ListChildrenNeeded.TheVariants.{OffsetsAndValidity}
use Rattle.scan_readers.specs.ListKids.{IsList, IsValidityOf, AreLeavesOf}
use Rattle.scan_readers.specs.Reached.{elements_part, offsets_part, validity_parts, list_parts}
use Rattle.scan_readers.specs.StructPlans.{Asks, AsksAll}
use Rattle.scan_readers.proofs.ListWalk.{asks_first, asks_more, all_more, on_all, list_within, list_all}
use Rattle.scan_readers.proofs.Making.{leaf_makes, kid_count, kid_smaller, as_many}
use Rattle.scan_readers.proofs.PlansOf.{kind_plan}
use Rattle.scan_readers.proofs.Planning.{can_part, plan_from_parts, reached_within, reached_all, struct_scope}
use Rattle.scan_readers.proofs.Walking.{Walk, walk_start, walk_step, walk_asks, walk_all, walk_plans, item_at, items_long, field_at, over_at, child_asks, child_asks_all, fields_plans}
use Rattle.scan_readers.proofs.+planning.Goals as goal

pub kind::ReaderKind::node-returns-in-Leaf-clause-all : goal.kind::ReaderKind::node-returns-in-Leaf-clause-all
kind::ReaderKind::node-returns-in-Leaf-clause-all t c = leaf_makes c.args.self.now c.in-Leaf.leaf c.args.expr.now c.node.result c.in-Leaf.is

pub kind::ReaderKind::node-returns-in-Leaf-clause-plan : goal.kind::ReaderKind::node-returns-in-Leaf-clause-plan
kind::ReaderKind::node-returns-in-Leaf-clause-plan t c = kind_plan c.args.self.now _ _ _ c.args.expr.now c.node.result c.node.ensures (ap layout_of (sym c.in-Leaf.is)) c.requires.scope c.requires.readable.form

pub kind::ReaderKind::node-returns-in-Nested-clause-plan : goal.kind::ReaderKind::node-returns-in-Nested-clause-plan
kind::ReaderKind::node-returns-in-Nested-clause-plan t c =
    let P : ReaderKind → Type 0 = λ k. IfOk c.node-in-Nested.result (λ n. (name : Name) → IsPlanOf (layout_state name (layout_of k)) c.args.expr.now (plan_data c.args.expr.now n)) in
    subst P (sym c.in-Nested.is) c.node-in-Nested.ensures.plan

pub nested::NestedReader::child_node-take_child-requires : goal.nested::NestedReader::child_node-take_child-requires
nested::NestedReader::child_node-take_child-requires t c = kid_count (kids_of c.args.self.now.layout) c.args.index c.requires.layout c.requires.kid

pub nested::NestedReader::child_node-node-node-requires : goal.nested::NestedReader::child_node-node-node-requires
nested::NestedReader::child_node-node-node-requires t c =
    let told = c.decreases in
    let less : layout_size (layout_of c.in_ok-child.child) < layout_size c.args.self.now.layout = kid_smaller c.args.self.now.layout c.args.index (layout_of c.in_ok-child.child) c.in_ok-child.ensures.child in
    let both : Some c.requires.layout ≡ Some (layout_of c.in_ok-child.child) = sym c.requires.kid ∙ c.in_ok-child.ensures.child in
    let same : c.requires.layout ≡ layout_of c.in_ok-child.child = cc in
    (omega (arith, less, told), (c.in_ok-child.ensures.readable, (c.requires.scope ∙ ap dtype_of same, (c.requires.partable, c.requires.unnumbered))))

pub nested::NestedReader::child_node-returns-clause-asks : goal.nested::NestedReader::child_node-returns-clause-asks
nested::NestedReader::child_node-returns-clause-asks t c =
    child_asks c.args.self.now c.take_child.new.self c.put_child.new.self c.args.index c.args.expr.now c.in_ok-child.child c.node-node.new.self
    c.take_child.ensures.layout c.in_ok-child.ensures.out c.take_child.ensures.wide c.in_ok-child.ensures.child c.in_ok-child.ensures.own
    c.node-node.ensures.within c.put_child.ensures

pub nested::NestedReader::child_node-returns-clause-all : goal.nested::NestedReader::child_node-returns-clause-all
nested::NestedReader::child_node-returns-clause-all t c =
    child_asks_all c.args.self.now c.take_child.new.self c.put_child.new.self c.args.index c.args.expr.now c.in_ok-child.child c.node-node.new.self
    c.node-node.result c.in_ok-child.ensures.out c.take_child.ensures.wide c.in_ok-child.ensures.child c.in_ok-child.ensures.own c.node-node.ensures.all
    c.put_child.ensures

pub nested::NestedReader::chosen_node-over-requires : goal.nested::NestedReader::chosen_node-over-requires
nested::NestedReader::chosen_node-over-requires t c =
    let es = child_parts c.args.expr.now.scope (Direct c.args.chosen.now) in
    let own : c.in_ok-root.root.scope ≡ infer c.args.expr.now.scope c.args.expr.now.expr = search rules in
    let made : ArePartPlans (kids_of c.args.self.now.layout) es c.new.result = search rules in
    (c.requires.root.fields, own ∙ c.requires.root.scope, fields_plans (kids_of c.args.self.now.layout) c.requires.root.fields es c.new.result c.requires.root.each made, ap (λ (b : Bound). uses_row_index b.expr) c.in_ok-root.ensures)

pub nested::NestedReader::field_node-overflow_add-index : goal.nested::NestedReader::field_node-overflow_add-index
nested::NestedReader::field_node-overflow_add-index t c =
    let below : one_where (nullability_of (dtype_of c.args.self.now.layout)) + c.args.place < count (kids_of c.args.self.now.layout) = kid_count (kids_of c.args.self.now.layout) _ c.requires.layout c.requires.kid in
    let P : StructData → Type 0 = λ v. one_where (nullability_of (dtype_of c.args.self.now.layout)) + c.args.place < count (kids_of v.layout) in
    let here : one_where (nullability_of (dtype_of c.args.self.now.layout)) + c.args.place < count (kids_of c.self.inside.layout.value) = subst P (sym c.self.view_is) below in
    let all = as_many (kids_of c.self.inside.layout.value) c.self.inside.children.items c.self.invariant.kids in
    omega (arith, here, all, c.first_field.ensures, c.self.inside.children.ok.0, c.self.inside.children.small)

pub nested::NestedReader::field_node-child_layout-requires : goal.nested::NestedReader::field_node-child_layout-requires
nested::NestedReader::field_node-child_layout-requires t c =
    let below : one_where (nullability_of (dtype_of c.args.self.now.layout)) + c.args.place < count (kids_of c.args.self.now.layout) = kid_count (kids_of c.args.self.now.layout) _ c.requires.layout c.requires.kid in
    let P : StructData → Type 0 = λ v. one_where (nullability_of (dtype_of c.args.self.now.layout)) + c.args.place < count (kids_of v.layout) in
    let here : one_where (nullability_of (dtype_of c.args.self.now.layout)) + c.args.place < count (kids_of c.self.inside.layout.value) = subst P (sym c.self.view_is) below in
    let all = as_many (kids_of c.self.inside.layout.value) c.self.inside.children.items c.self.invariant.kids in
    omega (arith, here, all, c.first_field.ensures, c.self.inside.children.ok.0, c.self.inside.children.small)

pub nested::NestedReader::field_nodes-loop-place-init : goal.nested::NestedReader::field_nodes-loop-place-init
nested::NestedReader::field_nodes-loop-place-init t c =
    let es = map (field_part (dtype_of c.args.self.now.layout)) c.args.places.now in
    subst (λ (ns : List PlanTree). Walk es 0 c.args.self.now c.args.self.now ns) (sym c.in_ok-nodes.ensures.items) (walk_start es c.args.self.now)

pub nested::NestedReader::field_nodes-field_node-requires : goal.nested::NestedReader::field_nodes-field_node-requires
nested::NestedReader::field_nodes-field_node-requires t c =
    let es = map (field_part (dtype_of c.args.self.now.layout)) c.args.places.now in
    let w = c.loop-place.invariant in
    let i = c.loop-place.place-index in
    let x = get_or c.args.places.now i 0 in
    let e = field_part (dtype_of c.loop-place.self.layout) x in
    let at : slice_get es i ≡ Some e = field_at (field_part (dtype_of c.args.self.now.layout)) c.args.places.now i x (slice_get-get_or c.args.places.now i 0 c.loop-place-test.true) ∙ ap (λ (l : Layout). Some (field_part (dtype_of l) x)) (sym w.asks.layout) in
    let told = c.decreases in
    let same : layout_size c.loop-place.self.layout ≡ layout_size c.args.self.now.layout = ap layout_size w.asks.layout in
    (omega (arith, same, told), subst (λ (l : Layout). IsOverChild l e) (sym w.asks.layout) (over_at c.args.self.now.layout es i e c.requires at))

pub nested::NestedReader::field_nodes-returns-in_err-field_node-clause-asks : goal.nested::NestedReader::field_nodes-returns-in_err-field_node-clause-asks
nested::NestedReader::field_nodes-returns-in_err-field_node-clause-asks t c =
    let es = map (field_part (dtype_of c.args.self.now.layout)) c.args.places.now in
    let w = c.loop-place.invariant in
    let i = c.loop-place.place-index in
    let x = get_or c.args.places.now i 0 in
    let e = field_part (dtype_of c.loop-place.self.layout) x in
    let at : slice_get es i ≡ Some e = field_at (field_part (dtype_of c.args.self.now.layout)) c.args.places.now i x (slice_get-get_or c.args.places.now i 0 c.loop-place-test.true) ∙ ap (λ (l : Layout). Some (field_part (dtype_of l) x)) (sym w.asks.layout) in
    walk_asks es i e c.args.self.now c.loop-place.self c.field_node.new.self at w.asks c.field_node.ensures.asks

pub nested::NestedReader::field_nodes-returns-in_err-push-clause-asks : goal.nested::NestedReader::field_nodes-returns-in_err-push-clause-asks
nested::NestedReader::field_nodes-returns-in_err-push-clause-asks t c =
    let es = map (field_part (dtype_of c.args.self.now.layout)) c.args.places.now in
    let w = c.loop-place.invariant in
    let i = c.loop-place.place-index in
    let x = get_or c.args.places.now i 0 in
    let e = field_part (dtype_of c.loop-place.self.layout) x in
    let at : slice_get es i ≡ Some e = field_at (field_part (dtype_of c.args.self.now.layout)) c.args.places.now i x (slice_get-get_or c.args.places.now i 0 c.loop-place-test.true) ∙ ap (λ (l : Layout). Some (field_part (dtype_of l) x)) (sym w.asks.layout) in
    walk_asks es i e c.args.self.now c.loop-place.self c.field_node.new.self at w.asks c.field_node.ensures.asks

pub nested::NestedReader::field_nodes-loop-place-preserved : goal.nested::NestedReader::field_nodes-loop-place-preserved
nested::NestedReader::field_nodes-loop-place-preserved t c =
    let es = map (field_part (dtype_of c.args.self.now.layout)) c.args.places.now in
    let w = c.loop-place.invariant in
    let i = c.loop-place.place-index in
    let x = get_or c.args.places.now i 0 in
    let e = field_part (dtype_of c.loop-place.self.layout) x in
    let at : slice_get es i ≡ Some e = field_at (field_part (dtype_of c.args.self.now.layout)) c.args.places.now i x (slice_get-get_or c.args.places.now i 0 c.loop-place-test.true) ∙ ap (λ (l : Layout). Some (field_part (dtype_of l) x)) (sym w.asks.layout) in
    subst (λ (ns : List PlanTree). Walk es (i + 1) c.args.self.now c.field_node.new.self ns) (sym c.in_ok-push.ensures.items)
    (walk_step es i e c.args.self.now c.loop-place.self c.field_node.new.self c.loop-place.nodes.items c.in_ok-field_node.field-0 at w
    c.field_node.ensures.asks c.in_ok-field_node.ensures.all c.in_ok-field_node.ensures.plan)

pub nested::NestedReader::field_nodes-returns-clause-asks : goal.nested::NestedReader::field_nodes-returns-clause-asks
nested::NestedReader::field_nodes-returns-clause-asks t c = c.loop-place.invariant.asks

pub nested::NestedReader::field_nodes-returns-clause-all : goal.nested::NestedReader::field_nodes-returns-clause-all
nested::NestedReader::field_nodes-returns-clause-all t c =
    let es = map (field_part (dtype_of c.args.self.now.layout)) c.args.places.now in
    let long = length-map c.args.places.now (field_part (dtype_of c.args.self.now.layout)) in
    let past = c.loop-place-test.false in
    let end : length es ≤ c.loop-place.place-index = omega (arith, long, past) in
    walk_all es c.loop-place.place-index c.args.self.now c.loop-place.self c.loop-place.nodes.items end c.loop-place.invariant

pub nested::NestedReader::field_nodes-returns-clause-plans : goal.nested::NestedReader::field_nodes-returns-clause-plans
nested::NestedReader::field_nodes-returns-clause-plans t c =
    let es = map (field_part (dtype_of c.args.self.now.layout)) c.args.places.now in
    let long = length-map c.args.places.now (field_part (dtype_of c.args.self.now.layout)) in
    let past = c.loop-place-test.false in
    let end : length es ≤ c.loop-place.place-index = omega (arith, long, past) in
    walk_plans es c.loop-place.place-index c.args.self.now c.loop-place.self c.loop-place.nodes.items end c.loop-place.invariant

pub nested::NestedReader::joined_node-over-requires : goal.nested::NestedReader::joined_node-over-requires
nested::NestedReader::joined_node-over-requires t c =
    let es = child_parts c.args.expr.now.scope (Multi c.args.parts.now) in
    let own : c.in_ok-root.root ≡ c.args.parts.now.root = search rules in
    let made : ArePartPlans (kids_of c.args.self.now.layout) es c.new.result = search rules in
    (c.requires.root.fields, ap (λ (b : Bound). b.scope) own ∙ c.requires.root.scope, fields_plans (kids_of c.args.self.now.layout) c.requires.root.fields es c.new.result c.requires.root.each made, ap (λ (b : Bound). uses_row_index b.expr) own ∙ c.requires.root.unnumbered)

pub nested::NestedReader::struct_node-partition_struct-requires-clause-structure : goal.nested::NestedReader::struct_node-partition_struct-requires-clause-structure
nested::NestedReader::struct_node-partition_struct-requires-clause-structure t c = subst IsStruct (sym c.requires.scope) (struct_scope c.args.self.now.layout c.layout-own.ensures.readable.form c.requires.kind)

pub nested::NestedReader::struct_node-parted_node-requires : goal.nested::NestedReader::struct_node-parted_node-requires
nested::NestedReader::struct_node-parted_node-requires t c =
    let told = c.decreases in (
      omega (arith, told),
      can_part row_fits parts_need partable_over c.args.self.now.layout c.args.expr.now c.in_ok-parted.parted
          c.layout-own.ensures.readable.form c.requires.kind c.requires.scope c.requires.bound c.in_ok-parted.ensures.exact c.in_ok-parted.ensures.joined
          c.in_ok-parted.ensures.again c.in_ok-parted.ensures.items (c.in_ok-parted.ensures.numbers c.requires.rows),
    )

pub nested::NestedReader::struct_node-returns-clause-within : goal.nested::NestedReader::struct_node-returns-clause-within
nested::NestedReader::struct_node-returns-clause-within t c = reached_within c.args.expr.now c.in_ok-parted.parted c.args.self.now c.parted_node.new.self c.layout-own.ensures.readable.form c.requires.kind c.requires.scope c.requires.bound c.in_ok-parted.ensures.exact c.parted_node.ensures.asks

pub nested::NestedReader::struct_node-returns-clause-all : goal.nested::NestedReader::struct_node-returns-clause-all
nested::NestedReader::struct_node-returns-clause-all t c = reached_all c.args.expr.now c.in_ok-parted.parted c.args.self.now c.parted_node.new.self
    c.parted_node.result c.layout-own.ensures.readable.form c.requires.kind c.requires.scope c.requires.bound c.in_ok-parted.ensures.exact
    c.parted_node.ensures.all

pub nested::NestedReader::struct_node-returns-clause-plan : goal.nested::NestedReader::struct_node-returns-clause-plan
nested::NestedReader::struct_node-returns-clause-plan t c =
    plan_from_parts row_fits parts_need partable_over c.args.self.now.layout c.args.expr.now c.in_ok-parted.parted c.parted_node.result
    c.layout-own.ensures.readable.form c.requires.kind c.requires.scope c.requires.bound c.in_ok-parted.ensures.exact c.in_ok-parted.ensures.joined
    c.in_ok-parted.ensures.items c.parted_node.ensures.plan

pub nested::NestedReader::part_nodes-loop-i-init : goal.nested::NestedReader::part_nodes-loop-i-init
nested::NestedReader::part_nodes-loop-i-init t c =
    let es = item_parts (dtype_of c.args.self.now.layout) c.args.parts.now.items c.args.parts.now.parts in
    subst (λ (ns : List PlanTree). Walk es 0 c.args.self.now c.args.self.now ns) (sym c.in_ok-nodes.ensures.items) (walk_start es c.args.self.now)

pub nested::NestedReader::part_nodes-child_node-requires : goal.nested::NestedReader::part_nodes-child_node-requires
nested::NestedReader::part_nodes-child_node-requires t c =
    let es = item_parts (dtype_of c.args.self.now.layout) c.args.parts.now.items c.args.parts.now.parts in
    let w = c.loop-i.invariant in
    let i = c.loop-i.i in
    let x = c.index-items-i.result in
    let e : ChildPart = (c.item_index-index.result, c.part.result.now) in
    let item : slice_get c.args.parts.now.items i ≡ Some x = ap (λ (is : List Item). slice_get is i) (sym c.items-items.ensures.items) ∙ slice_get-get_or c.items-items.result.now i x c.loop-i-test.true ∙ ap Some (sym c.index-items-i.is) in
    let own : item_part (dtype_of c.loop-i.self.layout) x c.part.result.now ≡ e = λ j. (sym c.item_index-index.ensures j, c.part.result.now) in
    let at : slice_get es i ≡ Some e = item_at (dtype_of c.args.self.now.layout) c.args.parts.now.items c.args.parts.now.parts i x c.part.result.now item (sym c.part.ensures) ∙ ap (λ (l : Layout). Some (item_part (dtype_of l) x c.part.result.now)) (sym w.asks.layout) ∙ ap Some own in
    let told = c.decreases in
    let same : layout_size c.loop-i.self.layout ≡ layout_size c.args.self.now.layout = ap layout_size w.asks.layout in
    (omega (arith, same, told), subst (λ (l : Layout). IsOverChild l e) (sym w.asks.layout) (over_at c.args.self.now.layout es i e c.requires at))

pub nested::NestedReader::part_nodes-returns-in_err-child_node-clause-asks : goal.nested::NestedReader::part_nodes-returns-in_err-child_node-clause-asks
nested::NestedReader::part_nodes-returns-in_err-child_node-clause-asks t c =
    let es = item_parts (dtype_of c.args.self.now.layout) c.args.parts.now.items c.args.parts.now.parts in
    let w = c.loop-i.invariant in
    let i = c.loop-i.i in
    let x = c.index-items-i.result in
    let e : ChildPart = (c.item_index-index.result, c.part.result.now) in
    let item : slice_get c.args.parts.now.items i ≡ Some x = ap (λ (is : List Item). slice_get is i) (sym c.items-items.ensures.items) ∙ slice_get-get_or c.items-items.result.now i x c.loop-i-test.true ∙ ap Some (sym c.index-items-i.is) in
    let own : item_part (dtype_of c.loop-i.self.layout) x c.part.result.now ≡ e = λ j. (sym c.item_index-index.ensures j, c.part.result.now) in
    let at : slice_get es i ≡ Some e = item_at (dtype_of c.args.self.now.layout) c.args.parts.now.items c.args.parts.now.parts i x c.part.result.now item (sym c.part.ensures) ∙ ap (λ (l : Layout). Some (item_part (dtype_of l) x c.part.result.now)) (sym w.asks.layout) ∙ ap Some own in
    walk_asks es i e c.args.self.now c.loop-i.self c.child_node.new.self at w.asks c.child_node.ensures.asks

pub nested::NestedReader::part_nodes-returns-in_err-push-clause-asks : goal.nested::NestedReader::part_nodes-returns-in_err-push-clause-asks
nested::NestedReader::part_nodes-returns-in_err-push-clause-asks t c =
    let es = item_parts (dtype_of c.args.self.now.layout) c.args.parts.now.items c.args.parts.now.parts in
    let w = c.loop-i.invariant in
    let i = c.loop-i.i in
    let x = c.index-items-i.result in
    let e : ChildPart = (c.item_index-index.result, c.part.result.now) in
    let item : slice_get c.args.parts.now.items i ≡ Some x = ap (λ (is : List Item). slice_get is i) (sym c.items-items.ensures.items) ∙ slice_get-get_or c.items-items.result.now i x c.loop-i-test.true ∙ ap Some (sym c.index-items-i.is) in
    let own : item_part (dtype_of c.loop-i.self.layout) x c.part.result.now ≡ e = λ j. (sym c.item_index-index.ensures j, c.part.result.now) in
    let at : slice_get es i ≡ Some e = item_at (dtype_of c.args.self.now.layout) c.args.parts.now.items c.args.parts.now.parts i x c.part.result.now item (sym c.part.ensures) ∙ ap (λ (l : Layout). Some (item_part (dtype_of l) x c.part.result.now)) (sym w.asks.layout) ∙ ap Some own in
    walk_asks es i e c.args.self.now c.loop-i.self c.child_node.new.self at w.asks c.child_node.ensures.asks

pub nested::NestedReader::part_nodes-loop-i-preserved : goal.nested::NestedReader::part_nodes-loop-i-preserved
nested::NestedReader::part_nodes-loop-i-preserved t c =
    let es = item_parts (dtype_of c.args.self.now.layout) c.args.parts.now.items c.args.parts.now.parts in
    let w = c.loop-i.invariant in
    let i = c.loop-i.i in
    let x = c.index-items-i.result in
    let e : ChildPart = (c.item_index-index.result, c.part.result.now) in
    let item : slice_get c.args.parts.now.items i ≡ Some x = ap (λ (is : List Item). slice_get is i) (sym c.items-items.ensures.items) ∙ slice_get-get_or c.items-items.result.now i x c.loop-i-test.true ∙ ap Some (sym c.index-items-i.is) in
    let own : item_part (dtype_of c.loop-i.self.layout) x c.part.result.now ≡ e = λ j. (sym c.item_index-index.ensures j, c.part.result.now) in
    let at : slice_get es i ≡ Some e = item_at (dtype_of c.args.self.now.layout) c.args.parts.now.items c.args.parts.now.parts i x c.part.result.now item (sym c.part.ensures) ∙ ap (λ (l : Layout). Some (item_part (dtype_of l) x c.part.result.now)) (sym w.asks.layout) ∙ ap Some own in
    subst (λ (ns : List PlanTree). Walk es (i + 1) c.args.self.now c.child_node.new.self ns) (sym c.in_ok-push.ensures.items)
    (walk_step es i e c.args.self.now c.loop-i.self c.child_node.new.self c.loop-i.nodes.items c.in_ok-child_node.field-0 at w c.child_node.ensures.asks
    c.in_ok-child_node.ensures.all c.in_ok-child_node.ensures.plan)

pub nested::NestedReader::part_nodes-returns-clause-asks : goal.nested::NestedReader::part_nodes-returns-clause-asks
nested::NestedReader::part_nodes-returns-clause-asks t c = c.loop-i.invariant.asks

pub nested::NestedReader::part_nodes-returns-clause-all : goal.nested::NestedReader::part_nodes-returns-clause-all
nested::NestedReader::part_nodes-returns-clause-all t c =
    let es = item_parts (dtype_of c.args.self.now.layout) c.args.parts.now.items c.args.parts.now.parts in
    let even : length c.args.parts.now.parts ≡ length c.args.parts.now.items = c.items-items.ensures.even ∙ ap length c.items-items.ensures.items in
    let long = items_long (dtype_of c.args.self.now.layout) c.args.parts.now.items c.args.parts.now.parts even in
    let same = ap length c.items-items.ensures.items in
    let past = c.loop-i-test.false in
    let end : length es ≤ c.loop-i.i = omega (arith, long, past, same) in
    walk_all es c.loop-i.i c.args.self.now c.loop-i.self c.loop-i.nodes.items end c.loop-i.invariant

pub nested::NestedReader::part_nodes-returns-clause-plans : goal.nested::NestedReader::part_nodes-returns-clause-plans
nested::NestedReader::part_nodes-returns-clause-plans t c =
    let es = item_parts (dtype_of c.args.self.now.layout) c.args.parts.now.items c.args.parts.now.parts in
    let even : length c.args.parts.now.parts ≡ length c.args.parts.now.items = c.items-items.ensures.even ∙ ap length c.items-items.ensures.items in
    let long = items_long (dtype_of c.args.self.now.layout) c.args.parts.now.items c.args.parts.now.parts even in
    let same = ap length c.items-items.ensures.items in
    let past = c.loop-i-test.false in
    let end : length es ≤ c.loop-i.i = omega (arith, long, past, same) in
    walk_plans es c.loop-i.i c.args.self.now c.loop-i.self c.loop-i.nodes.items end c.loop-i.invariant

pub nested::NestedReader::elements_node-child_layout-requires : goal.nested::NestedReader::elements_node-child_layout-requires
nested::NestedReader::elements_node-child_layout-requires t c = element_below c.self.inside.layout.value (let P : StructData → Type 0 = λ v. IsList v.layout in subst P (sym c.self.view_is) c.requires.list)

pub nested::NestedReader::list_all_node-elements_node-requires : goal.nested::NestedReader::list_all_node-elements_node-requires
nested::NestedReader::list_all_node-elements_node-requires t c = let told = c.decreases in (omega (arith, told), (c.requires.list, over_elements c.args.self.now.layout c.args.expr.now c.requires.list c.requires.scope c.requires.bound))

pub nested::NestedReader::list_all_node-returns-in_err-node-clause-asks : goal.nested::NestedReader::list_all_node-returns-in_err-node-clause-asks
nested::NestedReader::list_all_node-returns-in_err-node-clause-asks t c = asks_first (elements_part c.args.self.now.layout) (offsets_part c.args.self.now.layout ∷ validity_parts (nullability_of (dtype_of c.args.self.now.layout))) c.args.self.now c.elements_node.new.self c.elements_node.ensures.asks

pub nested::NestedReader::list_all_node-list_leaves-requires : goal.nested::NestedReader::list_all_node-list_leaves-requires
nested::NestedReader::list_all_node-list_leaves-requires t c = subst IsList (sym c.elements_node.ensures.asks.layout) c.requires.list

pub nested::NestedReader::list_all_node-returns-in_err-leaves-clause-asks : goal.nested::NestedReader::list_all_node-returns-in_err-leaves-clause-asks
nested::NestedReader::list_all_node-returns-in_err-leaves-clause-asks t c =
    asks_more (elements_part c.args.self.now.layout)
    (offsets_part c.args.self.now.layout ∷ validity_parts (nullability_of (dtype_of c.args.self.now.layout))) c.args.self.now c.elements_node.new.self
    c.list_leaves.new.self c.elements_node.ensures.asks (subst
    (λ (m : Layout). Asks (list_parts m OffsetsAndValidity) c.elements_node.new.self c.list_leaves.new.self) c.elements_node.ensures.asks.layout
    c.list_leaves.ensures.asks)

pub nested::NestedReader::list_all_node-element_count-elements-requires : goal.nested::NestedReader::list_all_node-element_count-elements-requires
nested::NestedReader::list_all_node-element_count-elements-requires t c = subst IsList (sym (c.list_leaves.ensures.asks.layout ∙ c.elements_node.ensures.asks.layout)) c.requires.list

pub nested::NestedReader::list_all_node-returns-in-None-clause-asks : goal.nested::NestedReader::list_all_node-returns-in-None-clause-asks
nested::NestedReader::list_all_node-returns-in-None-clause-asks t c =
    asks_more (elements_part c.args.self.now.layout)
    (offsets_part c.args.self.now.layout ∷ validity_parts (nullability_of (dtype_of c.args.self.now.layout))) c.args.self.now c.elements_node.new.self
    c.list_leaves.new.self c.elements_node.ensures.asks (subst
    (λ (m : Layout). Asks (list_parts m OffsetsAndValidity) c.elements_node.new.self c.list_leaves.new.self) c.elements_node.ensures.asks.layout
    c.list_leaves.ensures.asks)

pub nested::NestedReader::list_all_node-returns-in-None-clause-all : goal.nested::NestedReader::list_all_node-returns-in-None-clause-all
nested::NestedReader::list_all_node-returns-in-None-clause-all t c =
    on_all c.all_node.result (all_more (elements_part c.args.self.now.layout)
    (offsets_part c.args.self.now.layout ∷ validity_parts (nullability_of (dtype_of c.args.self.now.layout))) c.args.self.now c.elements_node.new.self
    c.list_leaves.new.self c.elements_node.ensures.asks.layout c.in_ok-node.ensures.all
    (subst (λ (m : Layout). AsksAll (list_parts m OffsetsAndValidity) c.elements_node.new.self c.list_leaves.new.self) c.elements_node.ensures.asks.layout
    c.in_ok-leaves.ensures.all))

pub nested::NestedReader::list_all_node-returns-clause-asks : goal.nested::NestedReader::list_all_node-returns-clause-asks
nested::NestedReader::list_all_node-returns-clause-asks t c =
    asks_more (elements_part c.args.self.now.layout)
    (offsets_part c.args.self.now.layout ∷ validity_parts (nullability_of (dtype_of c.args.self.now.layout))) c.args.self.now c.elements_node.new.self
    c.list_leaves.new.self c.elements_node.ensures.asks (subst
    (λ (m : Layout). Asks (list_parts m OffsetsAndValidity) c.elements_node.new.self c.list_leaves.new.self) c.elements_node.ensures.asks.layout
    c.list_leaves.ensures.asks)

pub nested::NestedReader::list_all_node-returns-clause-all : goal.nested::NestedReader::list_all_node-returns-clause-all
nested::NestedReader::list_all_node-returns-clause-all t c =
    on_all c.valid_all_node.result (all_more (elements_part c.args.self.now.layout)
    (offsets_part c.args.self.now.layout ∷ validity_parts (nullability_of (dtype_of c.args.self.now.layout))) c.args.self.now c.elements_node.new.self
    c.list_leaves.new.self c.elements_node.ensures.asks.layout c.in_ok-node.ensures.all
    (subst (λ (m : Layout). AsksAll (list_parts m OffsetsAndValidity) c.elements_node.new.self c.list_leaves.new.self) c.elements_node.ensures.asks.layout
    c.in_ok-leaves.ensures.all))

pub nested::NestedReader::list_all_node-all_node-requires-clause-scope : goal.nested::NestedReader::list_all_node-all_node-requires-clause-scope
nested::NestedReader::list_all_node-all_node-requires-clause-scope t c = c.requires.scope
    ∙ elements_type c.args.self.now.layout c.in_ok-node.node c.requires.list c.in_ok-node.ensures.plan NonNullable
    (ap nullability_of (never_null c.args.self.now.layout c.requires.list
    (subst (IsValidityOf c.args.self.now.layout) c.in-None.is
    (subst (λ (m : Layout). AreLeavesOf m c.in_ok-leaves.leaves) c.elements_node.ensures.asks.layout c.in_ok-leaves.ensures.leaves).validity)).1)

pub nested::NestedReader::list_all_node-all_node-requires-clause-numbers : goal.nested::NestedReader::list_all_node-all_node-requires-clause-numbers
nested::NestedReader::list_all_node-all_node-requires-clause-numbers t c = numbers c.args.self.now.layout c.in_ok-leaves.leaves.offsets c.requires.list (subst (λ (m : Layout). AreLeavesOf m c.in_ok-leaves.leaves) c.elements_node.ensures.asks.layout c.in_ok-leaves.ensures.leaves).offsets

pub nested::NestedReader::list_all_node-all_node-requires-clause-overflow : goal.nested::NestedReader::list_all_node-all_node-requires-clause-overflow
nested::NestedReader::list_all_node-all_node-requires-clause-overflow t c =
    elements_plan c.args.self.now.layout c.in_ok-node.node c.requires.list c.in_ok-node.ensures.plan c.element_count-elements.result
    (subst (λ (m : Layout). option_map rows_of (nth_kid (kids_of m) 0) ≡ Some c.element_count-elements.result)
    (c.list_leaves.ensures.asks.layout ∙ c.elements_node.ensures.asks.layout) c.element_count-elements.ensures)

pub nested::NestedReader::list_all_node-returns-in-None-clause-plan : goal.nested::NestedReader::list_all_node-returns-in-None-clause-plan
nested::NestedReader::list_all_node-returns-in-None-clause-plan t c =
    all_plan c.args.self.now.layout c.args.expr.now c.in_ok-node.node c.in_ok-leaves.leaves.offsets c.element_count-elements.result c.all_node.result
    c.requires.list c.in_ok-node.ensures.plan
    (subst (λ (m : Layout). AreLeavesOf m c.in_ok-leaves.leaves) c.elements_node.ensures.asks.layout c.in_ok-leaves.ensures.leaves).offsets
    (subst (IsValidityOf c.args.self.now.layout) c.in-None.is
    (subst (λ (m : Layout). AreLeavesOf m c.in_ok-leaves.leaves) c.elements_node.ensures.asks.layout c.in_ok-leaves.ensures.leaves).validity)
    (subst (λ (m : Layout). option_map rows_of (nth_kid (kids_of m) 0) ≡ Some c.element_count-elements.result)
    (c.list_leaves.ensures.asks.layout ∙ c.elements_node.ensures.asks.layout) c.element_count-elements.ensures) c.requires.scope c.all_node.ensures.plan

pub nested::NestedReader::list_all_node-valid_all_node-requires-clause-scope : goal.nested::NestedReader::list_all_node-valid_all_node-requires-clause-scope
nested::NestedReader::list_all_node-valid_all_node-requires-clause-scope t c = c.requires.scope
    ∙ elements_type c.args.self.now.layout c.in_ok-node.node c.requires.list c.in_ok-node.ensures.plan Nullable
    (ap nullability_of (maybe_null c.args.self.now.layout c.in-Some.validity c.requires.list
    (subst (IsValidityOf c.args.self.now.layout) c.in-Some.is
    (subst (λ (m : Layout). AreLeavesOf m c.in_ok-leaves.leaves) c.elements_node.ensures.asks.layout c.in_ok-leaves.ensures.leaves).validity)).0.1)

pub nested::NestedReader::list_all_node-valid_all_node-requires-clause-numbers : goal.nested::NestedReader::list_all_node-valid_all_node-requires-clause-numbers
nested::NestedReader::list_all_node-valid_all_node-requires-clause-numbers t c = numbers c.args.self.now.layout c.in_ok-leaves.leaves.offsets c.requires.list (subst (λ (m : Layout). AreLeavesOf m c.in_ok-leaves.leaves) c.elements_node.ensures.asks.layout c.in_ok-leaves.ensures.leaves).offsets

pub nested::NestedReader::list_all_node-valid_all_node-requires-clause-overflow : goal.nested::NestedReader::list_all_node-valid_all_node-requires-clause-overflow
nested::NestedReader::list_all_node-valid_all_node-requires-clause-overflow t c =
    elements_plan c.args.self.now.layout c.in_ok-node.node c.requires.list c.in_ok-node.ensures.plan c.element_count-elements.result
    (subst (λ (m : Layout). option_map rows_of (nth_kid (kids_of m) 0) ≡ Some c.element_count-elements.result)
    (c.list_leaves.ensures.asks.layout ∙ c.elements_node.ensures.asks.layout) c.element_count-elements.ensures)

pub nested::NestedReader::list_all_node-valid_all_node-requires-clause-validity : goal.nested::NestedReader::list_all_node-valid_all_node-requires-clause-validity
nested::NestedReader::list_all_node-valid_all_node-requires-clause-validity t c =
    (maybe_null c.args.self.now.layout c.in-Some.validity c.requires.list
    (subst (IsValidityOf c.args.self.now.layout) c.in-Some.is
    (subst (λ (m : Layout). AreLeavesOf m c.in_ok-leaves.leaves) c.elements_node.ensures.asks.layout c.in_ok-leaves.ensures.leaves).validity)).1

pub nested::NestedReader::list_all_node-returns-clause-plan : goal.nested::NestedReader::list_all_node-returns-clause-plan
nested::NestedReader::list_all_node-returns-clause-plan t c =
    valid_all_plan c.args.self.now.layout c.args.expr.now c.in_ok-node.node c.in_ok-leaves.leaves.offsets c.element_count-elements.result c.in-Some.validity
    c.valid_all_node.result c.requires.list c.in_ok-node.ensures.plan
    (subst (λ (m : Layout). AreLeavesOf m c.in_ok-leaves.leaves) c.elements_node.ensures.asks.layout c.in_ok-leaves.ensures.leaves).offsets
    (subst (IsValidityOf c.args.self.now.layout) c.in-Some.is
    (subst (λ (m : Layout). AreLeavesOf m c.in_ok-leaves.leaves) c.elements_node.ensures.asks.layout c.in_ok-leaves.ensures.leaves).validity)
    (subst (λ (m : Layout). option_map rows_of (nth_kid (kids_of m) 0) ≡ Some c.element_count-elements.result)
    (c.list_leaves.ensures.asks.layout ∙ c.elements_node.ensures.asks.layout) c.element_count-elements.ensures) c.requires.scope c.valid_all_node.ensures.plan

pub nested::NestedReader::list_node-returns-in-Validity-clause-asks : goal.nested::NestedReader::list_node-returns-in-Validity-clause-asks
nested::NestedReader::list_node-returns-in-Validity-clause-asks t c = subst (λ (k : ListChildrenNeeded). Asks (list_parts c.args.self.now.layout k) c.args.self.now c.list_nulls_node.new.self) (sym (sym c.necessary_children.ensures.exact ∙ c.in-Validity.is)) c.list_nulls_node.ensures.asks

pub nested::NestedReader::list_node-returns-in-Validity-clause-all : goal.nested::NestedReader::list_node-returns-in-Validity-clause-all
nested::NestedReader::list_node-returns-in-Validity-clause-all t c =
    subst (λ (k : ListChildrenNeeded). IfOk c.list_nulls_node.result
    (λ _. AsksAll (list_parts c.args.self.now.layout k) c.args.self.now c.list_nulls_node.new.self))
    (sym (sym c.necessary_children.ensures.exact ∙ c.in-Validity.is)) c.list_nulls_node.ensures.all

pub nested::NestedReader::list_node-returns-in-OffsetsAndValidity-clause-asks : goal.nested::NestedReader::list_node-returns-in-OffsetsAndValidity-clause-asks
nested::NestedReader::list_node-returns-in-OffsetsAndValidity-clause-asks t c =
    subst (λ (k : ListChildrenNeeded). Asks (list_parts c.args.self.now.layout k) c.args.self.now c.list_lengths_node.new.self)
    (sym (sym c.necessary_children.ensures.exact ∙ c.in-OffsetsAndValidity.is)) c.list_lengths_node.ensures.asks

pub nested::NestedReader::list_node-returns-in-OffsetsAndValidity-clause-all : goal.nested::NestedReader::list_node-returns-in-OffsetsAndValidity-clause-all
nested::NestedReader::list_node-returns-in-OffsetsAndValidity-clause-all t c =
    subst (λ (k : ListChildrenNeeded). IfOk c.list_lengths_node.result
    (λ _. AsksAll (list_parts c.args.self.now.layout k) c.args.self.now c.list_lengths_node.new.self))
    (sym (sym c.necessary_children.ensures.exact ∙ c.in-OffsetsAndValidity.is)) c.list_lengths_node.ensures.all

pub nested::NestedReader::list_node-returns-in-All-clause-asks : goal.nested::NestedReader::list_node-returns-in-All-clause-asks
nested::NestedReader::list_node-returns-in-All-clause-asks t c = subst (λ (k : ListChildrenNeeded). Asks (list_parts c.args.self.now.layout k) c.args.self.now c.list_all_node.new.self) (sym (sym c.necessary_children.ensures.exact ∙ c.in-All.is)) c.list_all_node.ensures.asks

pub nested::NestedReader::list_node-returns-in-All-clause-all : goal.nested::NestedReader::list_node-returns-in-All-clause-all
nested::NestedReader::list_node-returns-in-All-clause-all t c = subst (λ (k : ListChildrenNeeded). IfOk c.list_all_node.result
    (λ _. AsksAll (list_parts c.args.self.now.layout k) c.args.self.now c.list_all_node.new.self))
    (sym (sym c.necessary_children.ensures.exact ∙ c.in-All.is)) c.list_all_node.ensures.all

pub nested::NestedReader::list_node-list_all_node-requires : goal.nested::NestedReader::list_node-list_all_node-requires
nested::NestedReader::list_node-list_all_node-requires t c = let told = c.decreases in (omega (arith, told), (c.requires.list, (sym c.necessary_children.ensures.exact ∙ c.in-All.is, (c.requires.bound, (c.requires.scope, c.requires.rows)))))

pub nested::NestedReader::node-list_node-requires : goal.nested::NestedReader::node-list_node-requires
nested::NestedReader::node-list_node-requires t c = let told = c.decreases in (omega (arith, told), (record { form = c.layout-own.ensures.readable.form; kind = (sym c.is_list.ensures ∙ c.if-is_list.true) }, (c.requires.bound, (c.requires.scope, c.requires.rows))))

pub nested::NestedReader::node-struct_node-requires : goal.nested::NestedReader::node-struct_node-requires
nested::NestedReader::node-struct_node-requires t c = let told = c.decreases in (omega (arith, told), (struct_kind c.args.self.now.layout c.layout-own.ensures.nested (sym c.is_list.ensures ∙ c.if-is_list.false), (c.requires.scope, (c.requires.bound, c.requires.rows))))

pub nested::NestedReader::node-returns-then-is_list-clause-within : goal.nested::NestedReader::node-returns-then-is_list-clause-within
nested::NestedReader::node-returns-then-is_list-clause-within t c = list_within c.args.expr.now c.args.self.now c.list_node.new.self (sym c.is_list.ensures ∙ c.if-is_list.true) c.list_node.ensures.asks

pub nested::NestedReader::node-returns-then-is_list-clause-all : goal.nested::NestedReader::node-returns-then-is_list-clause-all
nested::NestedReader::node-returns-then-is_list-clause-all t c = list_all c.args.expr.now c.args.self.now c.list_node.new.self c.list_node.result (sym c.is_list.ensures ∙ c.if-is_list.true) c.list_node.ensures.all
