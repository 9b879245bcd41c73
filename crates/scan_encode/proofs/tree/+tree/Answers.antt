use Rattle.std.proofs.Common.{◌≡◌, ◌+◌, map, length, refl, rules, sym, arith, add-one}
use Rattle.scan_values.specs.DataType.{fields_of, nullability_of}
use Rattle.scan_layout.specs.LayoutView.{layouts_of}
use Rattle.scan_encode.specs.Rows.{field_at, all_elements}
use Rattle.scan_encode.specs.RowsIn.{rows_in}
use Rattle.scan_encode.proofs.Falling.{field_falls, fields_fall, element_falls}
use Rattle.scan_encode.proofs.Fields.{none_so_far, next_so_far, all_so_far, struct_made, list_made, layouts_push, lent_fit, lent_of, lent_length}
use Rattle.scan_encode.proofs.Having.{has_same, has_then}
use Rattle.scan_encode.proofs.RowsOf.{of_fields, of_elements, scalar_of}
use Rattle.scan_encode.proofs.tree.+tree.Goals as goal

-- ---- structs
pub push_structs-push_fields-requires : goal.push_structs-push_fields-requires
push_structs-push_fields-requires t c =
    let small = fields_fall c.args.dtype.now (fields_of c.args.fields.now) c.requires.fields in
    let valid = c.in_ok-valid.ensures.valid in
    search (rules, small, valid)

pub push_structs-returns-in_err-children-clause-has : goal.push_structs-returns-in_err-children-clause-has
push_structs-returns-in_err-children-clause-has t c = has_then c.args.segments.now c.push_validity.new.segments c.push_fields.new.segments c.push_validity.ensures.has c.push_fields.ensures.has

pub push_structs-returns-in_err-node_of-clause-has : goal.push_structs-returns-in_err-node_of-clause-has
push_structs-returns-in_err-node_of-clause-has t c = has_then c.args.segments.now c.push_validity.new.segments c.push_fields.new.segments c.push_validity.ensures.has c.push_fields.ensures.has

pub push_structs-returns-clause-has : goal.push_structs-returns-clause-has
push_structs-returns-clause-has t c = has_then c.args.segments.now c.push_validity.new.segments c.push_fields.new.segments c.push_validity.ensures.has c.push_fields.ensures.has

pub push_structs-returns-clause-tree : goal.push_structs-returns-clause-tree
push_structs-returns-clause-tree t c =
    struct_made c.args.dtype.now (fields_of c.args.fields.now) (rows_in c.args.rows.now) c.push_fields.new.segments (layouts_of c.in_ok-children.children.items) (length c.args.rows.now)
    c.in_ok-node_of.field-0.value c.requires.fields c.requires.fit c.in_ok-children.ensures.children
    (sym (lent_length c.args.rows.now (rows_in c.args.rows.now) refl)) c.in_ok-node_of.ensures

-- ---- fields
pub push_fields-loop-i-init : goal.push_fields-loop-i-init
push_fields-loop-i-init t c = record {
  children = none_so_far (nullability_of c.args.dtype.now) c.args.fields.now (rows_in c.args.rows.now) c.args.segments.now (layouts_of c.args.children.items) c.requires.valid;
  has = has_same c.args.segments.now;
}

pub push_fields-push_tree-requires : goal.push_fields-push_tree-requires
push_fields-push_tree-requires t c =
    let small = field_falls c.args.fields.now c.loop-i.i c.field_of-field.result.now c.field_of-field.ensures in
    let same : rows_in c.as_slice.result.now ≡ map (field_at c.loop-i.i) (rows_in c.args.rows.now) = search rules in
    let fit = lent_fit c.field_of-field.result.now c.as_slice.result.now (map (field_at c.loop-i.i) (rows_in c.args.rows.now)) same
    (of_fields c.args.dtype.now c.args.fields.now c.loop-i.i c.field_of-field.result.now (rows_in c.args.rows.now) c.requires.fields c.field_of-field.ensures c.requires.fit) in
    (omega (arith, small), fit)

pub push_fields-returns-in_err-child-clause-has : goal.push_fields-returns-in_err-child-clause-has
push_fields-returns-in_err-child-clause-has t c = has_then c.args.segments.now c.loop-i.segments c.push_tree.new.segments c.loop-i.invariant.has c.push_tree.ensures.has

pub push_fields-returns-in_err-push-clause-has : goal.push_fields-returns-in_err-push-clause-has
push_fields-returns-in_err-push-clause-has t c = has_then c.args.segments.now c.loop-i.segments c.push_tree.new.segments c.loop-i.invariant.has c.push_tree.ensures.has

pub push_fields-loop-i-preserved : goal.push_fields-loop-i-preserved
push_fields-loop-i-preserved t c =
    let i = c.loop-i.i in
    let same : rows_in c.as_slice.result.now ≡ map (field_at c.loop-i.i) (rows_in c.args.rows.now) = search rules in
    let of = lent_of c.field_of-field.result.now c.as_slice.result.now (map (field_at i) (rows_in c.args.rows.now)) c.push_tree.new.segments c.in_ok-child.child.value same c.in_ok-child.ensures.tree in
    record {
      children = next_so_far (nullability_of c.args.dtype.now) c.args.fields.now i (i + 1) c.field_of-field.result.now (rows_in c.args.rows.now) c.loop-i.segments c.push_tree.new.segments
          c.in_ok-child.child.value (layouts_of c.loop-i.made.items) (layouts_of c.push.new.self.items) (add-one i) c.field_of-field.ensures
          (layouts_push c.loop-i.made.items c.push.new.self.items c.in_ok-child.child c.in_ok-push.ensures.items) c.push_tree.ensures.has of c.loop-i.invariant.children;
      has = has_then c.args.segments.now c.loop-i.segments c.push_tree.new.segments c.loop-i.invariant.has c.push_tree.ensures.has;
    }

pub push_fields-returns-clause-children : goal.push_fields-returns-clause-children
push_fields-returns-clause-children t c =
    all_so_far (nullability_of c.args.dtype.now) c.args.fields.now c.loop-i.i (rows_in c.args.rows.now) c.loop-i.segments (layouts_of c.loop-i.made.items)
    (omega (arith, c.nfields-i-end.ensures, c.loop-i-test.false)) c.loop-i.invariant.children

-- ---- lists, and scalars
pub push_items-push_leaf-requires-clause-scalar : goal.push_items-push_leaf-requires-clause-scalar
push_items-push_leaf-requires-clause-scalar t c = scalar_of c.args.dtype.now c.requires.none (sym c.in-None.ensures)

pub push_lists-push_offsets-requires : goal.push_lists-push_offsets-requires
push_lists-push_offsets-requires t c =
    let same : rows_in c.as_slice-lent.result.now ≡ all_elements (rows_in c.args.rows.now) = search rules in
    lent_length c.as_slice-lent.result.now (all_elements (rows_in c.args.rows.now)) same

pub push_lists-push_tree-requires : goal.push_lists-push_tree-requires
push_lists-push_tree-requires t c =
    let small = element_falls c.args.dtype.now c.args.element.now c.requires.element in
    let same : rows_in c.as_slice-lent.result.now ≡ all_elements (rows_in c.args.rows.now) = search rules in
    let fit = lent_fit c.args.element.now c.as_slice-lent.result.now (all_elements (rows_in c.args.rows.now)) same
    (of_elements c.args.dtype.now c.args.element.now (rows_in c.args.rows.now) c.requires.element c.requires.fit) in
    (omega (arith, small), fit)

pub push_lists-returns-in_err-validity-clause-has : goal.push_lists-returns-in_err-validity-clause-has
push_lists-returns-in_err-validity-clause-has t c = has_then c.args.segments.now c.push_offsets.new.segments c.push_validity.new.segments c.push_offsets.ensures.has c.push_validity.ensures.has

pub push_lists-returns-in_err-elements-clause-has : goal.push_lists-returns-in_err-elements-clause-has
push_lists-returns-in_err-elements-clause-has t c =
    has_then c.args.segments.now c.push_validity.new.segments c.push_tree.new.segments
    (has_then c.args.segments.now c.push_offsets.new.segments c.push_validity.new.segments c.push_offsets.ensures.has c.push_validity.ensures.has) c.push_tree.ensures.has

pub push_lists-returns-in_err-values-clause-has : goal.push_lists-returns-in_err-values-clause-has
push_lists-returns-in_err-values-clause-has t c = has_same c.args.segments.now

pub push_lists-returns-in_err-children-clause-has : goal.push_lists-returns-in_err-children-clause-has
push_lists-returns-in_err-children-clause-has t c =
    has_then c.args.segments.now c.push_validity.new.segments c.push_tree.new.segments
    (has_then c.args.segments.now c.push_offsets.new.segments c.push_validity.new.segments c.push_offsets.ensures.has c.push_validity.ensures.has) c.push_tree.ensures.has

pub push_lists-returns-in_err-node_of-clause-has : goal.push_lists-returns-in_err-node_of-clause-has
push_lists-returns-in_err-node_of-clause-has t c =
    has_then c.args.segments.now c.push_validity.new.segments c.push_tree.new.segments
    (has_then c.args.segments.now c.push_offsets.new.segments c.push_validity.new.segments c.push_offsets.ensures.has c.push_validity.ensures.has) c.push_tree.ensures.has

pub push_lists-returns-clause-has : goal.push_lists-returns-clause-has
push_lists-returns-clause-has t c =
    has_then c.args.segments.now c.push_validity.new.segments c.push_tree.new.segments
    (has_then c.args.segments.now c.push_offsets.new.segments c.push_validity.new.segments c.push_offsets.ensures.has c.push_validity.ensures.has) c.push_tree.ensures.has

pub push_lists-returns-clause-tree : goal.push_lists-returns-clause-tree
push_lists-returns-clause-tree t c =
    let rows = rows_in c.args.rows.now in
    let same : rows_in c.as_slice-lent.result.now ≡ all_elements (rows_in c.args.rows.now) = search rules in
    let of = lent_of c.args.element.now c.as_slice-lent.result.now (all_elements (rows_in c.args.rows.now)) c.push_tree.new.segments c.in_ok-elements.elements.value same c.in_ok-elements.ensures.tree in
    list_made c.args.dtype.now c.args.element.now rows c.push_offsets.new.segments c.push_validity.new.segments c.push_tree.new.segments c.in_ok-elements.elements.value c.in_ok-offsets.offsets.value
    (layouts_of c.in_ok-validity.validity.items) (layouts_of c.in_ok-children.children.items) (length c.args.rows.now) c.in_ok-node_of.field-0.value c.requires.element c.requires.fit of
    c.in_ok-offsets.ensures.leaf c.in_ok-validity.ensures.valid c.push_validity.ensures.has c.push_tree.ensures.has c.in_ok-children.ensures
    (sym (lent_length c.args.rows.now rows refl)) c.in_ok-node_of.ensures
