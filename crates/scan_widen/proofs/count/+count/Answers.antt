use Rattle.std.proofs.Common.{rules, arith, ◌≡◌, ◌+◌, ◌∙◌, sym, ap, length, Some, None}
use Rattle.scan_values.specs.DataType.{fields_of}
use Rattle.scan_layout.specs.Layout.{Layout, dtype_of, rows_of, kids_of, kind_of as node_kind}
use Rattle.scan_widen.specs.Blanks.{blank_behind}
use Rattle.scan_widen.specs.Under.{behind, fields_behind, validity_behind, field_kid, segments_of, kid_at, fields_in, read_or}
use Rattle.scan_widen.specs.Counts.{capped}
use Rattle.scan_widen.proofs.Fitting.{element_smaller, fields_smaller, field_smaller, pass_at}
use Rattle.scan_widen.proofs.RowsAll.{scalar_from}
use Rattle.scan_widen.proofs.Counting.{bool_scalar, int_scalar, text_scalar, leaf_counted, list_counted, struct_counted, fields_step}
use Rattle.scan_widen.proofs.count.+count.Goals as goal

pub count_node-count_leaf-requires-clause-scalar : goal.count_node-count_leaf-requires-clause-scalar
count_node-count_leaf-requires-clause-scalar t c = scalar_from (dtype_of c.args.node.now) c.args.dtype.now (bool_scalar c.args.dtype.now (sym c.in-Bool.ensures)) c.requires.fits

pub count_node-count_leaf-requires-in-Primitive-clause-scalar : goal.count_node-count_leaf-requires-in-Primitive-clause-scalar
count_node-count_leaf-requires-in-Primitive-clause-scalar t c =
    scalar_from (dtype_of c.args.node.now) c.args.dtype.now (int_scalar c.args.dtype.now c.in-Primitive.field-0 (sym c.in-Primitive.ensures)) c.requires.fits

pub count_node-count_leaf-requires-in-Utf8-clause-scalar : goal.count_node-count_leaf-requires-in-Utf8-clause-scalar
count_node-count_leaf-requires-in-Utf8-clause-scalar t c = scalar_from (dtype_of c.args.node.now) c.args.dtype.now (text_scalar c.args.dtype.now (sym c.in-Utf8.ensures)) c.requires.fits

pub count_node-returns-in-Bool-clause-count : goal.count_node-returns-in-Bool-clause-count
count_node-returns-in-Bool-clause-count t c = leaf_counted c.args.dtype.now c.args.node.now c.count_leaf.result (bool_scalar c.args.dtype.now (sym c.in-Bool.ensures)) c.count_leaf.ensures.count

pub count_node-returns-in-Primitive-clause-count : goal.count_node-returns-in-Primitive-clause-count
count_node-returns-in-Primitive-clause-count t c =
    leaf_counted c.args.dtype.now c.args.node.now c.count_leaf-in-Primitive.result (int_scalar c.args.dtype.now c.in-Primitive.field-0 (sym c.in-Primitive.ensures)) c.count_leaf-in-Primitive.ensures.count

pub count_node-returns-in-Utf8-clause-count : goal.count_node-returns-in-Utf8-clause-count
count_node-returns-in-Utf8-clause-count t c = leaf_counted c.args.dtype.now c.args.node.now c.count_leaf-in-Utf8.result (text_scalar c.args.dtype.now (sym c.in-Utf8.ensures)) c.count_leaf-in-Utf8.ensures.count

pub count_list-count_node-elements-requires : goal.count_list-count_node-elements-requires
count_list-count_node-elements-requires t c =
    let small = element_smaller c.args.dtype.now c.list_parts-parts.result.element.now (sym c.list_parts-parts.ensures.dtype) in
    search (rules, small)

pub count_list-returns-clause-count : goal.count_list-returns-clause-count
count_list-returns-clause-count t c =
    let l = c.args.node.now in
    let parts = c.list_parts-parts in
    let elements = c.count_node-elements.ensures.count ∙ ap (λ k. capped (length (behind parts.result.element.now k))) parts.ensures.elements in
    let offsets = c.count_leaf-offsets.ensures.count ∙ ap (λ k. capped (length (segments_of (node_kind k)))) parts.ensures.offsets in
    let validity = c.count_validity-validity.ensures.count ∙ ap (λ n. capped (length (validity_behind n l (kid_at (kids_of l) 2)))) c.nullability.ensures in
    list_counted c.args.dtype.now parts.result.element.now l c.count_node-elements.result c.count_leaf-offsets.result c.count_validity-validity.result c.sum.result c.sum-2.result
    parts.ensures.dtype elements offsets validity c.sum.ensures.sum c.sum-2.ensures.sum

pub count_struct-count_fields-requires : goal.count_struct-count_fields-requires
count_struct-count_fields-requires t c =
    let small = fields_smaller c.args.dtype.now (fields_of c.wanted_fields-fields.result.now) (sym c.wanted_fields-fields.ensures.dtype) in
    search (rules, small)

pub count_struct-returns-clause-count : goal.count_struct-returns-clause-count
count_struct-returns-clause-count t c =
    let l = c.args.node.now in
    let validity = c.count_validity-validity.ensures.count ∙ ap (λ n. capped (length (validity_behind n l (kid_at (kids_of l) 0)))) c.nullability.ensures in
    struct_counted c.args.dtype.now (fields_of c.wanted_fields-fields.result.now) l c.count_validity-validity.result c.count_fields.result c.wanted_fields-fields.ensures.dtype validity c.count_fields.ensures.count

pub count_fields-count_field-requires : goal.count_fields-count_field-requires
count_fields-count_field-requires t c =
    let pass = pass_at (fields_in (dtype_of c.args.node.now)) c.args.fields.now c.names-names.result.now c.loop-i.i c.index-names-i.result c.in-Some.dtype.now
    c.names-names.ensures c.loop-i-test.true c.index-names-i.is c.in-Some.ensures c.requires.fits in
    let small = field_smaller c.args.fields.now c.loop-i.i c.in-Some.dtype.now c.in-Some.ensures in
    search (rules, pass, small)

pub count_fields-loop-i-preserved : goal.count_fields-loop-i-preserved
count_fields-loop-i-preserved t c = (
  fields_step c.args.fields.now c.names-names.result.now c.loop-i.i c.index-names-i.result c.in-Some.dtype.now c.args.node.now c.loop-i.total c.count_field.result c.sum-total.result
      (capped (c.args.count + length (fields_behind (fields_of c.args.fields.now) c.args.node.now)))
      c.names-names.ensures c.loop-i-test.true c.index-names-i.is c.in-Some.ensures c.sum-total.ensures.sum c.count_field.ensures.count c.loop-i.invariant.0,
  c.sum-total.ensures.most,
)

pub count_field-count_node-requires : goal.count_field-count_node-requires
count_field-count_node-requires t c =
    let form = c.in-Some.ensures.good.form in
    let fits = c.in-Some.ensures.good.fits in
    search (rules, form, fits)

pub count_field-returns-in-Some-clause-count : goal.count_field-returns-in-Some-clause-count
count_field-returns-in-Some-clause-count t c =
    c.count_node.ensures.count
    ∙ ap (λ o. capped (length (read_or (blank_behind c.args.dtype.now (rows_of c.args.node.now)) (λ kid. behind c.args.dtype.now kid) o))) c.in-Some.ensures.is

pub count_field-returns-in-None-clause-count : goal.count_field-returns-in-None-clause-count
count_field-returns-in-None-clause-count t c =
    c.count_blank.ensures.count ∙ ap (λ r. capped (length (blank_behind c.args.dtype.now r))) c.row_count.ensures
    ∙ ap (λ o. capped (length (read_or (blank_behind c.args.dtype.now (rows_of c.args.node.now)) (λ kid. behind c.args.dtype.now kid) o))) c.in-None.ensures.is
