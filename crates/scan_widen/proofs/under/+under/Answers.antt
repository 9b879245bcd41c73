use Rattle.std.proofs.Common.{rules, ◌≡◌, ◌+◌, ◌≤◌, ◌<◌, ◌++◌, ◌∙◌, ℕ, List, sym, ap, length, drop, arith}
use Rattle.scan_values.specs.DataType.{fields_of, nullability_of}
use Rattle.scan_layout.specs.Layout.{Layout, dtype_of, rows_of, kids_of}
use Rattle.scan_layout.specs.LayoutView.{layouts_of}
use Rattle.scan_widen.specs.Blanks.{blank_under, blank_behind}
use Rattle.scan_widen.specs.Under.{under, behind, leaf_under, leaf_behind, fields_behind, field_behind, field_under, field_layouts, validity_behind, validity_layouts, kid_at, fields_in, read_or}
use Rattle.scan_widen.proofs.Fitting.{element_smaller, fields_smaller, field_smaller, pass_at, fields_short, fields_past}
use Rattle.scan_widen.proofs.RowsAll.{scalar_from}
use Rattle.scan_widen.proofs.Forming.{rows_countable}
use Rattle.scan_widen.proofs.Counting.{bool_scalar, int_scalar, text_scalar, behind_scalar, list_behind, struct_behind, fields_behind_at}
use Rattle.scan_widen.proofs.Building.{ok_as, on_as, on_behind, two_kids, more_kids, made_step, made_end, kids_step, kids_end, layouts_push}
use Rattle.scan_widen.proofs.Building.{under_scalar, list_whole, struct_whole, three_parts, two_parts, longer_by, fields_kids}
use Rattle.scan_widen.proofs.under.+under.Goals as goal

pub field_under-returns-in-Some-clause-layout : goal.field_under-returns-in-Some-clause-layout
field_under-returns-in-Some-clause-layout t c =
    let k = length c.args.made.now.items in
    let d = c.args.dtype.now in
    ok_as c.node_under.result _ _ (ap (λ o. read_or (blank_under k d (rows_of c.args.node.now)) (λ kid. under k d kid) o) c.in-Some.ensures.is) c.node_under.ensures.layout

pub field_under-returns-in-Some-clause-behind : goal.field_under-returns-in-Some-clause-behind
field_under-returns-in-Some-clause-behind t c =
    let d = c.args.dtype.now in
    on_as c.node_under.result c.node_under.new.made.items c.args.made.now.items _ _ (ap (λ o. read_or (blank_behind d (rows_of c.args.node.now)) (λ kid. behind d kid) o) c.in-Some.ensures.is) c.node_under.ensures.behind

pub field_under-returns-in-None-clause-layout : goal.field_under-returns-in-None-clause-layout
field_under-returns-in-None-clause-layout t c =
    let k = length c.args.made.now.items in
    let d = c.args.dtype.now in
    let rows = ap (λ r. blank_under k d r) c.row_count.ensures in
    ok_as c.blank_under.result _ _ (rows ∙ ap (λ o. read_or (blank_under k d (rows_of c.args.node.now)) (λ kid. under k d kid) o) c.in-None.ensures.is) c.blank_under.ensures.layout

pub field_under-returns-in-None-clause-behind : goal.field_under-returns-in-None-clause-behind
field_under-returns-in-None-clause-behind t c =
    let d = c.args.dtype.now in
    let rows = ap (λ r. blank_behind d r) c.row_count.ensures in
    on_as c.blank_under.result c.blank_under.new.made.items c.args.made.now.items _ _ (rows ∙ ap (λ o. read_or (blank_behind d (rows_of c.args.node.now)) (λ kid. behind d kid) o) c.in-None.ensures.is) c.blank_under.ensures.behind

pub field_under-node_under-requires : goal.field_under-node_under-requires
field_under-node_under-requires t c =
    let form = c.in-Some.ensures.good.form in
    let fits = c.in-Some.ensures.good.fits in
    let countable = c.in-Some.ensures.good.countable c.requires.countable in
    search (rules, form, fits, countable)

pub field_under-blank_under-requires : goal.field_under-blank_under-requires
field_under-blank_under-requires t c =
    let few = rows_countable c.args.node.now c.requires.form c.requires.record c.requires.countable in
    omega (arith, few, c.row_count.ensures)

pub list_under-node_under-requires : goal.list_under-node_under-requires
list_under-node_under-requires t c =
    let small = element_smaller c.args.dtype.now c.list_parts-parts.result.element.now (sym c.list_parts-parts.ensures.dtype) in
    let countable = c.list_parts-parts.ensures.countable c.requires.countable in
    search (rules, small, countable)

pub list_under-returns-clause-layout : goal.list_under-returns-clause-layout
list_under-returns-clause-layout t c =
    let old = c.args.made.now.items in
    let k = length old in
    let l = c.args.node.now in
    let parts = c.list_parts-parts in
    let e = parts.result.element.now in
    let a = kid_at (kids_of l) 0 in
    let o = kid_at (kids_of l) 1 in
    let v = kid_at (kids_of l) 2 in
    let one = c.node_under.new.made.items in
    let two = c.leaf_under.new.made.items in
    let last = c.in_ok-push_validity.ensures.layout ∙ ap (λ n. layouts_of c.push-2.new.self.items ++ validity_layouts (length two) n l v) c.nullability.ensures in
    let elements = c.in_ok-elements.ensures.layout ∙ ap (λ x. under k e x) parts.ensures.elements in
    let offsets = c.in_ok-offsets.ensures.layout ∙ ap (λ d. leaf_under (length one) d parts.result.offsets.now) c.dtype.ensures ∙ ap (λ x. leaf_under (length one) (dtype_of x) x) parts.ensures.offsets in
    let kids = two_kids c.in_ok-children.children.items c.push.new.self.items c.push-2.new.self.items c.in_ok-elements.elements c.in_ok-offsets.offsets (under k e a) (leaf_under (length one) (dtype_of o) o)
    (layouts_of c.push_validity.new.children.items) (validity_layouts (length two) (nullability_of c.args.dtype.now) l v)
    c.in_ok-children.ensures.items c.in_ok-push.ensures.items c.in_ok-push-2.ensures.items elements offsets last in
    let first = longer_by old one (behind e a) (c.in_ok-elements.ensures.behind ∙ ap (λ x. old ++ behind e x) parts.ensures.elements) in
    let second = longer_by one two (leaf_behind (dtype_of o) o)
    (c.in_ok-offsets.ensures.behind ∙ ap (λ d. one ++ leaf_behind d parts.result.offsets.now) c.dtype.ensures ∙ ap (λ x. one ++ leaf_behind (dtype_of x) x) parts.ensures.offsets) in
    ok_as c.node_of.result _ _ (list_whole k (length one) (length two) c.args.dtype.now e parts.result.offsets_type l c.row_count.result (layouts_of c.push_validity.new.children.items)
    parts.ensures.dtype parts.ensures.kind c.row_count.ensures first second kids) c.node_of.ensures

pub list_under-returns-clause-behind : goal.list_under-returns-clause-behind
list_under-returns-clause-behind t c =
    let old = c.args.made.now.items in
    let l = c.args.node.now in
    let parts = c.list_parts-parts in
    let e = parts.result.element.now in
    let a = kid_at (kids_of l) 0 in
    let o = kid_at (kids_of l) 1 in
    let v = kid_at (kids_of l) 2 in
    let one = c.node_under.new.made.items in
    let two = c.leaf_under.new.made.items in
    let validity = validity_behind (nullability_of c.args.dtype.now) l v in
    let first = c.in_ok-elements.ensures.behind ∙ ap (λ x. old ++ behind e x) parts.ensures.elements in
    let second = c.in_ok-offsets.ensures.behind ∙ ap (λ d. one ++ leaf_behind d parts.result.offsets.now) c.dtype.ensures ∙ ap (λ x. one ++ leaf_behind (dtype_of x) x) parts.ensures.offsets in
    let third = c.in_ok-push_validity.ensures.behind ∙ ap (λ n. two ++ validity_behind n l v) c.nullability.ensures in
    let all = three_parts old (behind e a) (leaf_behind (dtype_of o) o) validity one two c.push_validity.new.made.items first second third in
    on_behind c.node_of.result c.push_validity.new.made.items old (behind e a ++ (leaf_behind (dtype_of o) o ++ validity)) (behind c.args.dtype.now l) all (sym (list_behind c.args.dtype.now e l parts.ensures.dtype))

pub struct_under-push_fields-requires : goal.struct_under-push_fields-requires
struct_under-push_fields-requires t c =
    let small = fields_smaller c.args.dtype.now (fields_of c.wanted_fields-fields.result.now) (sym c.wanted_fields-fields.ensures.dtype) in
    search (rules, small)

pub struct_under-returns-clause-layout : goal.struct_under-returns-clause-layout
struct_under-returns-clause-layout t c =
    let old = c.args.made.now.items in
    let one = c.push_validity.new.made.items in
    let l = c.args.node.now in
    let v = kid_at (kids_of l) 0 in
    let gs = fields_of c.wanted_fields-fields.result.now in
    let n = nullability_of c.args.dtype.now in
    let first = c.in_ok-push_validity.ensures.layout ∙ ap (λ m. layouts_of c.new-children.result.items ++ validity_layouts (length old) m l v) c.nullability.ensures in
    let kids = more_kids c.new-children.result.items (layouts_of c.push_validity.new.children.items) (layouts_of c.push_fields.new.children.items) (validity_layouts (length old) n l v) (field_layouts (length one) gs l)
    c.new-children.ensures.items first c.in_ok-push_fields.ensures.layout in
    let long = longer_by old one (validity_behind n l v) (c.in_ok-push_validity.ensures.behind ∙ ap (λ m. old ++ validity_behind m l v) c.nullability.ensures) in
    ok_as c.node_of.result _ _ (struct_whole (length old) (length one) c.args.dtype.now gs l c.row_count.result (layouts_of c.push_fields.new.children.items) c.wanted_fields-fields.ensures.dtype c.row_count.ensures long kids) c.node_of.ensures

pub struct_under-returns-clause-behind : goal.struct_under-returns-clause-behind
struct_under-returns-clause-behind t c =
    let old = c.args.made.now.items in
    let one = c.push_validity.new.made.items in
    let l = c.args.node.now in
    let v = kid_at (kids_of l) 0 in
    let gs = fields_of c.wanted_fields-fields.result.now in
    let validity = validity_behind (nullability_of c.args.dtype.now) l v in
    let first = c.in_ok-push_validity.ensures.behind ∙ ap (λ m. old ++ validity_behind m l v) c.nullability.ensures in
    let all = two_parts old validity (fields_behind gs l) one c.push_fields.new.made.items first c.in_ok-push_fields.ensures.behind in
    on_behind c.node_of.result c.push_fields.new.made.items old (validity ++ fields_behind gs l) (behind c.args.dtype.now l) all (sym (struct_behind c.args.dtype.now gs l c.wanted_fields-fields.ensures.dtype))

pub node_under-returns-in-Bool-clause-layout : goal.node_under-returns-in-Bool-clause-layout
node_under-returns-in-Bool-clause-layout t c =
    ok_as c.leaf_under.result _ _ (under_scalar (length c.args.made.now.items) c.args.dtype.now c.args.node.now (bool_scalar c.args.dtype.now (sym c.in-Bool.ensures))) c.leaf_under.ensures.layout

pub node_under-returns-in-Bool-clause-behind : goal.node_under-returns-in-Bool-clause-behind
node_under-returns-in-Bool-clause-behind t c =
    on_as c.leaf_under.result c.leaf_under.new.made.items c.args.made.now.items _ _ (sym (behind_scalar c.args.dtype.now c.args.node.now (bool_scalar c.args.dtype.now (sym c.in-Bool.ensures)))) c.leaf_under.ensures.behind

pub node_under-leaf_under-requires-clause-scalar : goal.node_under-leaf_under-requires-clause-scalar
node_under-leaf_under-requires-clause-scalar t c = bool_scalar c.args.dtype.now (sym c.in-Bool.ensures)

pub node_under-leaf_under-requires-clause-own : goal.node_under-leaf_under-requires-clause-own
node_under-leaf_under-requires-clause-own t c = scalar_from (dtype_of c.args.node.now) c.args.dtype.now (bool_scalar c.args.dtype.now (sym c.in-Bool.ensures)) c.requires.fits

pub node_under-returns-in-Primitive-clause-layout : goal.node_under-returns-in-Primitive-clause-layout
node_under-returns-in-Primitive-clause-layout t c =
    ok_as c.leaf_under-in-Primitive.result _ _ (under_scalar (length c.args.made.now.items) c.args.dtype.now c.args.node.now (int_scalar c.args.dtype.now c.in-Primitive.field-0 (sym c.in-Primitive.ensures))) c.leaf_under-in-Primitive.ensures.layout

pub node_under-returns-in-Primitive-clause-behind : goal.node_under-returns-in-Primitive-clause-behind
node_under-returns-in-Primitive-clause-behind t c =
    on_as c.leaf_under-in-Primitive.result c.leaf_under-in-Primitive.new.made.items c.args.made.now.items _ _ (sym (behind_scalar c.args.dtype.now c.args.node.now (int_scalar c.args.dtype.now c.in-Primitive.field-0 (sym c.in-Primitive.ensures)))) c.leaf_under-in-Primitive.ensures.behind

pub node_under-leaf_under-requires-in-Primitive-clause-scalar : goal.node_under-leaf_under-requires-in-Primitive-clause-scalar
node_under-leaf_under-requires-in-Primitive-clause-scalar t c = int_scalar c.args.dtype.now c.in-Primitive.field-0 (sym c.in-Primitive.ensures)

pub node_under-leaf_under-requires-in-Primitive-clause-own : goal.node_under-leaf_under-requires-in-Primitive-clause-own
node_under-leaf_under-requires-in-Primitive-clause-own t c = scalar_from (dtype_of c.args.node.now) c.args.dtype.now (int_scalar c.args.dtype.now c.in-Primitive.field-0 (sym c.in-Primitive.ensures)) c.requires.fits

pub node_under-returns-in-Utf8-clause-layout : goal.node_under-returns-in-Utf8-clause-layout
node_under-returns-in-Utf8-clause-layout t c =
    ok_as c.leaf_under-in-Utf8.result _ _ (under_scalar (length c.args.made.now.items) c.args.dtype.now c.args.node.now (text_scalar c.args.dtype.now (sym c.in-Utf8.ensures))) c.leaf_under-in-Utf8.ensures.layout

pub node_under-returns-in-Utf8-clause-behind : goal.node_under-returns-in-Utf8-clause-behind
node_under-returns-in-Utf8-clause-behind t c =
    on_as c.leaf_under-in-Utf8.result c.leaf_under-in-Utf8.new.made.items c.args.made.now.items _ _ (sym (behind_scalar c.args.dtype.now c.args.node.now (text_scalar c.args.dtype.now (sym c.in-Utf8.ensures)))) c.leaf_under-in-Utf8.ensures.behind

pub node_under-leaf_under-requires-in-Utf8-clause-scalar : goal.node_under-leaf_under-requires-in-Utf8-clause-scalar
node_under-leaf_under-requires-in-Utf8-clause-scalar t c = text_scalar c.args.dtype.now (sym c.in-Utf8.ensures)

pub node_under-leaf_under-requires-in-Utf8-clause-own : goal.node_under-leaf_under-requires-in-Utf8-clause-own
node_under-leaf_under-requires-in-Utf8-clause-own t c = scalar_from (dtype_of c.args.node.now) c.args.dtype.now (text_scalar c.args.dtype.now (sym c.in-Utf8.ensures)) c.requires.fits

pub push_fields-field_under-requires : goal.push_fields-field_under-requires
push_fields-field_under-requires t c =
    let pass = pass_at (fields_in (dtype_of c.args.node.now)) c.args.fields.now c.names-names.result.now c.loop-i.i c.index-names-i.result c.in-Some.dtype.now
    c.names-names.ensures c.loop-i-test.true c.index-names-i.is c.in-Some.ensures c.requires.fits in
    let small = field_smaller c.args.fields.now c.loop-i.i c.in-Some.dtype.now c.in-Some.ensures in
    search (rules, pass, small)

pub push_fields-loop-i-preserved : goal.push_fields-loop-i-preserved
push_fields-loop-i-preserved t c =
    let xs = c.args.fields.now in
    let ns = c.names-names.result.now in
    let i = c.loop-i.i in
    let n = c.index-names-i.result in
    let d = c.in-Some.dtype.now in
    let l = c.args.node.now in
    let made = c.loop-i.made.items in
    let now = c.field_under.new.made.items in
    let rest : ℕ → List Layout = λ k. field_layouts k (fields_of (drop i xs)) l in
    let later : ℕ → List Layout = λ k. field_layouts k (fields_of (drop (i + 1) xs)) l in
    let child = field_under (length made) n d l in
    let pushed = layouts_push c.loop-i.children.items c.push.new.self.items c.in_ok-field-in-Some.field child c.in_ok-push-in-Some.ensures.items c.in_ok-field-in-Some.ensures.layout in (
      kids_step (layouts_of c.loop-i.children.items) (layouts_of c.push.new.self.items) child made now (field_behind n d l) rest later
          (layouts_of c.args.children.now.items ++ field_layouts (length c.args.made.now.items) (fields_of xs) l)
          pushed c.in_ok-field-in-Some.ensures.behind (fields_kids xs ns i (length made) n d l c.names-names.ensures c.loop-i-test.true c.index-names-i.is c.in-Some.ensures) c.loop-i.invariant.0,
      made_step made now (field_behind n d l) (fields_behind (fields_of (drop i xs)) l) (fields_behind (fields_of (drop (i + 1) xs)) l) (c.args.made.now.items ++ fields_behind (fields_of xs) l)
          c.in_ok-field-in-Some.ensures.behind (fields_behind_at xs ns i n d l c.names-names.ensures c.loop-i-test.true c.index-names-i.is c.in-Some.ensures) c.loop-i.invariant.1,
    )

pub push_fields-returns-in-None-clause-layout : goal.push_fields-returns-in-None-clause-layout
push_fields-returns-in-None-clause-layout t c =
    kids_end (layouts_of c.loop-i.children.items) _ _ (ap (λ f. field_layouts (length c.loop-i.made.items) f c.args.node.now) (fields_short c.args.fields.now c.loop-i.i c.in-None.ensures)) c.loop-i.invariant.0

pub push_fields-returns-in-None-clause-behind : goal.push_fields-returns-in-None-clause-behind
push_fields-returns-in-None-clause-behind t c =
    made_end c.loop-i.made.items _ _ (ap (λ f. fields_behind f c.args.node.now) (fields_short c.args.fields.now c.loop-i.i c.in-None.ensures)) c.loop-i.invariant.1

pub push_fields-returns-clause-layout : goal.push_fields-returns-clause-layout
push_fields-returns-clause-layout t c =
    let end = fields_past c.args.fields.now c.names-names.result.now c.loop-i.i c.names-names.ensures c.loop-i-test.false in
    kids_end (layouts_of c.loop-i.children.items) _ _ (ap (λ f. field_layouts (length c.loop-i.made.items) f c.args.node.now) end) c.loop-i.invariant.0

pub push_fields-returns-clause-behind : goal.push_fields-returns-clause-behind
push_fields-returns-clause-behind t c =
    let end = fields_past c.args.fields.now c.names-names.result.now c.loop-i.i c.names-names.ensures c.loop-i-test.false in
    made_end c.loop-i.made.items _ _ (ap (λ f. fields_behind f c.args.node.now) end) c.loop-i.invariant.1
