use Rattle.std.proofs.Common.{◌≡◌, ◌+◌, ◌≤◌, ◌++◌, ◌∷◌, [], ◌∙◌, ℕ, List, sym, ap, length, drop, arith}
use Rattle.scan_values.specs.declared.ptype.PType.TheVariants.{U32}
use Rattle.scan_values.specs.declared.ptype.Nullability.TheVariants.{NonNullable}
use Rattle.scan_values.specs.DataType.{DataType, fields_of, int_type, nullability_of}
use Rattle.scan_layout.specs.Layout.{Layout}
use Rattle.scan_layout.specs.LayoutView.{layouts_of}
use Rattle.scan_widen.specs.declared.behind.Behind.{Behind}
use Rattle.scan_widen.specs.declared.behind.Behind.TheVariants.{Blank}
use Rattle.scan_widen.specs.Blanks.{blank_under, blank_behind, blanks_behind, blank_layouts, blank_flags, flags_layouts, one_leaf, only_rows}
use Rattle.scan_widen.proofs.Fitting.{fields_short}
use Rattle.scan_widen.proofs.Counting.{bool_scalar, int_scalar, text_scalar, blank_scalar, blank_list_behind, blank_struct_behind, blanks_at, fields_end}
use Rattle.scan_widen.proofs.Building.{ok_as, on_as, on_behind, two_kids, more_kids, made_step, made_end, kids_step, kids_end, layouts_push}
use Rattle.scan_widen.proofs.Building.{blank_scalar_under, blank_list_whole, blank_struct_whole, one_more_row, three_parts, two_parts, longer_by, blanks_kids}
use Rattle.scan_widen.proofs.under.+blank.Goals as goal

pub blank_list-returns-clause-layout : goal.blank_list-returns-clause-layout
blank_list-returns-clause-layout t c =
    let old = c.args.made.now.items in
    let k = length old in
    let e = c.element_of.result.now in
    let one = c.blank_under.new.made.items in
    let two = c.blank_leaf.new.made.items in
    let u32 = c.primitive-numbers.result in
    let rows = c.args.rows in
    let last = c.in_ok-push_flags.ensures.layout ∙ ap (λ n. layouts_of c.push-2.new.self.items ++ flags_layouts (length two) n rows) c.nullability.ensures in
    let offsets = c.in_ok-offsets.ensures.layout ∙ ap (λ d. one_leaf (length one) d (rows + 1)) c.primitive-numbers.ensures in
    let kids = two_kids c.in_ok-children.children.items c.push.new.self.items c.push-2.new.self.items c.in_ok-elements.elements c.in_ok-offsets.offsets (blank_under k e 0) (one_leaf (length one) (int_type U32 NonNullable) (rows + 1))
    (layouts_of c.push_flags.new.children.items) (flags_layouts (length two) (nullability_of c.args.dtype.now) rows)
    c.in_ok-children.ensures.items c.in_ok-push.ensures.items c.in_ok-push-2.ensures.items c.in_ok-elements.ensures.layout offsets last in
    let b : Behind = Blank u32 (rows + 1) in
    let first = longer_by old one (blank_behind e 0) c.in_ok-elements.ensures.behind in
    let second = longer_by one two (b ∷ []) (c.in_ok-offsets.ensures.behind ∙ ap (λ bs. one ++ bs) (one_more_row rows b)) in
    ok_as c.node_of.result _ _ (blank_list_whole k (length one) (length two) c.args.dtype.now e rows (layouts_of c.push_flags.new.children.items) c.element_of.ensures first second kids) c.node_of.ensures

pub blank_list-returns-clause-behind : goal.blank_list-returns-clause-behind
blank_list-returns-clause-behind t c =
    let old = c.args.made.now.items in
    let e = c.element_of.result.now in
    let one = c.blank_under.new.made.items in
    let two = c.blank_leaf.new.made.items in
    let rows = c.args.rows in
    let b : Behind = Blank (int_type U32 NonNullable) (rows + 1) in
    let flags = blank_flags (nullability_of c.args.dtype.now) rows in
    let second = c.in_ok-offsets.ensures.behind ∙ ap (λ d. one ++ only_rows (rows + 1) (Blank d (rows + 1))) c.primitive-numbers.ensures ∙ ap (λ bs. one ++ bs) (one_more_row rows b) in
    let third = c.in_ok-push_flags.ensures.behind ∙ ap (λ n. two ++ blank_flags n rows) c.nullability.ensures in
    let all = three_parts old (blank_behind e 0) (b ∷ []) flags one two c.push_flags.new.made.items c.in_ok-elements.ensures.behind second third in
    on_behind c.node_of.result c.push_flags.new.made.items old (blank_behind e 0 ++ (b ∷ flags)) (blank_behind c.args.dtype.now rows) all (sym (blank_list_behind c.args.dtype.now e rows c.element_of.ensures))

pub blank_struct-returns-clause-layout : goal.blank_struct-returns-clause-layout
blank_struct-returns-clause-layout t c =
    let old = c.args.made.now.items in
    let one = c.push_flags.new.made.items in
    let rows = c.args.rows in
    let fs = fields_of c.fields_of-fields.result.now in
    let n = nullability_of c.args.dtype.now in
    let first = c.in_ok-push_flags.ensures.layout ∙ ap (λ m. layouts_of c.new-children.result.items ++ flags_layouts (length old) m rows) c.nullability.ensures in
    let kids = more_kids c.new-children.result.items (layouts_of c.push_flags.new.children.items) (layouts_of c.push_blanks.new.children.items) (flags_layouts (length old) n rows) (blank_layouts (length one) fs rows)
    c.new-children.ensures.items first c.in_ok-push_blanks.ensures.layout in
    let long = longer_by old one (blank_flags n rows) (c.in_ok-push_flags.ensures.behind ∙ ap (λ m. old ++ blank_flags m rows) c.nullability.ensures) in
    ok_as c.node_of.result _ _ (blank_struct_whole (length old) (length one) c.args.dtype.now fs rows (layouts_of c.push_blanks.new.children.items) c.fields_of-fields.ensures long kids) c.node_of.ensures

pub blank_struct-returns-clause-behind : goal.blank_struct-returns-clause-behind
blank_struct-returns-clause-behind t c =
    let old = c.args.made.now.items in
    let one = c.push_flags.new.made.items in
    let rows = c.args.rows in
    let fs = fields_of c.fields_of-fields.result.now in
    let flags = blank_flags (nullability_of c.args.dtype.now) rows in
    let first = c.in_ok-push_flags.ensures.behind ∙ ap (λ m. old ++ blank_flags m rows) c.nullability.ensures in
    let all = two_parts old flags (blanks_behind fs rows) one c.push_blanks.new.made.items first c.in_ok-push_blanks.ensures.behind in
    on_behind c.node_of.result c.push_blanks.new.made.items old (flags ++ blanks_behind fs rows) (blank_behind c.args.dtype.now rows) all (sym (blank_struct_behind c.args.dtype.now fs rows c.fields_of-fields.ensures))

pub blank_under-returns-in-Bool-clause-layout : goal.blank_under-returns-in-Bool-clause-layout
blank_under-returns-in-Bool-clause-layout t c =
    ok_as c.blank_leaf.result _ _ (blank_scalar_under (length c.args.made.now.items) c.args.dtype.now c.args.rows (bool_scalar c.args.dtype.now (sym c.in-Bool.ensures))) c.blank_leaf.ensures.layout

pub blank_under-returns-in-Bool-clause-behind : goal.blank_under-returns-in-Bool-clause-behind
blank_under-returns-in-Bool-clause-behind t c =
    on_as c.blank_leaf.result c.blank_leaf.new.made.items c.args.made.now.items (only_rows c.args.rows (Blank c.args.dtype.now c.args.rows)) (blank_behind c.args.dtype.now c.args.rows)
    (sym (blank_scalar c.args.dtype.now c.args.rows (bool_scalar c.args.dtype.now (sym c.in-Bool.ensures)))) c.blank_leaf.ensures.behind

pub blank_under-returns-in-Primitive-clause-layout : goal.blank_under-returns-in-Primitive-clause-layout
blank_under-returns-in-Primitive-clause-layout t c =
    ok_as c.blank_leaf-in-Primitive.result _ _ (blank_scalar_under (length c.args.made.now.items) c.args.dtype.now c.args.rows (int_scalar c.args.dtype.now c.in-Primitive.field-0 (sym c.in-Primitive.ensures))) c.blank_leaf-in-Primitive.ensures.layout

pub blank_under-returns-in-Primitive-clause-behind : goal.blank_under-returns-in-Primitive-clause-behind
blank_under-returns-in-Primitive-clause-behind t c =
    on_as c.blank_leaf-in-Primitive.result c.blank_leaf-in-Primitive.new.made.items c.args.made.now.items (only_rows c.args.rows (Blank c.args.dtype.now c.args.rows)) (blank_behind c.args.dtype.now c.args.rows)
    (sym (blank_scalar c.args.dtype.now c.args.rows (int_scalar c.args.dtype.now c.in-Primitive.field-0 (sym c.in-Primitive.ensures)))) c.blank_leaf-in-Primitive.ensures.behind

pub blank_under-returns-in-Utf8-clause-layout : goal.blank_under-returns-in-Utf8-clause-layout
blank_under-returns-in-Utf8-clause-layout t c =
    ok_as c.blank_leaf-in-Utf8.result _ _ (blank_scalar_under (length c.args.made.now.items) c.args.dtype.now c.args.rows (text_scalar c.args.dtype.now (sym c.in-Utf8.ensures))) c.blank_leaf-in-Utf8.ensures.layout

pub blank_under-returns-in-Utf8-clause-behind : goal.blank_under-returns-in-Utf8-clause-behind
blank_under-returns-in-Utf8-clause-behind t c =
    on_as c.blank_leaf-in-Utf8.result c.blank_leaf-in-Utf8.new.made.items c.args.made.now.items (only_rows c.args.rows (Blank c.args.dtype.now c.args.rows)) (blank_behind c.args.dtype.now c.args.rows)
    (sym (blank_scalar c.args.dtype.now c.args.rows (text_scalar c.args.dtype.now (sym c.in-Utf8.ensures)))) c.blank_leaf-in-Utf8.ensures.behind

pub push_blanks-loop-i-preserved : goal.push_blanks-loop-i-preserved
push_blanks-loop-i-preserved t c =
    let xs = c.args.fields.now in
    let i = c.loop-i.i in
    let d = c.in-Some.dtype.now in
    let rows = c.args.rows in
    let made = c.loop-i.made.items in
    let now = c.blank_under.new.made.items in
    let rest : ℕ → List Layout = λ k. blank_layouts k (fields_of (drop i xs)) rows in
    let later : ℕ → List Layout = λ k. blank_layouts k (fields_of (drop (i + 1) xs)) rows in
    let child = blank_under (length made) d rows in
    let pushed = layouts_push c.loop-i.children.items c.push.new.self.items c.in_ok-blank-in-Some.blank child c.in_ok-push-in-Some.ensures.items c.in_ok-blank-in-Some.ensures.layout in (
      kids_step (layouts_of c.loop-i.children.items) (layouts_of c.push.new.self.items) child made now (blank_behind d rows) rest later
          (layouts_of c.args.children.now.items ++ blank_layouts (length c.args.made.now.items) (fields_of xs) rows)
          pushed c.in_ok-blank-in-Some.ensures.behind (blanks_kids xs i (length made) rows d c.in-Some.ensures) c.loop-i.invariant.0,
      made_step made now (blank_behind d rows) (blanks_behind (fields_of (drop i xs)) rows) (blanks_behind (fields_of (drop (i + 1) xs)) rows) (c.args.made.now.items ++ blanks_behind (fields_of xs) rows)
          c.in_ok-blank-in-Some.ensures.behind (blanks_at xs i d rows c.in-Some.ensures) c.loop-i.invariant.1,
    )

pub push_blanks-returns-in-None-clause-layout : goal.push_blanks-returns-in-None-clause-layout
push_blanks-returns-in-None-clause-layout t c =
    kids_end (layouts_of c.loop-i.children.items) _ _ (ap (λ f. blank_layouts (length c.loop-i.made.items) f c.args.rows) (fields_short c.args.fields.now c.loop-i.i c.in-None.ensures)) c.loop-i.invariant.0

pub push_blanks-returns-in-None-clause-behind : goal.push_blanks-returns-in-None-clause-behind
push_blanks-returns-in-None-clause-behind t c =
    made_end c.loop-i.made.items _ _ (ap (λ f. blanks_behind f c.args.rows) (fields_short c.args.fields.now c.loop-i.i c.in-None.ensures)) c.loop-i.invariant.1

pub push_blanks-returns-clause-layout : goal.push_blanks-returns-clause-layout
push_blanks-returns-clause-layout t c =
    let past : length c.args.fields.now ≤ c.loop-i.i = omega (arith, c.loop-i-test.false, c.nfields-i-end.ensures) in
    kids_end (layouts_of c.loop-i.children.items) _ _ (ap (λ f. blank_layouts (length c.loop-i.made.items) f c.args.rows) (fields_end c.args.fields.now c.loop-i.i past)) c.loop-i.invariant.0

pub push_blanks-returns-clause-behind : goal.push_blanks-returns-clause-behind
push_blanks-returns-clause-behind t c =
    let past : length c.args.fields.now ≤ c.loop-i.i = omega (arith, c.loop-i-test.false, c.nfields-i-end.ensures) in
    made_end c.loop-i.made.items _ _ (ap (λ f. blanks_behind f c.args.rows) (fields_end c.args.fields.now c.loop-i.i past)) c.loop-i.invariant.1
