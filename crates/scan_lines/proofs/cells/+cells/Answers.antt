use Rattle.std.proofs.Common.{◌≡◌, ℕ, List, ◌++◌, ◌+◌, ◌-◌, ◌==◌, take, drop, map, length, get_or, sym, ap, ◌∙◌, subst, refl, arith, true, Some}
use Rattle.std.specs.Prelude.{codes}
use Rattle.std.proofs.lemmas.List.{take_all, length-map, length-drop}
use Rattle.scan_columns.specs.Cells.{vals_in, depth_in, deepest}
use Rattle.scan_values.specs.DataType.{DataType}
use Rattle.scan_values.specs.Val.{Val, null_val, vals_of}
use Rattle.scan_columns.specs.declared.cells.Cells.{Cells}
use Rattle.scan_values.specs.Values.{val_of}
use Rattle.scan_lines.specs.Line.{comma, value_text, elements_text, fields_text, fields_in}
use Rattle.scan_lines.specs.Writes.{Writes}
use Rattle.scan_lines.proofs.Puts.{writes_nothing, stopped, ends_within, enclosed, opened_stopped, two_more, two_stopped}
use Rattle.scan_lines.proofs.Texts.{elements_more, fields_more, fields_over, mapped_at, no_field}
use Rattle.scan_lines.proofs.Celling.{depth_at, list_text, struct_text, null_text, cell_text, behind, each_long, value_there}
use Rattle.scan_lines.proofs.cells.+cells.Goals as goal

-- ---- a cell of each kind
pub put_cell-put_int_at-requires : goal.put_cell-put_int_at-requires
put_cell-put_int_at-requires t c = let n = ap (λ z. length (vals_in z)) c.in-Ints.is in (omega (arith, n, c.requires.0), c.requires.1)

pub put_cell-returns-in-Ints : goal.put_cell-returns-in-Ints
put_cell-returns-in-Ints t c = rw c.in-Ints.is (c.put_int_at.ensures c.args.heads.now)

pub put_cell-put_bool_at-requires : goal.put_cell-put_bool_at-requires
put_cell-put_bool_at-requires t c = let n = ap (λ z. length (vals_in z)) c.in-Bools.is in (omega (arith, n, c.requires.0), c.requires.1)

pub put_cell-returns-in-Bools : goal.put_cell-returns-in-Bools
put_cell-returns-in-Bools t c = rw c.in-Bools.is (c.put_bool_at.ensures c.args.heads.now)

pub put_cell-put_text_at-requires : goal.put_cell-put_text_at-requires
put_cell-put_text_at-requires t c = let n = ap (λ z. length (vals_in z)) c.in-Texts.is in (omega (arith, n, c.requires.0), c.requires.1)

pub put_cell-returns-in-Texts : goal.put_cell-returns-in-Texts
put_cell-returns-in-Texts t c = rw c.in-Texts.is (c.put_text_at.ensures c.args.heads.now)

pub put_cell-bounds-items-i : goal.put_cell-bounds-items-i
put_cell-bounds-items-i t c =
    let n = ap (λ z. length (vals_in z)) c.in-Values.is in
    let m = ap length c.as_slice-items.ensures in
    let k = length-map c.as_slice-items.result.now val_of in
    omega (arith, n, m, k, c.requires.0)

pub put_cell-returns-in-Values : goal.put_cell-returns-in-Values
put_cell-returns-in-Values t c =
    let n = ap (λ z. length (vals_in z)) c.in-Values.is in
    let m = ap length c.as_slice-items.ensures in
    let k = length-map c.as_slice-items.result.now val_of in
    let e = value_there c.in-Values.values c.as_slice-items.result.now c.args.i c.index-items-i.result c.as_slice-items.ensures (omega (arith, n, m, k, c.requires.0)) c.index-items-i.is in
    rw c.in-Values.is (subst (λ v. Writes (value_text v c.args.heads.now) c.args.at c.args.buf.now c.put_value.new.buf c.put_value.result) e c.put_value.ensures)

pub put_cell-value-requires : goal.put_cell-value-requires
put_cell-value-requires t c = let n = ap (λ z. length (vals_in z)) c.in-Constant.is in omega (arith, n, c.requires.0)

pub put_cell-returns-in-Constant : goal.put_cell-returns-in-Constant
put_cell-returns-in-Constant t c =
    rw c.in-Constant.is (subst (λ text. Writes text c.args.at c.args.buf.now c.put_value-in-Constant.new.buf c.put_value-in-Constant.result)
    (cell_text c.in-Constant.constant c.args.i (val_of c.value.result.now) c.args.heads.now c.value.ensures) c.put_value-in-Constant.ensures)

pub put_cell-put_list_at-requires : goal.put_cell-put_list_at-requires
put_cell-put_list_at-requires t c =
    let e = ap depth_in c.in-Lists.is in
    let n = ap (λ z. length (vals_in z)) c.in-Lists.is in (omega (arith, e), (omega (arith, n, c.requires.0), c.requires.1))

pub put_cell-returns-in-Lists : goal.put_cell-returns-in-Lists
put_cell-returns-in-Lists t c = rw c.in-Lists.is c.put_list_at.ensures

pub put_cell-put_struct_at-requires : goal.put_cell-put_struct_at-requires
put_cell-put_struct_at-requires t c =
    let e = ap depth_in c.in-Structs.is in
    let n = ap (λ z. length (vals_in z)) c.in-Structs.is in (omega (arith, e), (omega (arith, n, c.requires.0), c.requires.1))

pub put_cell-returns-in-Structs : goal.put_cell-returns-in-Structs
put_cell-returns-in-Structs t c = rw c.in-Structs.is c.put_struct_at.ensures

-- ---- a list
pub put_list_at-put_list-requires : goal.put_list_at-put_list-requires
put_list_at-put_list-requires t c =
    let at = c.in-Some.ensures.some in
    let d = at.depth in (omega (arith, d), (at.ordered, at.within, c.requires.1))

pub put_list_at-returns-in-Some : goal.put_list_at-returns-in-Some
put_list_at-returns-in-Some t c =
    subst (λ text. Writes text c.args.at c.args.buf.now c.put_list.new.buf c.put_list.result)
    (list_text c.args.lists.now c.args.i c.in-Some.elements.now c.in-Some.range.start c.in-Some.range.end c.args.heads.now c.element.result.now c.in-Some.ensures.some c.element.ensures) c.put_list.ensures

pub put_list_at-returns-in-None : goal.put_list_at-returns-in-None
put_list_at-returns-in-None t c =
    subst (λ text. Writes text c.args.at c.args.buf.now c.put_bytes.new.buf c.put_bytes.result)
    (null_text c.args.lists.now.items c.args.i c.args.heads.now (c.list_at.ensures.none c.in-None.is)) c.put_bytes.ensures

pub put_list-put_elements-requires : goal.put_list-put_elements-requires
put_list-put_elements-requires t c =
    let end = ends_within (codes "[") c.args.buf.now c.put_bytes.new.buf c.args.at c.in_ok-end.end c.put_bytes.result c.put_bytes.ensures c.in_ok-end.was in (omega arith, (c.requires.0, c.requires.1, end))

pub put_list-put_bytes-requires-2 : goal.put_list-put_bytes-requires-2
put_list-put_bytes-requires-2 t c =
    ends_within _ c.put_bytes.new.buf c.put_elements.new.buf c.in_ok-end.end c.in_ok-end-2.end c.put_elements.result c.put_elements.ensures c.in_ok-end-2.was

pub put_list-returns-in_err-end-2 : goal.put_list-returns-in_err-end-2
put_list-returns-in_err-end-2 t c =
    opened_stopped (codes "[") _ c.args.buf.now c.put_bytes.new.buf c.put_elements.new.buf c.args.at c.in_ok-end.end c.put_bytes.result c.put_elements.result c.put_bytes.ensures c.in_ok-end.was c.put_elements.ensures
    _ _ c.from_residual-in_err-end-2.ensures

pub put_list-returns : goal.put_list-returns
put_list-returns t c =
    enclosed (codes "[") _ c.args.buf.now c.put_bytes.new.buf c.put_elements.new.buf c.args.at c.in_ok-end.end c.put_bytes.result c.put_elements.result c.put_bytes.ensures c.in_ok-end.was c.put_elements.ensures
    (codes "]") c.put_bytes-2.new.buf c.in_ok-end-2.end c.put_bytes-2.result c.in_ok-end-2.was c.put_bytes-2.ensures

-- ---- the elements of a list
pub put_elements-loop-k-init : goal.put_elements-loop-k-init
put_elements-loop-k-init t c = writes_nothing c.args.buf.now c.args.at c.requires.2

pub put_elements-put_comma-requires : goal.put_elements-put_comma-requires
put_elements-put_comma-requires t c = let w = c.loop-k.invariant.whole in w.1

pub put_elements-put_cell-requires : goal.put_elements-put_cell-requires
put_elements-put_cell-requires t c =
    let end = ends_within _ c.loop-k.buf c.put_comma.new.buf c.loop-k.end c.in_ok-end.end c.put_comma.result c.put_comma.ensures c.in_ok-end.was in (omega arith, (omega (arith, c.requires.0, c.requires.1), end))

pub put_elements-returns-in_err-end : goal.put_elements-returns-in_err-end
put_elements-returns-in_err-end t c =
    stopped _ _ _ c.args.buf.now c.loop-k.buf c.put_comma.new.buf c.args.at c.loop-k.end c.put_comma.result _ c.loop-k.invariant c.put_comma.ensures c.from_residual.ensures

pub put_elements-returns-in_err-end-2 : goal.put_elements-returns-in_err-end-2
put_elements-returns-in_err-end-2 t c =
    two_stopped _ _ _ c.args.buf.now c.loop-k.buf c.put_comma.new.buf c.put_cell.new.buf c.args.at c.loop-k.end c.in_ok-end.end c.put_comma.result c.put_cell.result c.loop-k.invariant c.put_comma.ensures c.in_ok-end.was c.put_cell.ensures
    _ _ c.from_residual-in_err-end-2.ensures

pub put_elements-loop-k-preserved : goal.put_elements-loop-k-preserved
put_elements-loop-k-preserved t c =
    let es = vals_in c.args.elements.now in
    let vs = drop c.args.from es in
    let k = c.loop-k.k in
    let d = c.args.heads.now in
    let v = get_or es (c.args.from + k) null_val in
    let long = length-drop c.args.from es in
    two_more (elements_text true (vals_of (take k vs)) d) (comma (k == 0)) (value_text v d) c.args.buf.now c.loop-k.buf c.put_comma.new.buf c.put_cell.new.buf c.args.at c.loop-k.end c.in_ok-end.end c.put_comma.result c.put_cell.result
    c.loop-k.invariant c.put_comma.ensures c.in_ok-end.was c.put_cell.ensures _ c.in_ok-end-2.end c.in_ok-end-2.was
    (elements_more d vs k (k == 0) v (omega (arith, long, c.requires.0, c.requires.1)) refl (behind es c.args.from k))

pub put_elements-returns : goal.put_elements-returns
put_elements-returns t c =
    let vs = drop c.args.from (vals_in c.args.elements.now) in
    let e : c.loop-k.k ≡ c.args.to - c.args.from = omega (arith, c.requires.0) in
    subst (λ n. Writes (elements_text true (vals_of (take n vs)) c.args.heads.now) c.args.at c.args.buf.now c.loop-k.buf (Some c.loop-k.end)) e c.loop-k.invariant

-- ---- a struct
pub put_struct_at-put_struct-requires : goal.put_struct_at-put_struct-requires
put_struct_at-put_struct-requires t c =
    let at = c.in-Some.ensures.some in
    let d = at.depth in (omega (arith, d), (at.long, c.requires.1))

pub put_struct_at-returns-in-Some : goal.put_struct_at-returns-in-Some
put_struct_at-returns-in-Some t c =
    subst (λ text. Writes text c.args.at c.args.buf.now c.put_struct.new.buf c.put_struct.result)
    (struct_text c.args.structs.now c.args.i c.in-Some.fields.now c.args.heads.now c.in-Some.ensures.some) c.put_struct.ensures

pub put_struct_at-returns-in-None : goal.put_struct_at-returns-in-None
put_struct_at-returns-in-None t c =
    subst (λ text. Writes text c.args.at c.args.buf.now c.put_bytes.new.buf c.put_bytes.result)
    (null_text c.args.structs.now.items c.args.i c.args.heads.now (c.struct_at.ensures.none c.in-None.is)) c.put_bytes.ensures

pub put_struct-put_fields-requires : goal.put_struct-put_fields-requires
put_struct-put_fields-requires t c =
    let end = ends_within (codes "{") c.args.buf.now c.put_bytes.new.buf c.args.at c.in_ok-end.end c.put_bytes.result c.put_bytes.ensures c.in_ok-end.was in (omega arith, (c.requires.0, end))

pub put_struct-put_bytes-requires-2 : goal.put_struct-put_bytes-requires-2
put_struct-put_bytes-requires-2 t c =
    ends_within _ c.put_bytes.new.buf c.put_fields.new.buf c.in_ok-end.end c.in_ok-end-2.end c.put_fields.result c.put_fields.ensures c.in_ok-end-2.was

pub put_struct-returns-in_err-end-2 : goal.put_struct-returns-in_err-end-2
put_struct-returns-in_err-end-2 t c =
    opened_stopped (codes "{") _ c.args.buf.now c.put_bytes.new.buf c.put_fields.new.buf c.args.at c.in_ok-end.end c.put_bytes.result c.put_fields.result c.put_bytes.ensures c.in_ok-end.was c.put_fields.ensures
    _ _ c.from_residual-in_err-end-2.ensures

pub put_struct-returns : goal.put_struct-returns
put_struct-returns t c =
    enclosed (codes "{") _ c.args.buf.now c.put_bytes.new.buf c.put_fields.new.buf c.args.at c.in_ok-end.end c.put_bytes.result c.put_fields.result c.put_bytes.ensures c.in_ok-end.was c.put_fields.ensures
    (codes "}") c.put_bytes-2.new.buf c.in_ok-end-2.end c.put_bytes-2.result c.in_ok-end-2.was c.put_bytes-2.ensures

-- ---- the fields of a struct
pub put_fields-loop-k-init : goal.put_fields-loop-k-init
put_fields-loop-k-init t c = writes_nothing c.args.buf.now c.args.at c.requires.1

pub put_fields-put-requires : goal.put_fields-put-requires
put_fields-put-requires t c = let w = c.loop-k.invariant.whole in w.1

pub put_fields-put_cell-requires : goal.put_fields-put_cell-requires
put_fields-put_cell-requires t c =
    let deep = depth_at c.args.fields.now c.loop-k.k c.index-fields-k.result (omega arith) c.index-fields-k.is in
    let long = each_long c.args.i c.args.fields.now c.loop-k.k c.index-fields-k.result c.requires.0 (omega arith) c.index-fields-k.is in
    let end = ends_within _ c.loop-k.buf c.put.new.buf c.loop-k.end c.in_ok-end.end c.put.result c.put.ensures c.in_ok-end.was in (omega (arith, deep), (long, end))

pub put_fields-returns-in_default : goal.put_fields-returns-in_default
put_fields-returns-in_default t c =
    let vs = map (λ z. get_or (vals_in z) c.args.i null_val) c.args.fields.now in
    subst (λ text. Writes text c.args.at c.args.buf.now c.loop-k.buf (Some c.loop-k.end))
    (fields_over true (fields_in c.args.heads.now) vs c.loop-k.k (no_field _ c.field.result _ c.in_default.is c.field.ensures)) c.loop-k.invariant

pub put_fields-returns-in_err-end : goal.put_fields-returns-in_err-end
put_fields-returns-in_err-end t c =
    stopped _ _ _ c.args.buf.now c.loop-k.buf c.put.new.buf c.args.at c.loop-k.end c.put.result _ c.loop-k.invariant c.put.ensures c.from_residual.ensures

pub put_fields-returns-in_err-end-2 : goal.put_fields-returns-in_err-end-2
put_fields-returns-in_err-end-2 t c =
    two_stopped _ _ _ c.args.buf.now c.loop-k.buf c.put.new.buf c.put_cell.new.buf c.args.at c.loop-k.end c.in_ok-end.end c.put.result c.put_cell.result c.loop-k.invariant c.put.ensures c.in_ok-end.was c.put_cell.ensures
    _ _ c.from_residual-in_err-end-2.ensures

pub put_fields-loop-k-preserved : goal.put_fields-loop-k-preserved
put_fields-loop-k-preserved t c =
    let at : Cells → Val = λ z. get_or (vals_in z) c.args.i null_val in
    let vs = map at c.args.fields.now in
    let k = c.loop-k.k in
    let fs = fields_in c.args.heads.now in
    let h : List ℕ × DataType = (c.in-Some.head.now, c.in-Some.inner.now) in
    let v = at c.index-fields-k.result in
    let long = length-map c.args.fields.now at in
    two_more (fields_text true (vals_of (take k vs)) fs) h.0 (value_text v h.1) c.args.buf.now c.loop-k.buf c.put.new.buf c.put_cell.new.buf c.args.at c.loop-k.end c.in_ok-end.end c.put.result c.put_cell.result
    c.loop-k.invariant c.put.ensures c.in_ok-end.was c.put_cell.ensures _ c.in_ok-end-2.end c.in_ok-end-2.was
    (fields_more fs vs k h v (omega (arith, long)) c.in-Some.ensures (mapped_at at c.args.fields.now k c.index-fields-k.result null_val (omega arith) c.index-fields-k.is))

pub put_fields-returns : goal.put_fields-returns
put_fields-returns t c =
    let at : Cells → Val = λ z. get_or (vals_in z) c.args.i null_val in
    let vs = map at c.args.fields.now in
    let long = length-map c.args.fields.now at in
    subst (λ xs. Writes (fields_text true (vals_of xs) (fields_in c.args.heads.now)) c.args.at c.args.buf.now c.loop-k.buf (Some c.loop-k.end)) (take_all c.loop-k.k vs (omega (arith, long))) c.loop-k.invariant
