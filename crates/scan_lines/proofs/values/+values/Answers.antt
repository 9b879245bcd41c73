use Rattle.std.proofs.Common.{◌≡◌, ℕ, List, ◌++◌, ◌+◌, ◌==◌, take, map, get_or, sym, ap, ◌∙◌, subst, refl, arith, true, Some}
use Rattle.std.specs.Prelude.{codes}
use Rattle.std.proofs.lemmas.List.{take_all, length-map}
use Rattle.scan_values.specs.DataType.{DataType}
use Rattle.scan_values.specs.Val.{null_val, vals_of}
use Rattle.scan_values.specs.Values.{val_of}
use Rattle.scan_lines.specs.Line.{comma, value_text, elements_text, fields_text, fields_in}
use Rattle.scan_lines.specs.Writes.{Writes}
use Rattle.scan_lines.proofs.Puts.{writes_nothing, stopped, ends_within, enclosed, opened_stopped, two_more, two_stopped}
use Rattle.scan_lines.proofs.Texts.{elements_more, fields_more, fields_over, mapped_at, no_field}
use Rattle.scan_lines.proofs.Valuing.{one_size, list_is, struct_is}
use Rattle.scan_lines.proofs.values.+values.Goals as goal

pub put_value-returns-in-Bool : goal.put_value-returns-in-Bool
put_value-returns-in-Bool t c = rw c.in-Bool.is (c.put_bool.ensures c.args.heads.now)

pub put_value-returns-in-List : goal.put_value-returns-in-List
put_value-returns-in-List t c =
    subst (λ text. Writes text c.args.at c.args.buf.now c.put_list.new.buf c.put_list.result)
    (list_is c.args.value.now c.in-List.values c.as_slice.result.now c.args.heads.now c.element.result.now c.in-List.is c.as_slice.ensures c.element.ensures) c.put_list.ensures

pub put_value-returns-in-Struct : goal.put_value-returns-in-Struct
put_value-returns-in-Struct t c =
    subst (λ text. Writes text c.args.at c.args.buf.now c.put_struct.new.buf c.put_struct.result)
    (struct_is c.args.value.now c.in-Struct.values c.as_slice-in-Struct.result.now c.args.heads.now c.in-Struct.is c.as_slice-in-Struct.ensures) c.put_struct.ensures

-- ---- a list
pub put_list-put_elements-requires : goal.put_list-put_elements-requires
put_list-put_elements-requires t c =
    let end = ends_within (codes "[") c.args.buf.now c.put_bytes.new.buf c.args.at c.in_ok-end.end c.put_bytes.result c.put_bytes.ensures c.in_ok-end.was in (omega arith, end)

pub put_list-put_bytes-requires-2 : goal.put_list-put_bytes-requires-2
put_list-put_bytes-requires-2 t c =
    ends_within _ c.put_bytes.new.buf c.put_elements.new.buf c.in_ok-end.end c.in_ok-end-2.end c.put_elements.result c.put_elements.ensures c.in_ok-end-2.was

pub put_list-returns-in_err-end-2 : goal.put_list-returns-in_err-end-2
put_list-returns-in_err-end-2 t c =
    opened_stopped (codes "[") _ c.args.buf.now c.put_bytes.new.buf c.put_elements.new.buf c.args.at c.in_ok-end.end c.put_bytes.result c.put_elements.result c.put_bytes.ensures c.in_ok-end.was c.put_elements.ensures
    _ _ c.from_residual-in_err-end-2.ensures

pub put_list-returns : goal.put_list-returns
put_list-returns t c =
    enclosed (codes "[") _ c.args.buf.now c.put_bytes.new.buf c.put_elements.new.buf c.args.at c.in_ok-end.end c.put_bytes.result c.put_elements.result c.put_bytes.ensures c.in_ok-end.was c.put_elements.ensures
    (codes "]") c.put_bytes-2.new.buf c.in_ok-end-2.end c.put_bytes-2.result c.in_ok-end-2.was c.put_bytes-2.ensures

-- ---- the elements of a list
pub put_elements-loop-k-init : goal.put_elements-loop-k-init
put_elements-loop-k-init t c = writes_nothing c.args.buf.now c.args.at c.requires

pub put_elements-put_comma-requires : goal.put_elements-put_comma-requires
put_elements-put_comma-requires t c = let w = c.loop-k.invariant.whole in w.1

pub put_elements-put_value-requires : goal.put_elements-put_value-requires
put_elements-put_value-requires t c =
    let size = one_size c.args.values.now c.loop-k.k c.index-values-k.result (omega arith) c.index-values-k.is in
    let end = ends_within _ c.loop-k.buf c.put_comma.new.buf c.loop-k.end c.in_ok-end.end c.put_comma.result c.put_comma.ensures c.in_ok-end.was in (omega (arith, size), end)

pub put_elements-returns-in_err-end : goal.put_elements-returns-in_err-end
put_elements-returns-in_err-end t c =
    stopped _ _ _ c.args.buf.now c.loop-k.buf c.put_comma.new.buf c.args.at c.loop-k.end c.put_comma.result _ c.loop-k.invariant c.put_comma.ensures c.from_residual.ensures

pub put_elements-returns-in_err-end-2 : goal.put_elements-returns-in_err-end-2
put_elements-returns-in_err-end-2 t c =
    two_stopped _ _ _ c.args.buf.now c.loop-k.buf c.put_comma.new.buf c.put_value.new.buf c.args.at c.loop-k.end c.in_ok-end.end c.put_comma.result c.put_value.result c.loop-k.invariant c.put_comma.ensures c.in_ok-end.was c.put_value.ensures
    _ _ c.from_residual-in_err-end-2.ensures

pub put_elements-loop-k-preserved : goal.put_elements-loop-k-preserved
put_elements-loop-k-preserved t c =
    let vs = map val_of c.args.values.now in
    let k = c.loop-k.k in
    let d = c.args.element.now in
    let v = val_of c.index-values-k.result in
    let long = length-map c.args.values.now val_of in
    two_more (elements_text true (vals_of (take k vs)) d) (comma (k == 0)) (value_text v d) c.args.buf.now c.loop-k.buf c.put_comma.new.buf c.put_value.new.buf c.args.at c.loop-k.end c.in_ok-end.end c.put_comma.result c.put_value.result
    c.loop-k.invariant c.put_comma.ensures c.in_ok-end.was c.put_value.ensures _ c.in_ok-end-2.end c.in_ok-end-2.was
    (elements_more d vs k (k == 0) v (omega (arith, long)) refl (mapped_at val_of c.args.values.now k c.index-values-k.result null_val (omega arith) c.index-values-k.is))

pub put_elements-returns : goal.put_elements-returns
put_elements-returns t c =
    let vs = map val_of c.args.values.now in
    let long = length-map c.args.values.now val_of in
    subst (λ xs. Writes (elements_text true (vals_of xs) c.args.element.now) c.args.at c.args.buf.now c.loop-k.buf (Some c.loop-k.end)) (take_all c.loop-k.k vs (omega (arith, long))) c.loop-k.invariant

-- ---- a struct
pub put_struct-put_fields-requires : goal.put_struct-put_fields-requires
put_struct-put_fields-requires t c =
    let end = ends_within (codes "{") c.args.buf.now c.put_bytes.new.buf c.args.at c.in_ok-end.end c.put_bytes.result c.put_bytes.ensures c.in_ok-end.was in (omega arith, end)

pub put_struct-put_bytes-requires-2 : goal.put_struct-put_bytes-requires-2
put_struct-put_bytes-requires-2 t c =
    ends_within _ c.put_bytes.new.buf c.put_fields.new.buf c.in_ok-end.end c.in_ok-end-2.end c.put_fields.result c.put_fields.ensures c.in_ok-end-2.was

pub put_struct-returns-in_err-end-2 : goal.put_struct-returns-in_err-end-2
put_struct-returns-in_err-end-2 t c =
    opened_stopped (codes "{") _ c.args.buf.now c.put_bytes.new.buf c.put_fields.new.buf c.args.at c.in_ok-end.end c.put_bytes.result c.put_fields.result c.put_bytes.ensures c.in_ok-end.was c.put_fields.ensures
    _ _ c.from_residual-in_err-end-2.ensures

pub put_struct-returns : goal.put_struct-returns
put_struct-returns t c =
    enclosed (codes "{") _ c.args.buf.now c.put_bytes.new.buf c.put_fields.new.buf c.args.at c.in_ok-end.end c.put_bytes.result c.put_fields.result c.put_bytes.ensures c.in_ok-end.was c.put_fields.ensures
    (codes "}") c.put_bytes-2.new.buf c.in_ok-end-2.end c.put_bytes-2.result c.in_ok-end-2.was c.put_bytes-2.ensures

-- ---- the fields of a struct
pub put_fields-loop-k-init : goal.put_fields-loop-k-init
put_fields-loop-k-init t c = writes_nothing c.args.buf.now c.args.at c.requires

pub put_fields-put-requires : goal.put_fields-put-requires
put_fields-put-requires t c = let w = c.loop-k.invariant.whole in w.1

pub put_fields-put_value-requires : goal.put_fields-put_value-requires
put_fields-put_value-requires t c =
    let size = one_size c.args.values.now c.loop-k.k c.index-values-k.result (omega arith) c.index-values-k.is in
    let end = ends_within _ c.loop-k.buf c.put.new.buf c.loop-k.end c.in_ok-end.end c.put.result c.put.ensures c.in_ok-end.was in (omega (arith, size), end)

pub put_fields-returns-in_default : goal.put_fields-returns-in_default
put_fields-returns-in_default t c =
    let vs = map val_of c.args.values.now in
    subst (λ text. Writes text c.args.at c.args.buf.now c.loop-k.buf (Some c.loop-k.end))
    (fields_over true (fields_in c.args.heads.now) vs c.loop-k.k (no_field _ c.field.result _ c.in_default.is c.field.ensures)) c.loop-k.invariant

pub put_fields-returns-in_err-end : goal.put_fields-returns-in_err-end
put_fields-returns-in_err-end t c =
    stopped _ _ _ c.args.buf.now c.loop-k.buf c.put.new.buf c.args.at c.loop-k.end c.put.result _ c.loop-k.invariant c.put.ensures c.from_residual.ensures

pub put_fields-returns-in_err-end-2 : goal.put_fields-returns-in_err-end-2
put_fields-returns-in_err-end-2 t c =
    two_stopped _ _ _ c.args.buf.now c.loop-k.buf c.put.new.buf c.put_value.new.buf c.args.at c.loop-k.end c.in_ok-end.end c.put.result c.put_value.result c.loop-k.invariant c.put.ensures c.in_ok-end.was c.put_value.ensures
    _ _ c.from_residual-in_err-end-2.ensures

pub put_fields-loop-k-preserved : goal.put_fields-loop-k-preserved
put_fields-loop-k-preserved t c =
    let vs = map val_of c.args.values.now in
    let k = c.loop-k.k in
    let fs = fields_in c.args.heads.now in
    let h : List ℕ × DataType = (c.in-Some.head.now, c.in-Some.inner.now) in
    let v = val_of c.index-values-k.result in
    let long = length-map c.args.values.now val_of in
    two_more (fields_text true (vals_of (take k vs)) fs) h.0 (value_text v h.1) c.args.buf.now c.loop-k.buf c.put.new.buf c.put_value.new.buf c.args.at c.loop-k.end c.in_ok-end.end c.put.result c.put_value.result
    c.loop-k.invariant c.put.ensures c.in_ok-end.was c.put_value.ensures _ c.in_ok-end-2.end c.in_ok-end-2.was
    (fields_more fs vs k h v (omega (arith, long)) c.in-Some.ensures (mapped_at val_of c.args.values.now k c.index-values-k.result null_val (omega arith) c.index-values-k.is))

pub put_fields-returns : goal.put_fields-returns
put_fields-returns t c =
    let vs = map val_of c.args.values.now in
    let long = length-map c.args.values.now val_of in
    subst (λ xs. Writes (fields_text true (vals_of xs) (fields_in c.args.heads.now)) c.args.at c.args.buf.now c.loop-k.buf (Some c.loop-k.end)) (take_all c.loop-k.k vs (omega (arith, long))) c.loop-k.invariant
