use Rattle.std.proofs.Common.{◌≡◌, ◌++◌, ◌+◌, ◌==◌, drop, map, option_map, refl, sym, ap, ◌∙◌, subst, arith, unwrap_or, true, false}
use Rattle.std.specs.Prelude.{OnErr, codes}
use Rattle.scan_values.specs.DataType.{no_fields, fields_of}
use Rattle.scan_values.specs.Val.{vals_of}
use Rattle.scan_values.specs.Values.{val_of}
use Rattle.scan_run.specs.Line.{comma, quoted, value_text, elements_text, fields_text, element_in, fields_in, AppendsFront}
use Rattle.scan_run.proofs.Printing.{one_size, elements_step, elements_more, fields_step, fields_past, fields_more, no_fields_text, nothing_more, list_is, struct_is}
use Rattle.scan_run.proofs.Fronts.{on_err, front_none, front_first, front_then, front_next, front_kept, err_none, err_then}
use Rattle.scan_run.proofs.line.+print.Goals as goal

pub push_value-returns-in-Null-clause-front : goal.push_value-returns-in-Null-clause-front
push_value-returns-in-Null-clause-front t c = err_none _ _ _ _ c.push_bytes.ensures.err

pub push_value-returns-in-Bool-true-clause-front : goal.push_value-returns-in-Bool-true-clause-front
push_value-returns-in-Bool-true-clause-front t c = err_none _ _ _ _ c.push_bytes-in-Bool-true.ensures.err

pub push_value-returns-in-Bool-false-clause-front : goal.push_value-returns-in-Bool-false-clause-front
push_value-returns-in-Bool-false-clause-front t c = err_none _ _ _ _ c.push_bytes-in-Bool-false.ensures.err

pub push_value-returns-in-Int-clause-front : goal.push_value-returns-in-Int-clause-front
push_value-returns-in-Int-clause-front t c = err_none _ _ _ _ c.push_number.ensures.err

pub push_value-returns-in_err-push_bytes-in-List-clause-front : goal.push_value-returns-in_err-push_bytes-in-List-clause-front
push_value-returns-in_err-push_bytes-in-List-clause-front t c = on_err _ _ (front_none _ _ _ c.in_err-push_bytes-in-List.ensures.err)

pub push_value-returns-in_err-push_elements-in-List-clause-front : goal.push_value-returns-in_err-push_elements-in-List-clause-front
push_value-returns-in_err-push_elements-in-List-clause-front t c =
    on_err _ _ (subst (λ text. AppendsFront text c.args.out.now.items c.push_elements.new.out.items) (list_is c.args.value.now c.in-List.values c.as_slice.result.now c.args.dtype.now c.element_in.result.now c.in-List.is c.as_slice.ensures c.element_in.ensures)
    (front_then (codes "[") _ _ _ _ c.in_ok-push_bytes-in-List.ensures.ok (front_first (elements_text true (vals_of (map val_of c.as_slice.result.now)) c.element_in.result.now) _ _ _ c.in_err-push_elements-in-List.ensures.front)))

pub push_value-returns-in_ok-push_elements-in-List-clause-front : goal.push_value-returns-in_ok-push_elements-in-List-clause-front
push_value-returns-in_ok-push_elements-in-List-clause-front t c =
    subst (λ text. OnErr c.push_bytes-in-List-2.result (AppendsFront text c.args.out.now.items c.push_bytes-in-List-2.new.out.items)) (list_is c.args.value.now c.in-List.values c.as_slice.result.now c.args.dtype.now c.element_in.result.now c.in-List.is c.as_slice.ensures c.element_in.ensures)
    (err_then _ (codes "[") _ _ _ _ c.in_ok-push_bytes-in-List.ensures.ok (err_then _ (elements_text true (vals_of (map val_of c.as_slice.result.now)) c.element_in.result.now) _ _ _ _ c.in_ok-push_elements-in-List.ensures.ok (err_none _ (codes "]") _ _ c.push_bytes-in-List-2.ensures.err)))

pub push_value-returns-in_err-push_bytes-in-Struct-clause-front : goal.push_value-returns-in_err-push_bytes-in-Struct-clause-front
push_value-returns-in_err-push_bytes-in-Struct-clause-front t c = on_err _ _ (front_none _ _ _ c.in_err-push_bytes-in-Struct.ensures.err)

pub push_value-returns-in_err-push_struct-in-Struct-clause-front : goal.push_value-returns-in_err-push_struct-in-Struct-clause-front
push_value-returns-in_err-push_struct-in-Struct-clause-front t c =
    on_err _ _ (subst (λ text. AppendsFront text c.args.out.now.items c.push_struct.new.out.items) (struct_is c.args.value.now c.in-Struct.values c.as_slice-in-Struct.result.now c.args.dtype.now c.in-Struct.is c.as_slice-in-Struct.ensures)
    (front_then (codes "{") _ _ _ _ c.in_ok-push_bytes-in-Struct.ensures.ok (front_first (fields_text true (vals_of (map val_of c.as_slice-in-Struct.result.now)) (fields_in c.args.dtype.now)) _ _ _ c.in_err-push_struct-in-Struct.ensures.front)))

pub push_value-returns-in_ok-push_struct-in-Struct-clause-front : goal.push_value-returns-in_ok-push_struct-in-Struct-clause-front
push_value-returns-in_ok-push_struct-in-Struct-clause-front t c =
    subst (λ text. OnErr c.push_bytes-in-Struct-2.result (AppendsFront text c.args.out.now.items c.push_bytes-in-Struct-2.new.out.items)) (struct_is c.args.value.now c.in-Struct.values c.as_slice-in-Struct.result.now c.args.dtype.now c.in-Struct.is c.as_slice-in-Struct.ensures)
    (err_then _ (codes "{") _ _ _ _ c.in_ok-push_bytes-in-Struct.ensures.ok (err_then _
    (fields_text true (vals_of (map val_of c.as_slice-in-Struct.result.now)) (fields_in c.args.dtype.now)) _ _ _ _ c.in_ok-push_struct-in-Struct.ensures.ok
    (err_none _ (codes "}") _ _ c.push_bytes-in-Struct-2.ensures.err)))

pub push_elements-push_value-requires : goal.push_elements-push_value-requires
push_elements-push_value-requires t c = (let e = one_size c.args.values.now c.loop-i.i c.index-values-i.result (omega arith) c.index-values-i.is in omega arith, tt)

pub push_elements-loop-i-init : goal.push_elements-loop-i-init
push_elements-loop-i-init t c = (refl, omega arith)

pub push_elements-returns-in_err-push_comma-clause-front : goal.push_elements-returns-in_err-push_comma-clause-front
push_elements-returns-in_err-push_comma-clause-front t c = on_err _ _ (front_kept _ _ _ _ _ c.loop-i.invariant.0 c.loop-i.invariant.1 c.in_err-push_comma.ensures.err)

pub push_elements-returns-in_err-push_value-clause-front : goal.push_elements-returns-in_err-push_value-clause-front
push_elements-returns-in_err-push_value-clause-front t c =
    let step = elements_step c.args.values.now c.loop-i.i c.index-values-i.result (c.loop-i.i == 0) c.args.element.now (omega arith) c.index-values-i.is in
    on_err _ _ (front_next _ (comma (c.loop-i.i == 0) ++ value_text (val_of c.index-values-i.result) c.args.element.now) _ _ c.loop-i.out.items _
    (c.loop-i.invariant.0 ∙ ap (λ xs. c.loop-i.out.items ++ xs) step) c.loop-i.invariant.1
    (front_then (comma (c.loop-i.i == 0)) _ _ _ _ c.in_ok-push_comma.ensures.ok c.in_err-push_value.ensures.front))

pub push_elements-loop-i-preserved : goal.push_elements-loop-i-preserved
push_elements-loop-i-preserved t c = elements_more c.args.values.now c.loop-i.i c.index-values-i.result c.args.element.now _ _ c.push_comma.new.out.items
    c.push_value.new.out.items c.loop-i.out.items
    (omega arith) c.index-values-i.is c.loop-i.invariant.0 c.loop-i.invariant.1 c.in_ok-push_comma.ensures.ok c.in_ok-push_value.ensures.ok

pub push_field-returns-in_err-push_comma-clause-front : goal.push_field-returns-in_err-push_comma-clause-front
push_field-returns-in_err-push_comma-clause-front t c = on_err _ _ (front_none _ _ _ c.in_err-push_comma.ensures.err)

pub push_field-returns-in_err-push_quoted-clause-front : goal.push_field-returns-in_err-push_quoted-clause-front
push_field-returns-in_err-push_quoted-clause-front t c =
    on_err _ _ (subst (λ name. AppendsFront (comma c.args.is_first ++ (quoted name ++ (codes ":" ++ value_text (val_of c.args.value.now) c.args.dtype.now))) c.args.out.now.items c.push_quoted.new.out.items) (c.as_bytes.ensures.value ∙ c.as_str.ensures)
    (front_then (comma c.args.is_first) _ _ _ _ c.in_ok-push_comma.ensures.ok (front_first (quoted c.as_bytes.result.now) _ _ _ c.in_err-push_quoted.ensures.front)))

pub push_field-returns-in_err-push_bytes-clause-front : goal.push_field-returns-in_err-push_bytes-clause-front
push_field-returns-in_err-push_bytes-clause-front t c =
    on_err _ _ (subst (λ name. AppendsFront (comma c.args.is_first ++ (quoted name ++ (codes ":" ++ value_text (val_of c.args.value.now) c.args.dtype.now))) c.args.out.now.items c.push_bytes.new.out.items) (c.as_bytes.ensures.value ∙ c.as_str.ensures)
    (front_then (comma c.args.is_first) _ _ _ _ c.in_ok-push_comma.ensures.ok (front_then (quoted c.as_bytes.result.now) _ _ _ _ c.in_ok-push_quoted.ensures.ok (front_none _ _ _ c.in_err-push_bytes.ensures.err))))

pub push_field-returns-clause-front : goal.push_field-returns-clause-front
push_field-returns-clause-front t c =
    subst (λ name. OnErr c.push_value.result (AppendsFront (comma c.args.is_first ++ (quoted name ++ (codes ":" ++ value_text (val_of c.args.value.now) c.args.dtype.now))) c.args.out.now.items c.push_value.new.out.items)) (c.as_bytes.ensures.value ∙ c.as_str.ensures)
    (err_then _ (comma c.args.is_first) _ _ _ _ c.in_ok-push_comma.ensures.ok (err_then _ (quoted c.as_bytes.result.now) _ _ _ _ c.in_ok-push_quoted.ensures.ok (err_then _ (codes ":") _ _ _ _ c.in_ok-push_bytes.ensures.ok c.push_value.ensures.front)))

pub push_fields-push_field-requires : goal.push_fields-push_field-requires
push_fields-push_field-requires t c = (let e = one_size c.args.values.now c.loop-i.i c.index-values-i.result (omega arith) c.index-values-i.is in omega arith, tt)

pub push_fields-loop-i-init : goal.push_fields-loop-i-init
push_fields-loop-i-init t c = (refl, omega arith)

pub push_fields-returns-in_default-clause-ok : goal.push_fields-returns-in_default-clause-ok
push_fields-returns-in_default-clause-ok t c =
    nothing_more _ _ _ c.loop-i.invariant.0 (fields_past c.args.fields.now c.loop-i.i _ _ (sym c.field_at.ensures ∙ ap (option_map (λ p. (p.0.now, p.1.now))) c.in_default.is))

pub push_fields-returns-in_err-push_field-clause-front : goal.push_fields-returns-in_err-push_field-clause-front
push_fields-returns-in_err-push_field-clause-front t c =
    let step = fields_step c.args.values.now c.args.fields.now c.loop-i.i c.index-values-i.result (c.in-Some.name.now, c.in-Some.dtype.now) (c.loop-i.i == 0) (omega arith) c.index-values-i.is (sym c.in-Some.ensures) in
    on_err _ _ (front_next _ _ _ _ c.loop-i.out.items _ (c.loop-i.invariant.0 ∙ ap (λ xs. c.loop-i.out.items ++ xs) step) c.loop-i.invariant.1 c.in_err-push_field.ensures.front)

pub push_fields-loop-i-preserved : goal.push_fields-loop-i-preserved
push_fields-loop-i-preserved t c =
    fields_more c.args.values.now c.args.fields.now c.loop-i.i c.index-values-i.result (c.in-Some.name.now, c.in-Some.dtype.now) _ _ _ _ (omega arith) c.index-values-i.is (sym c.in-Some.ensures) c.loop-i.invariant.0 c.loop-i.invariant.1 c.in_ok-push_field.ensures.ok

pub push_struct-returns-in-None-clause-ok : goal.push_struct-returns-in-None-clause-ok
push_struct-returns-in-None-clause-ok t c =
    nothing_more _ _ _ refl (ap (λ o. fields_text true (vals_of (map val_of c.args.values.now)) (unwrap_or o no_fields)) (sym c.in-None.ensures) ∙ no_fields_text true _)
