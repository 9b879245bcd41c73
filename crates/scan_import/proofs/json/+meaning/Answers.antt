use Rattle.std.proofs.Common.{◌+◌, ◌-◌, ◌∷◌, drop, map, Some, sym, ap, ◌∙◌, arith}
use Rattle.std.specs.Prelude.{option_map}
use Rattle.serde_json.specs.View.{view, items_view}
use Rattle.scan_values.specs.Kinds.{element_of, struct_fields_of}
use Rattle.scan_values.specs.Val.{list_val, struct_val, vals_of}
use Rattle.scan_values.specs.Values.{val_of}
use Rattle.scan_import.specs.Meaning.{list_from, members_in, text_in, value_within}
use Rattle.scan_import.proofs.Jsons.{items_viewed, list_meant, list_nothing, member_next, members_viewed, row_meant, row_nothing, row_other, struct_of_fields, text_meant, value_as, value_level}
use Rattle.scan_import.proofs.Meant.{count_step, item_at, meant_step, meant_stop}
use Rattle.scan_import.proofs.json.+meaning.Goals as goal

pub json_value-returns-in-String : goal.json_value-returns-in-String
json_value-returns-in-String t c =
    let level = value_level c.args.levels c.args.dtype.now (view c.args.json.now) (omega arith) in
    value_as c.text_of.result _ _
    (ap (text_in c.args.dtype.now) c.as_str.ensures.value ∙ (text_meant (value_within (c.args.levels - 1)) c.args.dtype.now c.args.json.now c.in-String.text c.in-String.is ∙ sym level)) c.text_of.ensures

pub json_value-returns-in-Array : goal.json_value-returns-in-Array
json_value-returns-in-Array t c =
    let level = value_level c.args.levels c.args.dtype.now (view c.args.json.now) (omega arith) in
    value_as c.list_value.result _ _
    (ap (λ xs. list_from (value_within (c.args.levels - 1)) (element_of c.args.dtype.now) (items_view xs)) c.as_slice.ensures.value
    ∙ (items_viewed (value_within (c.args.levels - 1)) c.args.dtype.now c.args.json.now c.in-Array.items c.in-Array.is ∙ sym level)) c.list_value.ensures

pub json_value-returns-in-Object : goal.json_value-returns-in-Object
json_value-returns-in-Object t c =
    let level = value_level c.args.levels c.args.dtype.now (view c.args.json.now) (omega arith) in
    value_as c.struct_value.result _ _ (members_viewed (value_within (c.args.levels - 1)) c.args.dtype.now c.args.json.now c.in-Object.field-0 c.in-Object.is ∙ sym level) c.struct_value.ensures

pub list_value-returns-in-Ok : goal.list_value-returns-in-Ok
list_value-returns-in-Ok t c =
    ap (λ vs. Some (list_val (vals_of vs))) c.new.ensures
    ∙ list_meant (value_within c.args.levels) (element_of c.args.dtype.now) c.in-Some.element.now c.args.items.now c.in-Ok.values.items c.in-Some.ensures c.in-Ok.ensures

pub list_value-returns-in-Err-Nothing : goal.list_value-returns-in-Err-Nothing
list_value-returns-in-Err-Nothing t c =
    list_nothing (value_within c.args.levels) (element_of c.args.dtype.now) c.in-Some.element.now c.args.items.now c.in-Err-Nothing.field-0-0 c.in-Some.ensures (rw c.in-Err-Nothing.field-0-is at c.in-Err-Nothing.ensures)

pub items_value-returns-in-None : goal.items_value-returns-in-None
items_value-returns-in-None t c =
    let xs = c.args.items.now in
    let i = c.loop-i.i in
    let x = c.index-items-i.result in
    meant_stop val_of c.loop-i.values.items i (map (λ j. value_within c.args.levels c.args.element.now (view j)) (drop i xs)) (map (λ j. value_within c.args.levels c.args.element.now (view j)) (drop (i + 1) xs)) _
    (ap (map (λ j. value_within c.args.levels c.args.element.now (view j))) (item_at xs i x (omega arith) c.index-items-i.is)
    ∙ ap (λ o. o ∷ map (λ j. value_within c.args.levels c.args.element.now (view j)) (drop (i + 1) xs)) (sym c.in_ok-found.ensures ∙ ap (option_map val_of) c.in-None.is))
    c.loop-i.invariant.same c.loop-i.invariant.count

pub struct_value-returns-then-not-has_fields : goal.struct_value-returns-then-not-has_fields
struct_value-returns-then-not-has_fields t c =
    row_other (value_within c.args.levels) c.in-Some.fields.now (view c.args.json.now) (sym c.has_fields.ensures ∙ c.if-not-has_fields.true)
    ∙ struct_of_fields (value_within c.args.levels) (struct_fields_of c.args.dtype.now) c.in-Some.fields.now (view c.args.json.now) c.in-Some.ensures

pub struct_value-returns-in-Ok : goal.struct_value-returns-in-Ok
struct_value-returns-in-Ok t c =
    ap (λ vs. Some (struct_val (vals_of vs))) c.new.ensures
    ∙ (row_meant (value_within c.args.levels) c.in-Some.fields.now (view c.args.json.now) c.in-Ok.values.items (sym c.has_fields.ensures ∙ c.if-not-has_fields.false) c.in-Ok.ensures
    ∙ struct_of_fields (value_within c.args.levels) (struct_fields_of c.args.dtype.now) c.in-Some.fields.now (view c.args.json.now) c.in-Some.ensures)

pub struct_value-returns-in-Err-Nothing : goal.struct_value-returns-in-Err-Nothing
struct_value-returns-in-Err-Nothing t c =
    row_nothing (value_within c.args.levels) c.in-Some.fields.now (view c.args.json.now) c.in-Err-Nothing.field-0-0 (sym c.has_fields.ensures ∙ c.if-not-has_fields.false) (rw c.in-Err-Nothing.field-0-is at c.in-Err-Nothing.ensures)
    ∙ struct_of_fields (value_within c.args.levels) (struct_fields_of c.args.dtype.now) c.in-Some.fields.now (view c.args.json.now) c.in-Some.ensures

pub members_value-returns-in-None : goal.members_value-returns-in-None
members_value-returns-in-None t c =
    let fs = c.args.fields.now in
    let i = c.loop-i.i in
    let j = view c.args.json.now in
    let inner = value_within c.args.levels in
    meant_stop val_of c.loop-i.values.items i (members_in inner (drop i fs) j) (members_in inner (drop (i + 1) fs) j) _
    (member_next inner fs j i c.name_at-name.result.now c.dtype_at-dtype.result.now c.name_at-name.ensures c.dtype_at-dtype.ensures
    ∙ ap (λ o. o ∷ members_in inner (drop (i + 1) fs) j) (sym c.in_ok-found.ensures ∙ ap (option_map val_of) c.in-None.is))
    c.loop-i.invariant.same c.loop-i.invariant.count

pub members_value-loop-i-preserved : goal.members_value-loop-i-preserved
members_value-loop-i-preserved t c =
    let fs = c.args.fields.now in
    let i = c.loop-i.i in
    let j = view c.args.json.now in
    let inner = value_within c.args.levels in
    record {
      same = meant_step val_of c.loop-i.values.items c.push.new.self.items c.in-Some.value _ (members_in inner (drop i fs) j) (members_in inner (drop (i + 1) fs) j) _
          c.in_ok-push-in-Some.ensures.items (ap (option_map val_of) (sym c.in-Some.is) ∙ c.in_ok-found.ensures)
          (member_next inner fs j i c.name_at-name.result.now c.dtype_at-dtype.result.now c.name_at-name.ensures c.dtype_at-dtype.ensures) c.loop-i.invariant.same;
      count = count_step c.loop-i.values.items c.push.new.self.items c.in-Some.value i c.in_ok-push-in-Some.ensures.items c.loop-i.invariant.count;
    }
