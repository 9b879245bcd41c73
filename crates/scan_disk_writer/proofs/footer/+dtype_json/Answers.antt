use Rattle.std.proofs.Common.{◌+◌, ◌∙◌, drop, map, sym, arith}
use Rattle.std.proofs.lemmas.List.{drop_all}
use Rattle.serde_json.proofs.Views.{view-Array}
use Rattle.serde_json.specs.View.{view}
use Rattle.scan_values.specs.DataType.{fields_of}
use Rattle.scan_encode.proofs.Falling.{field_falls, fields_fall, element_falls}
use Rattle.scan_disk_writer.proofs.Jsons.{field_json, field_next, step_one, step_end, json_as, named_as, struct_read, list_read, scalar_read, fields_read}
use Rattle.scan_disk_writer.proofs.footer.+dtype_json.Goals as goal

pub dtype_json-fields_json-requires : goal.dtype_json-fields_json-requires
dtype_json-fields_json-requires t c = let s = fields_fall c.args.dtype.now (fields_of c.in-Some.fields.now) c.in-Some.ensures in (omega (arith, s), tt)

pub items_json-dtype_json-requires : goal.items_json-dtype_json-requires
items_json-dtype_json-requires t c = let s = element_falls c.args.dtype.now c.in-Some.element.now c.in-Some.ensures in (omega (arith, s), tt)

pub fields_json-dtype_json-requires : goal.fields_json-dtype_json-requires
fields_json-dtype_json-requires t c = let s = field_falls c.args.fields.now c.loop-i.i c.dtype_at-dtype.result.now c.dtype_at-dtype.ensures in (omega (arith, s), tt)

pub dtype_json-returns-in_ok-struct_type-in-Some : goal.dtype_json-returns-in_ok-struct_type-in-Some
dtype_json-returns-in_ok-struct_type-in-Some t c =
    c.in_ok-struct_type-in-Some.ensures
    ∙ struct_read c.args.dtype.now (fields_of c.in-Some.fields.now) (view c.in_ok-fields-in-Some.fields) c.is_nullable-nullable.result c.in-Some.ensures c.in_ok-fields-in-Some.ensures c.is_nullable-nullable.ensures

pub items_json-returns-in_ok-list_type-in-Some : goal.items_json-returns-in_ok-list_type-in-Some
items_json-returns-in_ok-list_type-in-Some t c =
    c.in_ok-list_type-in-Some.ensures
    ∙ list_read c.args.dtype.now c.in-Some.element.now (view c.in_ok-element-in-Some.element) c.is_nullable-nullable.result c.in-Some.ensures c.in_ok-element-in-Some.ensures c.is_nullable-nullable.ensures

pub items_json-returns-in-None : goal.items_json-returns-in-None
items_json-returns-in-None t c = json_as c.scalar_json.result _ _ (scalar_read c.args.dtype.now c.requires (sym c.in-None.ensures)) c.scalar_json.ensures

pub fields_json-loop-i-preserved : goal.fields_json-loop-i-preserved
fields_json-loop-i-preserved t c =
    let fs = c.args.fields.now in
    let i = c.loop-i.i in
    let n = c.name_at-name.result.now in
    let d = c.dtype_at-dtype.result.now in
    step_one field_json c.loop-i.made.items c.push.new.self.items c.in_ok-field.field (drop i fs) (drop (i + 1) fs) (n, d) (map field_json fs) c.in_ok-push.ensures.items
    (named_as n d (view c.in_ok-json.json) (view c.in_ok-field.field) c.in_ok-json.ensures c.in_ok-field.ensures) (field_next fs i n d c.name_at-name.ensures c.dtype_at-dtype.ensures) c.loop-i.invariant

pub fields_json-returns : goal.fields_json-returns
fields_json-returns t c =
    let fs = c.args.fields.now in
    view-Array c.loop-i.made
    ∙ fields_read c.loop-i.made.items fs
    (step_end field_json c.loop-i.made.items (drop c.loop-i.i fs) (map field_json fs) (drop_all c.loop-i.i fs (omega (arith, c.nfields-i-end.ensures, c.loop-i-test.false))) c.loop-i.invariant)
