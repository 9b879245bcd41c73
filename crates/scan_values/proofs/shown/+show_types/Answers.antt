use Rattle.std.proofs.Common.{◌+◌, ◌*◌, ◌<◌, ◌==◌, ◌++◌, true, option_map, refl, sym, ap, ◌∙◌, arith, rules}
use Rattle.std.proofs.Math.ListN.{drop_of_length-le}
use Rattle.std.proofs.Output.{has_written_append, has_written_of_eq}
use Rattle.scan_values.specs.DataType.{fields_of, size_of, fields_size}
use Rattle.scan_values.specs.Shown.{shown_kind, shown_null, shown_field, shown_fields}
use Rattle.scan_values.proofs.Left.{begun, goes_on, ended}
use Rattle.scan_values.proofs.Showing.{kind_and_null, of_list, of_struct, next_field, no_field}
use Rattle.scan_values.proofs.shown.+show_types.Goals as goal

-- ---- a dtype by its kind
pub show_dtype-returns : goal.show_dtype-returns
show_dtype-returns g t c =
    λ p ok.
    let kind = c.in_ok-show_kind.ensures p (refl {a = true}) in
    has_written_of_eq g.W.Write.write_str_gives _ _ _ _
    (ap (λ mark. shown_kind c.args.dtype.now ++ mark) (c.null_mark.ensures ∙ ap shown_null c.nullability.ensures) ∙ kind_and_null c.args.dtype.now)
    (has_written_append g.W.Write.write_str_gives _ _ _ _ _ kind (c.write_str.ensures.writes kind.plain ok))

pub show_kind-show_list-requires : goal.show_kind-show_list-requires
show_kind-show_list-requires g t c =
    let e = (of_list c.args.dtype.now c.in-Some.element.now c.in-Some.ensures).1 in
    let smaller : 4 * size_of c.in-Some.element.now + 2 < 4 * size_of c.args.dtype.now = omega (arith, e) in
    search rules

pub show_kind-returns-in-Some : goal.show_kind-returns-in-Some
show_kind-returns-in-Some g t c =
    λ p ok. has_written_of_eq g.W.Write.write_str_gives _ _ _ _ (of_list c.args.dtype.now c.in-Some.element.now c.in-Some.ensures).0 (c.show_list.ensures p ok)

pub show_kind-show_struct-requires : goal.show_kind-show_struct-requires
show_kind-show_struct-requires g t c =
    let fields = fields_of c.in-Some-as_struct_fields_opt.fields.now in
    let e = (of_struct c.args.dtype.now fields c.in-Some-as_struct_fields_opt.ensures).1 in
    let smaller : 4 * fields_size fields + 2 < 4 * size_of c.args.dtype.now = omega (arith, e) in
    search rules

pub show_kind-returns-in-Some-as_struct_fields_opt : goal.show_kind-returns-in-Some-as_struct_fields_opt
show_kind-returns-in-Some-as_struct_fields_opt g t c =
    λ p ok. has_written_of_eq g.W.Write.write_str_gives _ _ _ _ (of_struct c.args.dtype.now (fields_of c.in-Some-as_struct_fields_opt.fields.now) c.in-Some-as_struct_fields_opt.ensures).0 (c.show_struct.ensures p ok)

-- ---- fields
pub show_fields-show_field-requires : goal.show_fields-show_field-requires
show_fields-show_field-requires g t c =
    let e = (next_field c.args.fields.now c.loop-i.i (c.in-Some.name.now, c.in-Some.dtype.now) (sym c.in-Some.ensures)).0 in
    let smaller : 4 * size_of c.in-Some.dtype.now + 2 < 4 * fields_size (fields_of c.args.fields.now) + 1 = omega (arith, e) in
    search rules

pub show_fields-loop-i-init : goal.show_fields-loop-i-init
show_fields-loop-i-init g t c = λ p. begun g.W.Write.write_str_gives _ _ p

pub show_fields-returns-in_default : goal.show_fields-returns-in_default
show_fields-returns-in_default g t c =
    λ p ok.
    ended g.W.Write.write_str_gives _ _ _ _
    (no_field c.args.fields.now c.loop-i.i (sym c.field_at.ensures ∙ ap (option_map (λ q. (q.0.now, q.1.now))) c.in_default.is))
    (c.loop-i.invariant p)

pub show_fields-loop-i-preserved : goal.show_fields-loop-i-preserved
show_fields-loop-i-preserved g t c =
    λ p.
    let so_far = c.loop-i.invariant p in
    goes_on g.W.Write.write_str_gives _ _ _ _ (shown_field (c.loop-i.i == 0) c.in-Some.name.now c.in-Some.dtype.now) _ _
    (next_field c.args.fields.now c.loop-i.i (c.in-Some.name.now, c.in-Some.dtype.now) (sym c.in-Some.ensures)).1
    so_far (c.in_ok-show_field.ensures so_far.wrote.plain (refl {a = true}))

pub show_fields-returns : goal.show_fields-returns
show_fields-returns g t c =
    λ p ok.
    ended g.W.Write.write_str_gives _ _ _ _
    (ap (λ fs. shown_fields (c.loop-i.i == 0) (fields_of fs)) (drop_of_length-le c.args.fields.now (omega arith)))
    (c.loop-i.invariant p)
