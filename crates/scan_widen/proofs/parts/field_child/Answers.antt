use Rattle.std.proofs.Common.{◌≡◌, ◌+◌, ◌<◌, ◌∙◌, sym, ap, subst, arith, Some, None}
use Rattle.std.specs.List.{position}
use Rattle.scan_values.specs.DataType.{fields_of, nullability_of}
use Rattle.scan_values.specs.Kinds.{struct_fields_of}
use Rattle.scan_layout.specs.Layout.{Layout, dtype_of, kids_of, count}
use Rattle.scan_layout.specs.Slots.{one_where}
use Rattle.scan_widen.specs.Under.{kid_at}
use Rattle.scan_widen.specs.Parts.{IsGoodField}
use Rattle.scan_widen.proofs.Forming.{field_found, field_absent, field_good}
use Rattle.scan_widen.proofs.parts.field_child.Goals as goal

pub child_at-requires : goal.child_at-requires
child_at-requires c =
    let l = c.args.node.now in
    let own : struct_fields_of (dtype_of l) ≡ Some (fields_of c.fields_of-fields.result.now) = ap struct_fields_of (sym c.dtype.ensures) ∙ c.fields_of-fields.ensures in
    let found = field_found l c.args.name.now c.fields_of-fields.result.now c.in-Some.place c.requires.form own c.in-Some.ensures in
    let first : c.first_field.result ≡ one_where (nullability_of (dtype_of l)) = c.first_field.ensures ∙ ap one_where (c.nullability.ensures ∙ ap nullability_of c.dtype-in-Some.ensures) in
    subst (λ k. k + c.in-Some.place < count (kids_of l)) (sym first) found.0

pub returns-in-Some-clause-is : goal.returns-in-Some-clause-is
returns-in-Some-clause-is c =
    let l = c.args.node.now in
    let own : struct_fields_of (dtype_of l) ≡ Some (fields_of c.fields_of-fields.result.now) = ap struct_fields_of (sym c.dtype.ensures) ∙ c.fields_of-fields.ensures in
    let found = field_found l c.args.name.now c.fields_of-fields.result.now c.in-Some.place c.requires.form own c.in-Some.ensures in
    let first : c.first_field.result ≡ one_where (nullability_of (dtype_of l)) = c.first_field.ensures ∙ ap one_where (c.nullability.ensures ∙ ap nullability_of c.dtype-in-Some.ensures) in
    ap (λ x. Some x) (c.child_at.ensures ∙ ap (λ k. kid_at (kids_of l) (k + c.in-Some.place)) first) ∙ sym found.1

pub returns-in-Some-clause-good : goal.returns-in-Some-clause-good
returns-in-Some-clause-good c =
    let l = c.args.node.now in
    let own : struct_fields_of (dtype_of l) ≡ Some (fields_of c.fields_of-fields.result.now) = ap struct_fields_of (sym c.dtype.ensures) ∙ c.fields_of-fields.ensures in
    let found = field_found l c.args.name.now c.fields_of-fields.result.now c.in-Some.place c.requires.form own c.in-Some.ensures in
    let first : c.first_field.result ≡ one_where (nullability_of (dtype_of l)) = c.first_field.ensures ∙ ap one_where (c.nullability.ensures ∙ ap nullability_of c.dtype-in-Some.ensures) in
    let is : c.child_at.result.now ≡ kid_at (kids_of l) (one_where (nullability_of (dtype_of l)) + c.in-Some.place) = c.child_at.ensures ∙ ap (λ k. kid_at (kids_of l) (k + c.in-Some.place)) first in
    subst (λ kid. IsGoodField l kid c.args.wanted.now) (sym is) (field_good l c.args.name.now c.args.wanted.now _ c.requires.form c.requires.record c.requires.fits found.1)

pub returns-in-None-clause-is : goal.returns-in-None-clause-is
returns-in-None-clause-is c =
    let own : struct_fields_of (dtype_of c.args.node.now) ≡ Some (fields_of c.fields_of-fields.result.now) = ap struct_fields_of (sym c.dtype.ensures) ∙ c.fields_of-fields.ensures in
    sym (field_absent c.args.node.now c.args.name.now c.fields_of-fields.result.now own c.in-None.ensures)
