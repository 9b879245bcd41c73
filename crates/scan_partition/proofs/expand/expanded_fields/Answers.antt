use Rattle.std.proofs.Common.{◌≡◌, ◌≤◌, ap, sym, subst, ◌∙◌}
use Rattle.std.specs.List.{All}
use Rattle.scan_expr.specs.Bound.{Bound, bound_of, exprs_of}
use Rattle.scan_expr.specs.Expr.{pack, parts_of}
use Rattle.scan_values.specs.DataType.{depth_of, nullability_of}
use Rattle.scan_values.specs.declared.ptype.Nullability.TheVariants.{NonNullable}
use Rattle.scan_expr.specs.Infer.{infer}
use Rattle.scan_partition.specs.Expand.{masked, items_of}
use Rattle.scan_partition.proofs.Loops.{scopes_of, if_ok}
use Rattle.scan_partition.proofs.FieldParts.{field_expr, field_bounds, field_parts, masked_fits}
use Rattle.scan_partition.proofs.expand.expanded_fields.Goals as goal

pub pack-requires-clause-scopes : goal.pack-requires-clause-scopes
pack-requires-clause-scopes c =
    subst (All (λ (b : Bound). b.scope ≡ c.args.scope.now.value)) (sym (c.in_ok-fields.ensures ∙ ap (field_bounds c.args.scope.now.value) c.as_slice.ensures)) (scopes_of c.args.scope.now.value field_expr c.args.names)

pub pack-requires-clause-shallow : goal.pack-requires-clause-shallow
pack-requires-clause-shallow c =
    subst (λ ps. depth_of (infer c.args.scope.now.value (pack ps NonNullable)) ≤ 66)
    (sym (ap (λ bs. parts_of c.args.names (exprs_of bs)) (c.in_ok-fields.ensures ∙ ap (field_bounds c.args.scope.now.value) c.as_slice.ensures) ∙ field_parts c.args.scope.now.value c.args.names))
    (masked_fits c.args.scope.now.value (nullability_of c.args.scope.now.value) (pack (items_of c.args.names) NonNullable) c.requires).0

pub returns : goal.returns
returns c =
    let s = c.args.scope.now.value in
    let whole : c.in_ok-whole.whole.expr ≡ pack (items_of c.args.names) NonNullable =
    ap (λ (b : Bound). b.expr) c.in_ok-whole.ensures ∙ ap (λ bs. pack (parts_of c.args.names (exprs_of bs)) NonNullable) (c.in_ok-fields.ensures ∙ ap (field_bounds s) c.as_slice.ensures) ∙ ap (λ ps. pack ps NonNullable) (field_parts s c.args.names) in
    if_ok _ _ c.masked.result (λ b h. h ∙ ap (λ e. bound_of s (masked (nullability_of s) e)) whole) c.masked.ensures
