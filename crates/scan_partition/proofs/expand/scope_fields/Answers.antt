use Rattle.std.proofs.Common.{◌≡◌, ap, sym, subst, ◌∙◌}
use Rattle.scan_values.specs.NameFaults.{field_names}
use Rattle.scan_expr.specs.Infer.{struct_fields}
use Rattle.scan_partition.specs.Expand.{items_of}
use Rattle.scan_partition.specs.Rewrite.{AllNodesHold}
use Rattle.scan_partition.proofs.FieldParts.{field_bounds}
use Rattle.scan_partition.proofs.OwnFields.{own_held, names_lent}
use Rattle.scan_partition.proofs.Loops.{if_ok}
use Rattle.scan_partition.proofs.expand.scope_fields.Goals as goal

pub field_roots-requires : goal.field_roots-requires
field_roots-requires c =
    let s = c.args.scope.now.value in
    let own : c.names.result.now ≡ field_names (struct_fields s) = c.names.ensures ∙ sym (names_lent c.deref.result.now c.in-Some.fields.now c.in-Some.ensures) ∙ ap (λ d. field_names (struct_fields d)) c.deref.ensures in
    subst (λ ns. AllNodesHold s (items_of ns)) (sym own) (own_held s)

pub returns-in-Some : goal.returns-in-Some
returns-in-Some c =
    let s = c.args.scope.now.value in
    let own : c.names.result.now ≡ field_names (struct_fields s) = c.names.ensures ∙ sym (names_lent c.deref.result.now c.in-Some.fields.now c.in-Some.ensures) ∙ ap (λ d. field_names (struct_fields d)) c.deref.ensures in
    if_ok _ _ c.field_roots.result (λ v h. h ∙ ap (field_bounds s) own) c.field_roots.ensures
