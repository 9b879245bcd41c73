use Rattle.std.proofs.Common.{arith, ◌≡◌, ◌≤◌, ◌<◌, ◌^◌, length, [], map, ap, sym, subst, ◌∙◌}
use Rattle.scan_values.specs.DataType.{Fields, struct_type, fields_depth}
use Rattle.scan_values.specs.declared.ptype.Nullability.TheVariants.{NonNullable}
use Rattle.scan_expr.specs.Bound.{Bound, bound_of}
use Rattle.scan_partition.specs.Partition.{Group, cuts, groups_of, joined_type}
use Rattle.scan_partition.specs.Planted.{numbered_cuts}
use Rattle.scan_partition.specs.Plans.{group_seen}
use Rattle.scan_partition.specs.Divided.{type_of_part, group_part}
use Rattle.scan_partition.specs.Dividing.{parting}
use Rattle.scan_partition.specs.Items.{item_name}
use Rattle.scan_partition.specs.Leaves.{scope_in}
use Rattle.scan_values.specs.NameFaults.{field_names}
use Rattle.scan_expr.specs.Infer.{struct_fields}
use Rattle.scan_partition.proofs.Pieces.{joined_names}
use Rattle.scan_partition.proofs.Dividing.{joined_deep}
use Rattle.scan_partition.proofs.Assembling.{found_cuts, few_cuts, assembled, root_planted, root_requires, same_divided, pieces_divided}
use Rattle.scan_partition.proofs.divide.divide.Goals as goal

pub struct_within-requires-clause-shallow : goal.struct_within-requires-clause-shallow
struct_within-requires-clause-shallow c =
    let e = c.args.expr.now.expr in
    let s = c.args.expr.now.scope in
    let found = found_cuts e c.new-found.result.items _ c.deref.result.now c.new-found.ensures.items c.in_ok-add_cuts.ensures.cuts c.deref.ensures.value in
    let groups : map group_seen c.deref-2.result.now ≡ groups_of (cuts e) = ap (map group_seen) c.deref-2.ensures.value ∙ c.in_ok-plan.ensures.groups ∙ ap groups_of found in
    subst (λ (fs : Fields). fields_depth fs ≤ 65)
    (sym (assembled c.args.how s c.shared_scope.result.now.value e _ _ _ c.shared_scope.ensures groups c.in_ok-pieces.ensures.names c.in_ok-pieces.ensures.dtypes))
    (joined_deep (parting c.args.how s) (groups_of (cuts e)) c.requires.parts)

pub over-requires : goal.over-requires
over-requires c =
    let e = c.args.expr.now.expr in
    let s = c.args.expr.now.scope in
    let found = found_cuts e c.new-found.result.items _ c.deref.result.now c.new-found.ensures.items c.in_ok-add_cuts.ensures.cuts c.deref.ensures.value in
    let groups : map group_seen c.deref-2.result.now ≡ groups_of (cuts e) = ap (map group_seen) c.deref-2.ensures.value ∙ c.in_ok-plan.ensures.groups ∙ ap groups_of found in
    let scope : c.in_ok-scope.scope.value ≡ joined_type (type_of_part (parting c.args.how s)) (cuts e) =
    c.in_ok-scope.ensures.ok ∙ c.struct_within.ensures
    ∙ ap (λ (fs : Fields). struct_type fs NonNullable) (assembled c.args.how s c.shared_scope.result.now.value e _ _ _ c.shared_scope.ensures groups c.in_ok-pieces.ensures.names c.in_ok-pieces.ensures.dtypes) in
    ap (λ d. field_names (struct_fields d)) scope ∙ joined_names (type_of_part (parting c.args.how s)) (groups_of (cuts e)) ∙ ap (map (λ (g : Group). item_name g.0)) (sym (c.in_ok-plan.ensures.groups ∙ ap groups_of found))

pub plant-requires : goal.plant-requires
plant-requires c =
    let e = c.args.expr.now.expr in
    let s = c.args.expr.now.scope in
    let found = found_cuts e c.new-found.result.items _ c.deref.result.now c.new-found.ensures.items c.in_ok-add_cuts.ensures.cuts c.deref.ensures.value in
    let small : length c.deref.result.now < 2 ^ 64 = omega arith in
    let groups : map group_seen c.deref-2.result.now ≡ groups_of (cuts e) = ap (map group_seen) c.deref-2.ensures.value ∙ c.in_ok-plan.ensures.groups ∙ ap groups_of found in
    let scope : c.in_ok-scope.scope.value ≡ joined_type (type_of_part (parting c.args.how s)) (cuts e) =
    c.in_ok-scope.ensures.ok ∙ c.struct_within.ensures
    ∙ ap (λ (fs : Fields). struct_type fs NonNullable) (assembled c.args.how s c.shared_scope.result.now.value e _ _ _ c.shared_scope.ensures groups c.in_ok-pieces.ensures.names c.in_ok-pieces.ensures.dtypes) in
    root_requires (scope_in c.in_ok-leaves.leaves) _ e _ _ (c.in_ok-leaves.ensures.scope ∙ scope) (c.in_ok-leaves.ensures.groups ∙ c.in_ok-plan.ensures.groups ∙ ap groups_of found)
    (c.in_ok-leaves.ensures.leaves ∙ c.in_ok-plan.ensures.leaves ∙ ap (numbered_cuts []) found) (c.requires.root (few_cuts e c.deref.result.now found small))

pub invariant_of-result : goal.invariant_of-result
invariant_of-result c =
    pieces_divided (parting c.args.how c.shared_scope.result.now.value) (map group_seen c.deref-2.result.now) c.in_ok-pieces.pieces.items.items c.in_ok-pieces.pieces.names.items c.in_ok-pieces.pieces.dtypes.items c.in_ok-pieces.pieces.parts.items c.in_ok-root.root
    c.in_ok-pieces.ensures.items c.in_ok-pieces.ensures.names c.in_ok-pieces.ensures.dtypes c.in_ok-pieces.ensures.parts
    (ap (λ (b : Bound). b.scope) c.in_ok-root.ensures.expr ∙ c.in_ok-leaves.ensures.scope ∙ c.in_ok-scope.ensures.ok ∙ c.struct_within.ensures)

pub returns-clause-exact : goal.returns-clause-exact
returns-clause-exact c =
    let e = c.args.expr.now.expr in
    let s = c.args.expr.now.scope in
    let found = found_cuts e c.new-found.result.items _ c.deref.result.now c.new-found.ensures.items c.in_ok-add_cuts.ensures.cuts c.deref.ensures.value in
    let small : length c.deref.result.now < 2 ^ 64 = omega arith in
    let groups : map group_seen c.deref-2.result.now ≡ groups_of (cuts e) = ap (map group_seen) c.deref-2.ensures.value ∙ c.in_ok-plan.ensures.groups ∙ ap groups_of found in
    let scope : c.in_ok-scope.scope.value ≡ joined_type (type_of_part (parting c.args.how s)) (cuts e) =
    c.in_ok-scope.ensures.ok ∙ c.struct_within.ensures
    ∙ ap (λ (fs : Fields). struct_type fs NonNullable) (assembled c.args.how s c.shared_scope.result.now.value e _ _ _ c.shared_scope.ensures groups c.in_ok-pieces.ensures.names c.in_ok-pieces.ensures.dtypes) in
    same_divided _ _ _ _ _ _ (c.in_ok-pieces.ensures.items ∙ ap (map (λ (g : Group). g.0)) groups)
    (c.in_ok-pieces.ensures.parts ∙ (λ i. map (group_part (parting c.args.how (c.shared_scope.ensures i))) (groups i)))
    (c.in_ok-root.ensures.expr ∙ (λ i. bound_of ((c.in_ok-leaves.ensures.scope ∙ scope) i)
    (root_planted e _ _ (c.in_ok-leaves.ensures.groups ∙ c.in_ok-plan.ensures.groups ∙ ap groups_of found) (c.in_ok-leaves.ensures.leaves ∙ c.in_ok-plan.ensures.leaves ∙ ap (numbered_cuts []) found) i)))

pub returns-clause-few : goal.returns-clause-few
returns-clause-few c =
    let e = c.args.expr.now.expr in
    let found = found_cuts e c.new-found.result.items _ c.deref.result.now c.new-found.ensures.items c.in_ok-add_cuts.ensures.cuts c.deref.ensures.value in
    let small : length c.deref.result.now < 2 ^ 64 = omega arith in
    few_cuts e c.deref.result.now found small
