use Rattle.std.proofs.Common.{rules, ◌≡◌, ◌≤◌, ◌<◌, ◌+◌, ◌*◌, ap, sym, subst, ◌∙◌, arith, List}
use Rattle.std.specs.List.{All}
use Rattle.scan_values.specs.DataType.{depth_of}
use Rattle.scan_expr.specs.Expr.{pack, expr_size}
use Rattle.scan_expr.specs.Infer.{infer}
use Rattle.scan_expr.specs.Bound.{Bound, bound_of, exprs_of}
use Rattle.scan_partition.specs.Partition.{Leaf}
use Rattle.scan_partition.specs.Planted.{Planted, planted}
use Rattle.scan_partition.specs.Leaves.{groups_in, leaves_from, scope_in}
use Rattle.scan_partition.specs.Rewrite.{NodesHold}
use Rattle.scan_partition.proofs.Loops.{if_ok}
use Rattle.scan_partition.proofs.Planting.{sizes, parts_smaller, one_no_larger, made_step, left_step, fit_at, pack_listed, rest_listed, pack_all_fit, pack_depth, planted_leaf, scopes_bound, made_even, made_pack, leaf_first}
use Rattle.scan_partition.proofs.root.+planting.Goals as goal

pub plant-next_leaf-requires : goal.plant-next_leaf-requires
plant-next_leaf-requires t c =
    leaf_first (groups_in c.args.leaves.now) (scope_in c.args.leaves.now) (leaves_from c.args.at c.args.leaves.now) c.args.expr.now.expr _ (sym c.in-One.ensures) c.requires

pub plant-returns-in-One-clause-expr : goal.plant-returns-in-One-clause-expr
plant-returns-in-One-clause-expr t c =
    if_ok _ _ c.next_leaf.result
    (λ p h. h ∙ ap (λ (x : Planted). bound_of (scope_in c.args.leaves.now) x.0) (sym (planted_leaf (groups_in c.args.leaves.now) (leaves_from c.args.at c.args.leaves.now) c.args.expr.now.expr _ (sym c.in-One.ensures))))
    c.next_leaf.ensures.expr

pub plant-returns-in-One-clause-rest : goal.plant-returns-in-One-clause-rest
plant-returns-in-One-clause-rest t c =
    if_ok _ _ c.next_leaf.result
    (λ p h. h ∙ ap (λ (x : Planted). x.1) (sym (planted_leaf (groups_in c.args.leaves.now) (leaves_from c.args.at c.args.leaves.now) c.args.expr.now.expr _ (sym c.in-One.ensures))))
    c.next_leaf.ensures.rest

pub plant_all-plant-requires : goal.plant_all-plant-requires
plant_all-plant-requires t c =
    let gs = groups_in c.args.leaves.now in
    let ls = leaves_from c.args.at c.args.leaves.now in
    let small : expr_size c.expr-item.result.expr ≤ sizes (exprs_of c.args.exprs.now) = one_no_larger c.args.exprs.now c.loop-expr.expr-index c.expr-item.result c.loop-expr-test.true c.expr-item.is in
    let falls : 3 * expr_size c.expr-item.result.expr + 2 < 3 * sizes (exprs_of c.args.exprs.now) + 3 = omega arith in (
      search rules,
      subst (λ (l : List Leaf). NodesHold (scope_in c.args.leaves.now) (planted gs l c.expr-item.result.expr).0) (sym c.loop-expr.invariant.left)
          (fit_at gs (scope_in c.args.leaves.now) ls c.args.exprs.now c.loop-expr.expr-index c.expr-item.result c.loop-expr-test.true c.expr-item.is c.requires),
    )

pub plant_all-loop-expr-preserved : goal.plant_all-loop-expr-preserved
plant_all-loop-expr-preserved t c =
    let gs = groups_in c.args.leaves.now in
    let ls = leaves_from c.args.at c.args.leaves.now in
    let s = scope_in c.args.leaves.now in
    record {
      made = made_step gs s ls c.args.exprs.now c.loop-expr.planted.items _ c.loop-expr.expr-index c.expr-item.result c.in_ok-part.part c.loop-expr-test.true c.expr-item.is c.loop-expr.invariant.made
          (c.in_ok-part.ensures.expr ∙ ap (λ (l : List Leaf). bound_of s (planted gs l c.expr-item.result.expr).0) c.loop-expr.invariant.left) c.in_ok-push.ensures.items;
      left = c.in_ok-part.ensures.rest ∙ ap (λ (l : List Leaf). (planted gs l c.expr-item.result.expr).1) c.loop-expr.invariant.left
          ∙ left_step gs ls c.args.exprs.now c.loop-expr.expr-index c.expr-item.result c.loop-expr-test.true c.expr-item.is;
    }

pub plant_parts-plant_all-requires : goal.plant_parts-plant_all-requires
plant_parts-plant_all-requires t c =
    let gs = groups_in c.args.leaves.now in
    let ls = leaves_from c.args.at c.args.leaves.now in
    let small : sizes (exprs_of c.in-Pack.parts.now) < expr_size c.args.expr.now.expr = parts_smaller c.in-Pack.names.now c.in-Pack.parts.now c.in-Pack.n c.args.expr.now.expr c.in-Pack.ensures.expr in
    let falls : 3 * sizes (exprs_of c.in-Pack.parts.now) + 3 < 3 * expr_size c.args.expr.now.expr + 1 = omega arith in
    (search rules, pack_all_fit gs (scope_in c.args.leaves.now) ls c.in-Pack.names.now c.in-Pack.parts.now c.in-Pack.n c.args.expr.now.expr c.in-Pack.ensures.expr c.requires)

pub plant_parts-pack-requires-clause-even : goal.plant_parts-pack-requires-clause-even
plant_parts-pack-requires-clause-even t c =
    made_even (groups_in c.args.leaves.now) (leaves_from c.args.at c.args.leaves.now) (scope_in c.args.leaves.now) c.in-Pack.parts.now c.in_ok-parts-in-Pack.parts.items c.in-Pack.names.now c.in_ok-names-in-Pack.names
    c.in_ok-parts-in-Pack.ensures.exprs c.in-Pack.ensures.scope.1 c.in_ok-names-in-Pack.ensures

pub plant_parts-pack-requires-clause-scopes : goal.plant_parts-pack-requires-clause-scopes
plant_parts-pack-requires-clause-scopes t c = subst (All (λ (b : Bound). b.scope ≡ (scope_in c.args.leaves.now))) (sym c.in_ok-parts-in-Pack.ensures.exprs) (scopes_bound (scope_in c.args.leaves.now) _)

pub plant_parts-pack-requires-clause-shallow : goal.plant_parts-pack-requires-clause-shallow
plant_parts-pack-requires-clause-shallow t c =
    let gs = groups_in c.args.leaves.now in
    let ls = leaves_from c.args.at c.args.leaves.now in
    let s = scope_in c.args.leaves.now in
    subst (λ ps. depth_of (infer s (pack ps c.in-Pack.n)) ≤ 66)
    (sym (made_pack gs ls s c.in-Pack.parts.now c.in_ok-parts-in-Pack.parts.items c.in-Pack.names.now c.in_ok-names-in-Pack.names c.in_ok-parts-in-Pack.ensures.exprs c.in_ok-names-in-Pack.ensures))
    (pack_depth gs s ls c.in-Pack.names.now c.in-Pack.parts.now c.in-Pack.n c.args.expr.now.expr c.in-Pack.ensures.expr c.requires)

pub plant_parts-returns-in_ok-pack-in-Pack-clause-expr : goal.plant_parts-returns-in_ok-pack-in-Pack-clause-expr
plant_parts-returns-in_ok-pack-in-Pack-clause-expr t c =
    let gs = groups_in c.args.leaves.now in
    let ls = leaves_from c.args.at c.args.leaves.now in
    let s = scope_in c.args.leaves.now in
    c.in_ok-pack-in-Pack.ensures
    ∙ ap (λ ps. bound_of s (pack ps c.in-Pack.n)) (made_pack gs ls s c.in-Pack.parts.now c.in_ok-parts-in-Pack.parts.items c.in-Pack.names.now c.in_ok-names-in-Pack.names c.in_ok-parts-in-Pack.ensures.exprs c.in_ok-names-in-Pack.ensures)
    ∙ ap (bound_of s) (sym (pack_listed gs ls c.in-Pack.names.now c.in-Pack.parts.now c.in-Pack.n c.args.expr.now.expr c.in-Pack.ensures.expr))

pub plant_parts-returns-in_ok-pack-in-Pack-clause-rest : goal.plant_parts-returns-in_ok-pack-in-Pack-clause-rest
plant_parts-returns-in_ok-pack-in-Pack-clause-rest t c =
    c.in_ok-parts-in-Pack.ensures.rest
    ∙ rest_listed (groups_in c.args.leaves.now) (leaves_from c.args.at c.args.leaves.now) c.in-Pack.names.now c.in-Pack.parts.now c.in-Pack.n c.args.expr.now.expr c.in-Pack.ensures.expr
