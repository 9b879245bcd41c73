use Rattle.std.proofs.Common.{rules, ◌≡◌, ◌≤◌, ◌<◌, ap, sym, subst, ◌∙◌}
use Rattle.std.specs.List.{All}
use Rattle.scan_values.specs.DataType.{depth_of}
use Rattle.scan_expr.specs.Expr.{pack, expr_size}
use Rattle.scan_expr.specs.Infer.{infer}
use Rattle.scan_expr.specs.Bound.{Bound, bound_of, exprs_of}
use Rattle.scan_partition.specs.Rewrite.{rewritten}
use Rattle.scan_partition.specs.Rewritings.{rules_of}
use Rattle.scan_partition.proofs.Loops.{map_done, scopes_of, if_ok}
use Rattle.scan_partition.proofs.Rewriting.{part_smaller, part_fits, pack_fits, made_parts, again}
use Rattle.scan_partition.proofs.rewrite.+rewritten.Goals as goal

pub rewritten-requires-in-loop-part : goal.rewritten-requires-in-loop-part
rewritten-requires-in-loop-part t c =
    let smaller : expr_size c.part-item.result.expr < expr_size c.args.expr.now.expr =
    part_smaller c.in-Pack.names.now c.in-Pack.parts.now c.in-Pack.n _ c.loop-part.part-index c.part-item.result c.in-Pack.ensures.expr c.loop-part-test.true c.part-item.is in
    (search rules, part_fits (rules_of c.args.what c.args.scope.now.value) c.args.scope.now.value c.in-Pack.names.now c.in-Pack.parts.now c.in-Pack.n c.args.expr.now.expr c.loop-part.part-index c.part-item.result c.in-Pack.ensures.expr c.loop-part-test.true c.part-item.is c.requires)

pub pack-requires-clause-scopes : goal.pack-requires-clause-scopes
pack-requires-clause-scopes t c =
    let r = rules_of c.args.what c.args.scope.now.value in
    let s = c.args.scope.now.value in
    subst (All (λ (b : Bound). b.scope ≡ s)) (sym (map_done (again r s) c.in-Pack.parts.now c.loop-part.made.items c.loop-part.part-index c.loop-part-test.false c.loop-part.invariant)) (scopes_of s (λ (b : Bound). rewritten r b.expr) c.in-Pack.parts.now)

pub pack-requires-clause-shallow : goal.pack-requires-clause-shallow
pack-requires-clause-shallow t c =
    let r = rules_of c.args.what c.args.scope.now.value in
    let s = c.args.scope.now.value in
    subst (λ ps. depth_of (infer s (pack ps c.in-Pack.n)) ≤ 66)
    (sym (made_parts r s c.in-Pack.names.now c.in_ok-try_clone-in-Pack.field-0 c.in-Pack.parts.now c.loop-part.made.items c.loop-part.part-index c.in_ok-try_clone-in-Pack.ensures c.loop-part-test.false c.loop-part.invariant))
    (pack_fits r s c.in-Pack.names.now (exprs_of c.in-Pack.parts.now) c.in-Pack.n c.args.expr.now.expr c.in-Pack.ensures.expr c.requires)

pub returns-in_ok-try_clone-in-Pack : goal.returns-in_ok-try_clone-in-Pack
returns-in_ok-try_clone-in-Pack t c =
    let r = rules_of c.args.what c.args.scope.now.value in
    let s = c.args.scope.now.value in
    if_ok _ _ c.pack.result
    (λ b h.
    h ∙ ap (λ ps. bound_of s (pack ps c.in-Pack.n)) (made_parts r s c.in-Pack.names.now c.in_ok-try_clone-in-Pack.field-0 c.in-Pack.parts.now c.loop-part.made.items c.loop-part.part-index c.in_ok-try_clone-in-Pack.ensures c.loop-part-test.false c.loop-part.invariant)
    ∙ ap (λ e. bound_of s (rewritten r e)) c.in-Pack.ensures.expr)
    c.pack.ensures
